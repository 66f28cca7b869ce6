-- A take determines its result and the queue after it.
use Rattle.std.proofs.Common.{◌≡◌, ◌≢◌, ◌<◌, ◌≤◌, ◌==◌, ◌↔◌, ◌||◌, ℕ, Bool, true, false, List, []}
use Rattle.std.proofs.Common.{◌∷◌, Option, Some, None, refl, sym, ap, subst, ◌∙◌, arith, nat_lt}
use Rattle.std.proofs.Common.{nat_cmp}
use Rattle.std.proofs.lemmas.Bool.Decides.{nat_tests, Decides-eqb}
use Rattle.std.proofs.lemmas.Map.Keys.{sorted_from_strictly_increasing}
use Rattle.std.specs.List.{AllByRecursion}
use Rattle.std.specs.List.Sorted.{IsStrictlySortedBy}
use Rattle.std.specs.Cmp.{nat_cmp_total}
use Rattle.std.specs.FinMap as map_of
use Rattle.std.specs.declared.cmp.Ordering.TheVariants.{Less}
use Rattle.zs_agenda.specs.Timers.{Moments, Timers, Takes, TakesOneWay}
use Rattle.zs_agenda.specs.Indexes.{IsRising}
use Rattle.zs_agenda.proofs.IndexLemmas.{has, Contains-has-iff, weaker}

-- ---- rising lists
-- a number that compares as less is less
less-nat_cmp : (a b : ℕ) → nat_cmp a b ≡ Less → a < b
less-nat_cmp a b h = grind (arith, nat_tests)

-- a sorted list rises
rising-sorted : (js : List ℕ) → IsStrictlySortedBy nat_cmp js → IsRising js
unfolding IsStrictlySortedBy
rising-sorted [] h = tt
rising-sorted (j ∷ js) h = (
  weaker (λ k. nat_cmp j k ≡ Less) (λ k. j < k)
      (λ k l. less-nat_cmp j k l) js h.0,
  rising-sorted js h.1,
)

-- a job below all of a list is not in it
has-below : (q : ℕ) (js : List ℕ) → AllByRecursion (λ j. q < j) js → has q js ≡ false
has-below q [] h = refl
has-below q (j ∷ js) h =
    let rest : has q js ≡ false = has-below q js h.1 in
    let below : q < j = h.0 in
    let apart : (j == q) ≡ false = grind (arith, nat_tests) in
    rw (apart, rest) refl

-- a list has its head
has-head : (j : ℕ) (js : List ℕ) → has j (j ∷ js) ≡ true
has-head j js = ap (λ (b : Bool). b || has j js) ((Decides-eqb j j).1 refl)

-- what is below a head is below everything after it
below-all : (q j : ℕ) (js : List ℕ) → q < j → AllByRecursion (λ k. j < k) js →
    AllByRecursion (λ k. q < k) (j ∷ js)
below-all q j js l h = (l, weaker (λ k. j < k) (λ k. q < k) (λ k m. omega arith) js h)

-- the heads of rising lists with the same jobs are not one below the other
not-below : (j k : ℕ) (js ks : List ℕ) → AllByRecursion (λ i. k < i) ks →
    ((q : ℕ) → has q (j ∷ js) ≡ has q (k ∷ ks)) → k ≤ j
not-below j k js ks above same =
    elim (nat_lt j k) as (λ b. nat_lt j k ≡ b → k ≤ j) [
      | true ↦ λ is.
          let below : j < k = grind (arith, nat_tests) in
          let clash : true ≡ false =
          sym (has-head j js) ∙ same j ∙ has-below j (k ∷ ks) (below-all j k ks below above) in
          cc
      | false ↦ λ is. grind (arith, nat_tests)
    ] refl

-- rising lists with the same jobs still have the same jobs without their common head
same-tails : (j : ℕ) (js ks : List ℕ) → AllByRecursion (λ i. j < i) js →
    AllByRecursion (λ i. j < i) ks → ((q : ℕ) → has q (j ∷ js) ≡ has q (j ∷ ks)) → (q : ℕ) →
    has q js ≡ has q ks
same-tails j js ks a b same q =
    elim (j == q) as (λ t. (j == q) ≡ t → (t || has q js) ≡ (t || has q ks) → has q js ≡ has q ks) [
      | true ↦ λ is _.
          let head : j ≡ q = (Decides-eqb j q).0 is in
          ap (λ (n : ℕ). has n js) (sym head) ∙ has-below j js a ∙ sym (has-below j ks b)
          ∙ ap (λ (n : ℕ). has n ks) head
      | false ↦ λ _ rest. rest
    ] refl (same q)

-- rising lists with the same jobs are equal
same-jobs : (js ks : List ℕ) → IsRising js → IsRising ks → ((q : ℕ) → has q js ≡ has q ks) → js ≡ ks
same-jobs [] [] a b same = refl
same-jobs [] (k ∷ ks) a b same = let clash : false ≡ true = same k ∙ has-head k ks in cc
same-jobs (j ∷ js) [] a b same = let clash : true ≡ false = sym (has-head j js) ∙ same j in cc
same-jobs (j ∷ js) (k ∷ ks) a b same =
    let one : k ≤ j = not-below j k js ks b.0 same in
    let two : j ≤ k = not-below k j ks js a.0 (λ q. sym (same q)) in
    let heads : k ≡ j = omega arith in
    let other : AllByRecursion (λ i. j < i) ks =
    subst (λ (n : ℕ). AllByRecursion (λ i. n < i) ks) heads b.0 in
    let equal : (q : ℕ) → has q (j ∷ js) ≡ has q (j ∷ ks) =
    λ q. same q ∙ ap (λ (n : ℕ). has q (n ∷ ks)) heads in
    ap (λ (l : List ℕ). j ∷ l) (same-jobs js ks a.1 b.1 (same-tails j js ks a.0 other equal))
    ∙ ap (λ (n : ℕ). n ∷ ks) (sym heads)

-- truth values are equal if both are true together
same-bool : (a b : Bool) → ((a ≡ true) ↔ (b ≡ true)) → a ≡ b
same-bool true true h = refl
same-bool true false h = sym (h.0 refl)
same-bool false true h = h.1 refl
same-bool false false h = refl

-- two optional moments are equal if each moment is in both or in neither
same-option : (o p : Option ℕ) → ((r : ℕ) → (o ≡ Some r) ↔ (p ≡ Some r)) → o ≡ p
same-option None None h = refl
same-option None (Some y) h = (h y).1 refl
same-option (Some x) p h = sym ((h x).0 refl)

-- timers with the same fields
same-timers : (x y : Timers) → x.moments ≡ y.moments → x.last_taken ≡ y.last_taken → x ≡ y
same-timers x y m l =
    ap (λ (n : Moments). let made : Timers = record { moments = n; last_taken = x.last_taken } in
    made) m
    ∙ ap (λ (o : Option ℕ). let made : Timers = record { moments = y.moments; last_taken = o } in
    made) l

-- ---- two takes from one queue
module _ (old new other : Timers) (t s : ℕ) (jobs others : List ℕ) (a : Takes old new t jobs)
    (b : Takes old other s others) where
  -- they take the same moment
  same-moment : s ≡ t
  same-moment =
      let one : t ≤ s = a.is_least.least b.is_least.some_job.0 s b.is_least.some_job.1 in
      let two : s ≤ t = b.is_least.least a.is_least.some_job.0 t a.is_least.some_job.1 in
      omega arith

  -- each job is in both lists or in neither
  same-has : (q : ℕ) → has q others ≡ has q jobs
  same-has q =
      same-bool (has q others) (has q jobs) (
        (λ e. (Contains-has-iff q jobs).0
            ((a.all_jobs q).1 ((b.all_jobs q).0 ((Contains-has-iff q others).1 e)
            ∙ ap (λ (m : ℕ). Some m) same-moment))),
        (λ e. (Contains-has-iff q others).0
            ((b.all_jobs q).1 ((a.all_jobs q).0 ((Contains-has-iff q jobs).1 e)
            ∙ ap (λ (m : ℕ). Some m) (sym same-moment)))),
      )

  -- the lists are equal
  same-list : others ≡ jobs
  same-list =
      same-jobs others jobs
      (rising-sorted others (sorted_from_strictly_increasing others b.in_order))
      (rising-sorted jobs (sorted_from_strictly_increasing jobs a.in_order)) same-has

  -- each remaining job has the same moment
  same-left : (q : ℕ) → map_of.get other.moments q ≡ map_of.get new.moments q
  same-left q =
      same-option (map_of.get other.moments q) (map_of.get new.moments q) (λ r. (
        (λ e. let left : (map_of.get old.moments q ≡ Some r) × (r ≢ s) = (b.others_stay q r).0 e in
            (a.others_stay q r).1 (left.0, λ is. left.1 (is ∙ sym same-moment))),
        (λ e. let left : (map_of.get old.moments q ≡ Some r) × (r ≢ t) = (a.others_stay q r).0 e in
            (b.others_stay q r).1 (left.0, λ is. left.1 (is ∙ same-moment))),
      ))

  -- the queues after the takes are equal
  same-queue : other ≡ new
  same-queue =
      same-timers other new (map_of.same_map nat_cmp_total map_of.nat_cmp-IsAntisymmetric
      other.moments new.moments same-left)
      (b.is_last ∙ ap (λ (m : ℕ). Some m) same-moment ∙ sym a.is_last)

-- a take determines its result and the queue after it
pub takes-one-way : TakesOneWay
takes-one-way old new other t s jobs others a b = (
  same-moment old new other t s jobs others a b,
  same-list old new other t s jobs others a b,
  same-queue old new other t s jobs others a b,
)
