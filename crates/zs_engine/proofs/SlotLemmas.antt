-- Lemmas about slots that are emptied and filled again.
use Rattle.std.proofs.Common.{◌≡◌, ◌≢◌, ◌<◌, ◌+◌, ◌==◌, ◌||◌, ℕ, zero, suc, Bool, true, false, cond}
use Rattle.std.proofs.Common.{List, [], ◌∷◌, ◌++◌, Option, Some, None, length, length-set, set-set}
use Rattle.std.proofs.Common.{refl, sym, ap, ◌∙◌, arith, slice_get, slice_set, append_assoc}
use Rattle.std.proofs.Common.{length-append, map, nat_cmp}
use Rattle.std.specs.Prelude.{option_to_list, option_map}
use Rattle.std.proofs.lemmas.Bool.Decides.{nat_tests, Decides-eqb}
use Rattle.std.proofs.lemmas.List.{length-map, set_comm, map-append}
use Rattle.std.proofs.lemmas.List.Concat.{flat_map_single}
use Rattle.std.proofs.lemmas.List.Folds.{flat_map-map}
use Rattle.std.proofs.lemmas.List.Sums.{sum_by-set}
use Rattle.std.proofs.lemmas.Option.{get_or_from_slice_get, slice_get_within}
use Rattle.std.specs.List.{AllByRecursion}
use Rattle.std.specs.List.Sorted.{IsStrictlySortedBy}
use Rattle.std.specs.declared.cmp.Ordering.TheVariants.{Less}
use Rattle.zs_drive.specs.Clocks.{AllBefore}
use Rattle.zs_drive.specs.Tasks.{TaskValue}
use Rattle.zs_pool.proofs.Places.{get_set, get_else}
use Rattle.zs_pool.specs.Rounds.{polled_at}
use Rattle.zs_engine.specs.Slots.{Slots, emptied, has, IsDistinct}
use Rattle.zs_engine.specs.Rounds.{job_of, jobs_in, polls_of, polls_in}

abbrev pub full : List TaskValue → Slots
full ts = map (λ t. Some t) ts

-- the element after some of the results of f is one of them too
pub taken-next : {X Y : Type 0} (f : X → Y) (before all : List X) (y : Y) (rest : List Y) →
    map f before ++ y ∷ rest ≡ map f all → (x : X) × (y ≡ f x)
taken-next f [] [] y rest is = cc
taken-next f [] (x ∷ all) y rest is = (x, cc)
taken-next f (u ∷ before) [] y rest is = cc
taken-next f (u ∷ before) (x ∷ all) y rest is = taken-next f before all y rest cc

-- ---- numbers
pub has-first : (n : ℕ) (left : List ℕ) → has n (n ∷ left) ≡ true
has-first n left = ap (λ (b : Bool). b || has n left) ((Decides-eqb n n).1 refl)

pub has-more : (n i : ℕ) (left : List ℕ) → has i left ≡ true → has i (n ∷ left) ≡ true
has-more n i left h = grind (arith, nat_tests)

apart : (x n : ℕ) (left : List ℕ) → has n (x ∷ left) ≡ false → x ≢ n
apart x n left once same = let clash : true ≡ false =
    sym (ap (λ (b : Bool). b || has n left) ((Decides-eqb n x).1 (sym same))) ∙ once in cc

others : (x n : ℕ) (left : List ℕ) → has n (x ∷ left) ≡ false → has n left ≡ false
others x n left once = grind (arith, nat_tests)

pub IsDistinct-sorted : (xs : List ℕ) → IsStrictlySortedBy nat_cmp xs → IsDistinct xs
unfolding IsStrictlySortedBy
IsDistinct-sorted [] s = tt
IsDistinct-sorted (x ∷ xs) s = (below x xs s.0, IsDistinct-sorted xs s.1)
  where
    below : (x : ℕ) (xs : List ℕ) → AllByRecursion (λ y. nat_cmp x y ≡ Less) xs → has x xs ≡ false
    below x [] h = refl
    below x (y ∷ ys) h =
        let rest : has x ys ≡ false = below x ys h.1 in
        let less : nat_cmp x y ≡ Less = h.0 in
        grind (arith, nat_tests)

pub AllBefore-range : (xs : List ℕ) (n : ℕ) → ((i : ℕ) → has i xs ≡ true → i < n) → AllBefore xs n
unfolding AllBefore
AllBefore-range [] n each = tt
AllBefore-range (x ∷ xs) n each =
    (each x (has-first x xs), AllBefore-range xs n (λ i h. each i (has-more x i xs h)))

-- ---- a slot that is set, and one that is pushed
pub get-set : (slots : Slots) (n : ℕ) (o : Option TaskValue) → n < length slots → (i : ℕ) →
    slice_get (slice_set slots n o) i ≡ cond (i == n) (Some o) (slice_get slots i)
get-set slots n o l i =
    elim (i == n) as
    (λ b. (i == n) ≡ b →
    slice_get (slice_set slots n o) i ≡ cond b (Some o) (slice_get slots i)) [
      | true ↦ λ is. let same : i ≡ n = (Decides-eqb i n).0 is in rw same (get_set slots n o l)
      | false ↦ λ is. get_else slots n i o (λ same. cc ((Decides-eqb i n).1 same, is))
    ] refl

pub get-push : (slots : Slots) (o : Option TaskValue) (i : ℕ) →
    slice_get (slots ++ o ∷ []) i ≡ cond (i == length slots) (Some o) (slice_get slots i)
get-push [] o zero = refl
get-push [] o (suc i) = let late : (suc i == 0) ≡ false = grind (arith, nat_tests) in rw late refl
get-push (p ∷ slots) o zero = let early : (0 == suc (length slots)) ≡ false =
    grind (arith, nat_tests) in rw early refl
get-push (p ∷ slots) o (suc i) = let both : (suc i == suc (length slots)) ≡ (i == length slots) =
    grind (arith, nat_tests) in rw both (get-push slots o i)

pub jobs_in-set : (slots : Slots) (n now : ℕ) (t : TaskValue) → slice_get slots n ≡ Some (Some t) →
    jobs_in (slice_set slots n (Some (polled_at now t))) ≡ jobs_in slots
jobs_in-set [] n now t e = refl
jobs_in-set (p ∷ slots) zero now t e = let same : p ≡ Some t = cc in rw same refl
jobs_in-set (p ∷ slots) (suc n) now t e = rw (jobs_in-set slots n now t e) refl

pub polls_in-set : (slots : Slots) (n now : ℕ) (t : TaskValue) → slice_get slots n ≡ Some (Some t) →
    polls_in (slice_set slots n (Some (polled_at now t))) ≡ polls_in slots + 1
polls_in-set slots n now t e =
    let was = ap polls_of (get_or_from_slice_get slots n (Some t) None e) in
    omega (
      arith,
      sum_by-set polls_of slots n (Some (polled_at now t)) None
          (slice_get_within slots n (Some t) e),
      was,
      length-append t.moments (now ∷ []),
    )

-- ---- slots of which none is empty
pub jobs_in-full : (ts : List TaskValue) → jobs_in (full ts) ≡ map job_of ts
jobs_in-full ts = flat_map-map (λ slot. option_to_list (option_map job_of slot)) (λ t. Some t) ts
    ∙ flat_map_single job_of ts

-- the number of slots is that of jobs
pub length-slots : (slots : Slots) (ts : List TaskValue) → slots ≡ full ts →
    length slots ≡ length (jobs_in slots)
length-slots slots ts same =
    rw (same, jobs_in-full ts) (length-map ts (λ t. Some t) ∙ sym (length-map ts job_of))

-- ---- the slots of a round
-- another slot has no influence
pub picks-set : (slots : Slots) (n : ℕ) (o : Option TaskValue) (left : List ℕ) →
    has n left ≡ false → map (slice_get (slice_set slots n o)) left ≡ map (slice_get slots) left
picks-set slots n o [] once = refl
picks-set slots n o (x ∷ left) once = rw (
  get_else slots n x o (apart x n left once),
  picks-set slots n o left (others x n left once),
) refl

pub emptied-set : (slots : Slots) (n : ℕ) (o : Option TaskValue) (left : List ℕ) →
    has n left ≡ false → slice_set (emptied slots left) n o ≡ emptied (slice_set slots n o) left
emptied-set slots n o [] once = refl
emptied-set slots n o (x ∷ left) once =
    emptied-set (slice_set slots x None) n o left (others x n left once)
    ∙ ap (λ (ps : Slots). emptied ps left) (set_comm slots x n None o (apart x n left once))

-- a task is put back into its slot
pub emptied-put : (slots : Slots) (n : ℕ) (o : Option TaskValue) (left : List ℕ) →
    has n left ≡ false →
    slice_set (emptied slots (n ∷ left)) n o ≡ emptied (slice_set slots n o) left
emptied-put slots n o left once =
    emptied-set (slice_set slots n None) n o left once ∙ ap (λ (ps : Slots). emptied ps left)
    (set-set slots n None o)

pub length-emptied : (slots : Slots) (numbers : List ℕ) →
    length (emptied slots numbers) ≡ length slots
length-emptied slots [] = refl
length-emptied slots (n ∷ numbers) =
    length-emptied (slice_set slots n None) numbers ∙ length-set slots n None

-- while tasks are taken out: these slots remain
pub record Lifting (old : Slots) (numbers : List ℕ) (slots : Slots) (left : List ℕ)
    (tasks : List TaskValue) : Type 0 where
  pub distinct : IsDistinct left
  pub taken : map (slice_get old) numbers ≡ map (λ task. Some (Some task)) tasks
      ++ map (slice_get slots) left
  pub emptied_all : emptied slots left ≡ emptied old numbers

pub lifting-step : (old : Slots) (numbers : List ℕ) (slots : Slots) (n : ℕ) (left : List ℕ)
    (tasks : List TaskValue) (t : TaskValue) → slice_get slots n ≡ Some (Some t)
    → Lifting old numbers slots (n ∷ left) tasks
    → Lifting old numbers (slice_set slots n None) left (tasks ++ t ∷ [])
lifting-step old numbers slots n left tasks t at l = record {
  distinct = l.distinct.1;
  taken = rw (
    map-append (λ task. Some (Some task)) tasks (t ∷ []),
    append_assoc,
    picks-set slots n None left l.distinct.0,
    ← at,
  ) l.taken;
  emptied_all = l.emptied_all;
}
