-- Lemmas about the two maps of an agenda.
use Rattle.std.proofs.Common.{◌≡◌, ◌≢◌, ◌<◌, ◌≤◌, ◌+◌, ◌==◌, ◌↔◌, ◌||◌, ℕ, suc, Bool, true, false}
use Rattle.std.proofs.Common.{cond, List, [], ◌∷◌, length, Option, Some, None, IsSome, Contains}
use Rattle.std.proofs.Common.{refl, sym, ap, subst, ◌∙◌, arith, nat_lt, nat_cmp, insert, unwrap_or}
use Rattle.std.proofs.Common.{◌-◌, slice_get}
use Rattle.std.proofs.lemmas.Bool.Decides.{nat_tests, Decides-eqb}
use Rattle.std.proofs.lemmas.List.Elements.{All-from_recursion, All-contains, Contains-append_right}
use Rattle.std.proofs.lemmas.Map.Keys.{IsStrictlyIncreasing-from_sorted, le_from_not_gt}
use Rattle.std.specs.List.{AllByRecursion, list_any, prefix_len}
use Rattle.std.specs.List.Sorted.{IsStrictlySortedBy, IsStrictlyIncreasing}
use Rattle.std.specs.Cmp.{nat_cmp_total, unsigned_tied}
use Rattle.std.specs.Ordering.{eq_by_cmp}
use Rattle.std.specs.FinMap as map_of
use Rattle.std.specs.BTreeMap as tree
use Rattle.std.specs.Map.{lookup}
use Rattle.std.specs.Global.{Vec}
use Rattle.std.specs.declared.cmp.Ordering.TheVariants.{Less}
use Rattle.zs_agenda.specs.Timers.{Moments, IsAfter, IsLeastMoment, Takes}
use Rattle.zs_agenda.specs.Indexes.{ByJob, ByMoment, Puts, Forgets, HasSameMoments, IsAgenda}
use Rattle.zs_agenda.specs.Indexes.{AreAll}
use Rattle.zs_agenda.specs.Indexes.{items_of, jobs_at, is_among, IsRising, placed, moments_of}
use Rattle.zs_agenda.specs.Indexes.{Agrees}

-- ---- lists of jobs
-- what is true of each element is true of each in a weaker form
pub weaker : {X : Type 0} (P Q : X → Type 0) → ((x : X) → P x → Q x) → (xs : List X) →
    AllByRecursion P xs → AllByRecursion Q xs
weaker P Q f [] h = tt
weaker P Q f (x ∷ xs) h = (f x h.0, weaker P Q f xs h.1)

-- whether the job is in the list
abbrev pub has : ℕ → List ℕ → Bool
has job jobs = list_any (λ j. j == job) jobs

-- a prefix is no longer than its list
pub prefix_len-le : {X : Type 0} (p : X → Bool) (xs : List X) → prefix_len p xs ≤ length xs
prefix_len-le p [] = omega arith
prefix_len-le p (x ∷ xs) =
    elim (p x) as (λ b. cond b (1 + prefix_len p xs) 0 ≤ suc (length xs)) [
      | true ↦ omega (arith, prefix_len-le p xs)
      | false ↦ omega arith
    ]

-- if the last of a rising list is less than a job, all are
pub all-less : (job last : ℕ) (js : List ℕ) → IsRising js →
    slice_get js (length js - 1) ≡ Some last → last < job →
    (length js ≡ prefix_len (λ j. nat_lt j job) js) × AllByRecursion (λ j. j < job) js
all-less job last [] h e l = (refl, tt)
all-less job last (j ∷ []) h e l =
    let same : j ≡ last = cc in
    let below : j < job = omega (arith, same, l) in
    let is : nat_lt j job ≡ true = grind (arith, nat_tests) in
    (rw is refl, (below, tt))
all-less job last (j ∷ k ∷ js) h e l =
    let at : suc (length js) ≡ length (j ∷ k ∷ js) - 1 = omega arith in
    let one : slice_get (k ∷ js) (length js) ≡ Some last =
    ap (λ (n : ℕ). slice_get (j ∷ k ∷ js) n) at ∙ e in
    let back : length (k ∷ js) - 1 ≡ length js = omega arith in
    let rest : (length (k ∷ js) ≡ prefix_len (λ i. nat_lt i job) (k ∷ js))
    × AllByRecursion (λ i. i < job) (k ∷ js) =
    all-less job last (k ∷ js) h.1 (ap (λ (n : ℕ). slice_get (k ∷ js) n) back ∙ one) l in
    let first : j < k = h.0.0 in
    let next : k < job = rest.1.0 in
    let below : j < job = omega (arith, first, next) in
    let is : nat_lt j job ≡ true = grind (arith, nat_tests) in
    let front : length (j ∷ k ∷ js) ≡ 1 + length (k ∷ js) = omega arith in
    (rw is (front ∙ ap (λ (n : ℕ). 1 + n) rest.0), (below, rest.1))

-- a job that is inserted after the lesser jobs is at its place
pub insert-is-placed : (job : ℕ) (js : List ℕ) →
    insert js (prefix_len (λ j. nat_lt j job) js) job ≡ placed job js
insert-is-placed job [] = refl
insert-is-placed job (j ∷ js) =
    let n : ℕ = prefix_len (λ k. nat_lt k job) js in
    elim (nat_lt j job) as
    (λ b. insert (j ∷ js) (cond b (1 + n) 0) job ≡ cond b (j ∷ placed job js) (job ∷ j ∷ js)) [
      | true ↦ let one : 1 + n ≡ suc n = omega arith in
          rw one (ap (λ (r : List ℕ). j ∷ r) (insert-is-placed job js))
      | false ↦ refl
    ]

-- the jobs of a list after an insertion
pub has-placed : (q job : ℕ) (js : List ℕ) → has q (placed job js) ≡ (job == q || has q js)
has-placed q job [] = refl
has-placed q job (j ∷ js) =
    let ih : has q (placed job js) ≡ (job == q || has q js) = has-placed q job js in
    elim (nat_lt j job) as (λ b. has q (cond b (j ∷ placed job js) (job ∷ j ∷ js))
    ≡ (job == q || (j == q || has q js))) [
      | true ↦ rw ih (or-swap (j == q) (job == q) (has q js))
      | false ↦ refl
    ]
  where
    or-swap : (a b c : Bool) → (a || (b || c)) ≡ (b || (a || c))
    or-swap true true c = refl
    or-swap true false c = refl
    or-swap false b c = refl

-- what is true of the job and of the list is true of the list with the job
AllByRecursion-placed : (P : ℕ → Type 0) (job : ℕ) (js : List ℕ) → P job → AllByRecursion P js →
    AllByRecursion P (placed job js)
AllByRecursion-placed P job [] p h = (p, tt)
AllByRecursion-placed P job (j ∷ js) p h =
    elim (nat_lt j job) as (λ b. AllByRecursion P (cond b (j ∷ placed job js) (job ∷ j ∷ js))) [
      | true ↦ (h.0, AllByRecursion-placed P job js p h.1)
      | false ↦ (p, h)
    ]

-- a job that is not in a list is not its head
has-no-head : (q j : ℕ) (js : List ℕ) → has q (j ∷ js) ≡ false → (j == q) ≡ false
has-no-head q j js h = grind (arith, nat_tests)

-- a job that is not in a list is not in its tail
has-no-tail : (q j : ℕ) (js : List ℕ) → has q (j ∷ js) ≡ false → has q js ≡ false
has-no-tail q j js h = grind (arith, nat_tests)

-- a rising list still rises after a new job is inserted at its place
pub IsRising-placed : (job : ℕ) (js : List ℕ) → IsRising js → has job js ≡ false →
    IsRising (placed job js)
IsRising-placed job [] h n = (tt, tt)
IsRising-placed job (j ∷ js) h n =
    let apart : (j == job) ≡ false = has-no-head job j js n in
    elim (nat_lt j job) as
    (λ b. nat_lt j job ≡ b → IsRising (cond b (j ∷ placed job js) (job ∷ j ∷ js))) [
      | true ↦ λ is.
          let below : j < job = grind (arith, nat_tests) in (
            AllByRecursion-placed (λ k. j < k) job js below h.0,
            IsRising-placed job js h.1 (has-no-tail job j js n),
          )
      | false ↦ λ is.
          let below : job < j = grind (arith, nat_tests) in
          ((below, weaker (λ k. j < k) (λ k. job < k) (λ k l. omega arith) js h.0), h)
    ] refl

-- a list after an insertion isn't empty
pub placed-not_empty : (job : ℕ) (js : List ℕ) → placed job js ≢ []
placed-not_empty job [] = λ e. cc
placed-not_empty job (j ∷ js) =
    elim (nat_lt j job) as (λ b. cond b (j ∷ placed job js) (job ∷ j ∷ js) ≢ [])
    [ true ↦ λ e. cc | false ↦ λ e. cc ]

-- a job that the test finds is an element
Contains-has : (q : ℕ) (js : List ℕ) → has q js ≡ true → Contains js q
Contains-has q [] h = let no : false ≡ true = h in cc
Contains-has q (j ∷ js) h =
    elim (j == q) as (λ b. (j == q) ≡ b → (b || has q js) ≡ true → Contains (j ∷ js) q) [
      | true ↦ λ is _. (0, (omega arith), (Decides-eqb j q).0 is)
      | false ↦ λ _ rest. Contains-append_right (j ∷ []) js q (Contains-has q js rest)
    ] refl h

-- the test finds each element
has-each : (js : List ℕ) → AllByRecursion (λ q. has q js ≡ true) js
has-each [] = tt
has-each (j ∷ js) = (
  ap (λ (b : Bool). b || has j js) ((Decides-eqb j j).1 refl),
  weaker (λ q. has q js ≡ true) (λ q. has q (j ∷ js) ≡ true) (λ q h. grind (arith, nat_tests)) js
      (has-each js),
)

-- the test finds exactly the elements
pub Contains-has-iff : (q : ℕ) (js : List ℕ) → Contains js q ↔ (has q js ≡ true)
Contains-has-iff q js = (
  (λ c. All-contains (λ j. has j js ≡ true) js q (All-from_recursion _ _ (has-each js)) c),
  Contains-has q js,
)

-- a lesser number compares as less
nat_cmp-Less : (a b : ℕ) → a < b → nat_cmp a b ≡ Less
nat_cmp-Less a b h = grind (arith, nat_tests)

-- a rising list is sorted
sorted : (js : List ℕ) → IsRising js → IsStrictlySortedBy nat_cmp js
unfolding IsStrictlySortedBy
sorted [] h = tt
sorted (j ∷ js) h = (
  weaker (λ k. j < k) (λ k. nat_cmp j k ≡ Less) (λ k l. nat_cmp-Less j k l) js
      h.0,
  sorted js h.1,
)

-- a rising list increases strictly
pub IsStrictlyIncreasing-rising : (js : List ℕ) → IsRising js → IsStrictlyIncreasing js
IsStrictlyIncreasing-rising js h = IsStrictlyIncreasing-from_sorted js (sorted js h)

-- a list that is not empty has a job
pub has-first : (js : List ℕ) → js ≢ [] → (q : ℕ) × (has q js ≡ true)
has-first [] h = absurd (h refl)
has-first (j ∷ js) h = (j, ap (λ (b : Bool). b || has j js) ((Decides-eqb j j).1 refl))

-- ---- look-ups
-- two ways to look up a job in the entries
find-lookup : (q : ℕ) (es : List (ℕ × ℕ)) →
    map_of.find nat_cmp q es ≡ lookup (tree.is_at (nat_cmp q)) es
find-lookup q [] = refl
find-lookup q (e ∷ es) =
    ap (λ (o : Option ℕ). cond (tree.is_at (nat_cmp q) e.0) (Some e.1) o) (find-lookup q es)

-- callers see the moment that the job has
pub get-moments_of : (m : ByJob) (q : ℕ) → map_of.get (moments_of m) q ≡ tree.get nat_cmp m q
get-moments_of m q = map_of.get-from_entries nat_cmp_total m.entries q ∙ find-lookup q m.entries

-- maps with the same look-ups look the same to callers
pub same_moments : (m n : ByJob) → ((q : ℕ) → tree.get nat_cmp n q ≡ tree.get nat_cmp m q) →
    moments_of n ≡ moments_of m
same_moments m n h =
    map_of.same_map nat_cmp_total map_of.nat_cmp-IsAntisymmetric _ _
    (λ q. get-moments_of n q ∙ h q ∙ sym (get-moments_of m q))

-- a map in which no job is found looks empty to callers
pub no_moments : (m : ByJob) → ((q : ℕ) → tree.get nat_cmp m q ≡ None) → moments_of m ≡ map_of.empty
no_moments m h =
    map_of.same_map nat_cmp_total map_of.nat_cmp-IsAntisymmetric _ _
    (λ q. get-moments_of m q ∙ h q ∙ sym (map_of.get-empty nat_cmp q))

-- a key's place is the one with an equal key
pub tied : (a b : ℕ) → tree.is_at (nat_cmp a) b ≡ (a == b)
tied a b = unsigned_tied a b

-- ---- a job that is added
module _ (jobs_of jobs_of' : ℕ → Option (List ℕ)) (moment_of moment_of' : ℕ → Option ℕ)
    (taken : Option ℕ) where
  -- the invariant depends only on the look-ups
  pub same-Agrees : ((t : ℕ) → jobs_of' t ≡ jobs_of t) → ((q : ℕ) → moment_of' q ≡ moment_of q) →
      Agrees jobs_of moment_of taken → Agrees jobs_of' moment_of' taken
  same-Agrees l f h = record {
    agree = λ q t. rw (f q, l t) (h.agree q t);
    rising = λ t js e. h.rising t js (sym (l t) ∙ e);
    not_empty = λ t js e. h.not_empty t js (sym (l t) ∙ e);
    later = λ q t e. h.later q t (sym (f q) ∙ e);
  }

  module _ (job moment : ℕ)
      (l : (t : ℕ) →
      jobs_of' t ≡ cond (t == moment) (Some (placed job (unwrap_or (jobs_of moment) [])))
      (jobs_of t)) (f : (q : ℕ) → moment_of' q ≡ cond (job == q) (Some moment) (moment_of q)) where
    -- a missing list counts as the empty list
    is_among-unwrap : (q : ℕ) (o : Option (List ℕ)) → has q (unwrap_or o []) ≡ is_among q o
    is_among-unwrap q None = refl
    is_among-unwrap q (Some js) = refl

    -- the jobs at each moment, after one was added
    among_new : (q t : ℕ) →
        is_among q (jobs_of' t) ≡ cond (t == moment) (job == q || is_among q (jobs_of moment))
        (is_among q (jobs_of t))
    among_new q t =
        rw (l t) (
        elim (t == moment) as
        (λ b. is_among q (cond b (Some (placed job (unwrap_or (jobs_of moment) [])))
        (jobs_of t)) ≡ cond b (job == q || is_among q (jobs_of moment))
        (is_among q (jobs_of t))) [
          | true ↦ has-placed q job (unwrap_or (jobs_of moment) [])
              ∙ ap (λ (b : Bool). job == q || b) (is_among-unwrap q (jobs_of moment))
          | false ↦ refl
        ])

    -- the two maps agree after a job was added
    pub added-agree : Agrees jobs_of moment_of taken → moment_of job ≡ None → (q t : ℕ) →
        (moment_of' q ≡ Some t) ↔ (is_among q (jobs_of' t) ≡ true)
    added-agree h none q t =
        rw (f q, among_new q t) (
        elim (job == q) as (λ b. (job == q) ≡ b → (cond b (Some moment) (moment_of q) ≡ Some t)
        ↔ (cond (t == moment) (b || is_among q (jobs_of moment)) (is_among q (jobs_of t))
        ≡ true)) [
          | true ↦ λ is.
              let same : q ≡ job = sym ((Decides-eqb job q).0 is) in
              elim (t == moment) as (λ b. (t == moment) ≡ b →
              (Some moment ≡ Some t) ↔ (cond b true (is_among q (jobs_of t)) ≡ true)) [
                | true ↦ λ at.
                    ((λ _. refl), (λ _. ap (λ (m : ℕ). Some m) (sym ((Decides-eqb t moment).0 at))))
                | false ↦ λ at. (
                  (λ e. let at_moment : t ≡ moment = cc in
                      let clash : true ≡ false = sym ((Decides-eqb t moment).1 at_moment) ∙ at in
                      cc),
                  (λ e. let set : moment_of q ≡ Some t = (h.agree q t).1 e in
                      let clash : None ≡ Some t = sym none ∙ ap moment_of (sym same) ∙ set in cc),
                )
              ] refl
          | false ↦ λ _.
              elim (t == moment) as (λ b. (t == moment) ≡ b → (moment_of q ≡ Some t)
              ↔ (cond b (is_among q (jobs_of moment)) (is_among q (jobs_of t)) ≡ true)) [
                | true ↦ λ at. rw (sym ((Decides-eqb t moment).0 at)) (h.agree q t)
                | false ↦ λ _. h.agree q t
              ] refl
        ] refl)

    -- a job without a moment is in no list
    not_among : Agrees jobs_of moment_of taken → moment_of job ≡ None →
        has job (unwrap_or (jobs_of moment) []) ≡ false
    not_among h none =
        rw (is_among-unwrap job (jobs_of moment)) (
        elim (is_among job (jobs_of moment)) as
        (λ b. is_among job (jobs_of moment) ≡ b → b ≡ false) [
          | true ↦ λ is. let set : moment_of job ≡ Some moment = (h.agree job moment).1 is in
              let clash : None ≡ Some moment = sym none ∙ set in cc
          | false ↦ λ _. refl
        ] refl)

    -- the list to which a job is added rises
    rising_before : Agrees jobs_of moment_of taken → (o : Option (List ℕ)) → jobs_of moment ≡ o →
        IsRising (unwrap_or o [])
    rising_before h None e = tt
    rising_before h (Some js) e = h.rising moment js e

    -- what is true of the list with the job and of the others is true of each list after the
    -- addition
    new_list : (P : List ℕ → Type 0) → P (placed job (unwrap_or (jobs_of moment) [])) →
        ((t : ℕ) (js : List ℕ) → jobs_of t ≡ Some js → P js) → (t : ℕ) (js : List ℕ) →
        jobs_of' t ≡ Some js → P js
    new_list P here others t js e =
        elim (t == moment) as (λ b. cond b (Some (placed job (unwrap_or (jobs_of moment) [])))
        (jobs_of t) ≡ Some js → P js) [
          | true ↦ λ is. let same : placed job (unwrap_or (jobs_of moment) []) ≡ js = cc in
              subst P same here
          | false ↦ λ is. others t js is
        ] (sym (l t) ∙ e)

    -- the invariant is true after a job was added
    pub added-Agrees : Agrees jobs_of moment_of taken → moment_of job ≡ None →
        IsAfter taken moment → Agrees jobs_of' moment_of' taken
    added-Agrees h none after = record {
      agree = added-agree h none;
      rising = new_list IsRising (IsRising-placed job _ (rising_before h (jobs_of moment) refl)
          (not_among h none)) h.rising;
      not_empty = new_list (λ js. js ≢ []) (placed-not_empty job _) h.not_empty;
      later = λ q t e.
          elim (job == q) as (λ b. cond b (Some moment) (moment_of q) ≡ Some t → IsAfter taken t) [
            | true ↦ λ is. let same : moment ≡ t = cc in
                subst (λ (m : ℕ). IsAfter taken m) same after
            | false ↦ λ is. h.later q t is
          ] (sym (f q) ∙ e);
    }

-- ---- the least moment
-- what the jobs at a first moment say of the moments of all jobs
pub record IsFirst (jobs_of : ℕ → Option (List ℕ)) (t : ℕ) (js : List ℕ) : Type 0 where
  pub here : jobs_of t ≡ Some js
  pub least : (s : ℕ) (ks : List ℕ) → jobs_of s ≡ Some ks → t ≤ s

-- a job among some jobs has a list
list_of : (q : ℕ) (o : Option (List ℕ)) → is_among q o ≡ true → (ks : List ℕ) × (o ≡ Some ks)
list_of q None h = let no : false ≡ true = h in cc
list_of q (Some ks) h = (ks, refl)

module _ (jobs_of : ℕ → Option (List ℕ)) (moment_of : ℕ → Option ℕ) (taken : Option ℕ) (t : ℕ)
    (js : List ℕ) where
  -- some job is set for the first moment
  pub first-set : Agrees jobs_of moment_of taken → IsFirst jobs_of t js →
      (q : ℕ) × (moment_of q ≡ Some t)
  first-set h i =
      let some : (q : ℕ) × (has q js ≡ true) = has-first js (h.not_empty t js i.here) in
      (some.0, (h.agree some.0 t).1 (ap (is_among some.0) i.here ∙ some.1))

  -- no job is set for an earlier moment
  pub first-least : Agrees jobs_of moment_of taken → IsFirst jobs_of t js → (q s : ℕ) →
      moment_of q ≡ Some s → t ≤ s
  first-least h i q s e =
      let list : (ks : List ℕ) × (jobs_of s ≡ Some ks) =
      list_of q (jobs_of s) ((h.agree q s).0 e) in
      i.least s list.0 list.1

  -- the first moment is later than the last one taken
  pub first-after : Agrees jobs_of moment_of taken → IsFirst jobs_of t js → IsAfter taken t
  first-after h i = let some : (q : ℕ) × (moment_of q ≡ Some t) = first-set h i in
      h.later some.0 t some.1

  -- the first list has exactly the jobs that are set for its moment
  pub first-jobs : Agrees jobs_of moment_of taken → IsFirst jobs_of t js → (q : ℕ) →
      (moment_of q ≡ Some t) ↔ (has q js ≡ true)
  first-jobs h i q = subst (λ (o : Option (List ℕ)). (moment_of q ≡ Some t) ↔ (is_among q o ≡ true))
      i.here (h.agree q t)

  module _ (jobs_of' : ℕ → Option (List ℕ)) (moment_of' : ℕ → Option ℕ)
      (l : (s : ℕ) → jobs_of' s ≡ cond (t == s) None (jobs_of s))
      (f : (q : ℕ) → moment_of' q ≡ cond (has q js) None (moment_of q)) where
    -- the other jobs have the same moments once the first list is removed
    pub taken-others : Agrees jobs_of moment_of taken → IsFirst jobs_of t js → (q s : ℕ) →
        (moment_of' q ≡ Some s) ↔ ((moment_of q ≡ Some s) × (s ≢ t))
    taken-others h i q s =
        rw (f q) (
        elim (has q js) as (λ b. has q js ≡ b → (cond b None (moment_of q) ≡ Some s)
        ↔ ((moment_of q ≡ Some s) × (s ≢ t))) [
          | true ↦ λ is. (
            (λ e. let clash : None ≡ Some s = e in cc),
            (λ e. let set : moment_of q ≡ Some t = (first-jobs h i q).1 is in
                let both : Some s ≡ Some t = sym e.0 ∙ set in
                let same : s ≡ t = cc in absurd (e.1 same)),
          )
          | false ↦ λ is. (
            (λ e. (
              e,
              λ same. let set : has q js ≡ true =
                  (first-jobs h i q).0 (e ∙ ap (λ (m : ℕ). Some m) same) in
                  let clash : true ≡ false = sym set ∙ is in cc,
            )),
            (λ e. e.0),
          )
        ] refl)

    -- a remaining list is an old one of another moment
    left-list : (s : ℕ) (ks : List ℕ) → jobs_of' s ≡ Some ks → (jobs_of s ≡ Some ks) × (s ≢ t)
    left-list s ks e =
        elim (t == s) as (λ b. (t == s) ≡ b → cond b None (jobs_of s) ≡ Some ks →
        (jobs_of s ≡ Some ks) × (s ≢ t)) [
          | true ↦ λ _ n. let clash : None ≡ Some ks = n in cc
          | false ↦ λ is k. (
            k,
            λ same. let at : (t == s) ≡ true = (Decides-eqb t s).1 (sym same) in
                let clash : true ≡ false = sym at ∙ is in cc,
          )
        ] refl (sym (l s) ∙ e)

    -- the jobs at the remaining moments
    left-among : (q s : ℕ) → (is_among q (jobs_of' s) ≡ true)
        ↔ ((is_among q (jobs_of s) ≡ true) × (s ≢ t))
    left-among q s =
        rw (l s) (
        elim (t == s) as (λ b. (t == s) ≡ b → (is_among q (cond b None (jobs_of s)) ≡ true)
        ↔ ((is_among q (jobs_of s) ≡ true) × (s ≢ t))) [
          | true ↦ λ is. (
            (λ e. let clash : false ≡ true = e in cc),
            (λ e. absurd (e.1 (sym ((Decides-eqb t s).0 is)))),
          )
          | false ↦ λ is. (
            (λ e. (
              e,
              λ same. let at : (t == s) ≡ true = (Decides-eqb t s).1 (sym same) in
                  let clash : true ≡ false = sym at ∙ is in cc,
            )),
            (λ e. e.0),
          )
        ] refl)

    -- the invariant is true once the first list is removed
    pub taken-Agrees : Agrees jobs_of moment_of taken → IsFirst jobs_of t js →
        Agrees jobs_of' moment_of' (Some t)
    taken-Agrees h i = record {
      agree = λ q s. (
        (λ e. let o : (moment_of q ≡ Some s) × (s ≢ t) = (taken-others h i q s).0 e in
            (left-among q s).1 ((h.agree q s).0 o.0, o.1)),
        (λ e. let o : (is_among q (jobs_of s) ≡ true) × (s ≢ t) = (left-among q s).0 e in
            (taken-others h i q s).1 ((h.agree q s).1 o.0, o.1)),
      );
      rising = λ s ks e. h.rising s ks (left-list s ks e).0;
      not_empty = λ s ks e. h.not_empty s ks (left-list s ks e).0;
      later = λ q s e.
          let o : (moment_of q ≡ Some s) × (s ≢ t) = (taken-others h i q s).0 e in
          let at_least : t ≤ s = first-least h i q s o.0 in
          let apart : s ≢ t = o.1 in
          omega arith;
    }

-- ---- jobs that are removed one by one
-- removed now or before
pub cond-or : (a b : Bool) (o : Option ℕ) → cond b None (cond a None o) ≡ cond (a || b) None o
cond-or true true o = refl
cond-or true false o = refl
cond-or false true o = refl
cond-or false false o = refl

-- one more job is removed
pub forget_more : (x q : ℕ) (b : Bool) (new old first : Option ℕ) →
    new ≡ cond (tree.is_at (nat_cmp x) q) None old → old ≡ cond b None first →
    new ≡ cond (b || (x == q)) None first
forget_more x q b new old first n o =
    n ∙ ap (λ (t : Bool). cond t None old) (tied x q) ∙ ap (λ (p : Option ℕ). cond (x == q) None p)
    o ∙ cond-or b (x == q) first

-- ---- the first entry of the map by moment
-- a list comes from a vector
some_items : (o : Option (Vec ℕ)) (ks : List ℕ) → items_of o ≡ Some ks → IsSome o
some_items None ks e = let no : None ≡ Some ks = e in cc
some_items (Some v) ks e = refl

-- the first entry of the map by moment
pub first-of : (m : ByMoment) (t : ℕ) (v : Vec ℕ) → tree.get nat_cmp m t ≡ Some v →
    tree.IsLowerBound nat_cmp m t → IsFirst (jobs_at m) t v.items
first-of m t v here least = record {
  here = ap items_of here;
  least = λ s ks e. le_from_not_gt t s (least s (some_items (tree.get nat_cmp m s) ks e));
}

-- nothing is found in an empty map
no_entry : (es : List (ℕ × Vec ℕ)) → (0 < length es → ⊥) → (t : ℕ) →
    lookup (tree.is_at (nat_cmp t)) es ≡ None
no_entry [] h t = refl
no_entry (e ∷ es) h t = absurd (h (omega arith))

module _ (m : ByMoment) (n : ByJob) (taken : Option ℕ) (h : IsAgenda m n taken) where
  -- the first moment is the least, as callers see it
  pub least-moment : (t : ℕ) (js : List ℕ) → IsFirst (jobs_at m) t js →
      IsLeastMoment (moments_of n) t
  least-moment t js i = record {
    some_job = let set : (q : ℕ) × (tree.get nat_cmp n q ≡ Some t) = first-set _ _ taken t js h i in
        (set.0, get-moments_of n set.0 ∙ set.1);
    least = λ q s e. first-least (jobs_at m) (tree.get nat_cmp n) taken t js h i q s
        (sym (get-moments_of n q) ∙ e);
  }

  -- with a first list, callers see a queue that isn't empty
  pub some-moment : (t : ℕ) (js : List ℕ) → IsFirst (jobs_at m) t js →
      moments_of n ≡ map_of.empty → ⊥
  some-moment t js i e =
      let set : (q : ℕ) × (tree.get nat_cmp n q ≡ Some t) = first-set _ _ taken t js h i in
      let none : map_of.get (moments_of n) set.0 ≡ None =
      ap (λ (k : Moments). map_of.get k set.0) e ∙ map_of.get-empty nat_cmp set.0 in
      let some : None ≡ Some t = sym none ∙ get-moments_of n set.0 ∙ set.1 in
      cc

  -- without a list no job is set
  no_job : ((t : ℕ) → jobs_at m t ≡ None) → (q : ℕ) (o : Option ℕ) →
      tree.get nat_cmp n q ≡ o → o ≡ None
  no_job none q None e = refl
  no_job none q (Some t) e =
      let among : is_among q (jobs_at m t) ≡ true = (h.agree q t).0 e in
      let clash : false ≡ true = sym (ap (is_among q) (none t)) ∙ among in cc

  -- without a list, callers see an empty queue
  pub no-moment : (0 < length m.entries → ⊥) → moments_of n ≡ map_of.empty
  no-moment e = no_moments n (λ q. no_job (λ t. ap items_of (no_entry m.entries e t)) q
      (tree.get nat_cmp n q) refl)

-- equality is symmetric
eqb-swap : (a b : ℕ) → (a == b) ≡ (b == a)
eqb-swap a b = grind (arith, nat_tests)

-- ---- the moments after a job was added
-- callers see the moments with the added one
pub moments_of-put : (m n : ByJob) (job moment : ℕ) → Puts m n job moment →
    moments_of n ≡ map_of.insert (moments_of m) job moment
moments_of-put m n job moment p =
    map_of.same_map nat_cmp_total map_of.nat_cmp-IsAntisymmetric _ _ (λ q.
    get-moments_of n q ∙ p q
    ∙ ap (λ (b : Bool). cond b (Some moment) (tree.get nat_cmp m q))
    (eqb-swap job q ∙ sym (unsigned_tied q job))
    ∙ ap (λ (o : Option ℕ). cond (eq_by_cmp nat_cmp q job) (Some moment) o)
    (sym (get-moments_of m q))
    ∙ sym (map_of.get-insert nat_cmp_total (moments_of m) job moment q))

-- a job that was added and removed again
pub put_and_forgotten : (m n k : ByJob) (job moment : ℕ) → tree.get nat_cmp m job ≡ None →
    Puts m n job moment → Forgets n k (job ∷ []) → HasSameMoments m k
put_and_forgotten m n k job moment none p f q =
    f q ∙ elim (job == q) as
    (λ b. (job == q) ≡ b → cond (b || false) None (tree.get nat_cmp n q) ≡ tree.get nat_cmp m q) [
      | true ↦ λ is. let same : job ≡ q = (Decides-eqb job q).0 is in
          sym none ∙ ap (tree.get nat_cmp m) same
      | false ↦ λ is. p q ∙ ap (λ (b : Bool). cond b (Some moment) (tree.get nat_cmp m q)) is
    ] refl

-- ---- the queue after a take of the first moment
-- the lists once the first entry is gone
pub popped : (m n : ByMoment) (t : ℕ) →
    ((s : ℕ) → tree.get nat_cmp n s ≡ cond (tree.is_at (nat_cmp t) s) None (tree.get nat_cmp m s)) →
    (s : ℕ) → jobs_at n s ≡ cond (t == s) None (jobs_at m s)
popped m n t u s =
    ap items_of (u s) ∙ outer (tree.is_at (nat_cmp t) s) (tree.get nat_cmp m s)
    ∙ ap (λ (b : Bool). cond b None (jobs_at m s)) (tied t s)
  where
    outer : (b : Bool) (o : Option (Vec ℕ)) → items_of (cond b None o) ≡ cond b None (items_of o)
    outer true o = refl
    outer false o = refl

-- a take that leaves no moment has taken all jobs
pub taken-all : (m m' : ByMoment) (n : ByJob) (taken : Option ℕ) (t : ℕ) (v : Vec ℕ) (js : List ℕ) →
    IsAgenda m n taken → tree.get nat_cmp m t ≡ Some v →
    ((s : ℕ) → tree.get nat_cmp m' s ≡ cond (tree.is_at (nat_cmp t) s) None
    (tree.get nat_cmp m s)) → js ≡ v.items → AreAll m' n js
taken-all m m' n taken t v js h here u same none q absent = go (tree.get nat_cmp n q) refl
  where
    left : (s : ℕ) → jobs_at m' s ≡ None
    left s = ap items_of (no_entry m'.entries (λ l. omega (arith, none)) s)

    go : (o : Option ℕ) → tree.get nat_cmp n q ≡ o → o ≡ None
    go None e = refl
    go (Some s) e =
        let among : is_among q (jobs_at m s) ≡ true = (h.agree q s).0 e in
        elim (t == s) as (λ b. (t == s) ≡ b → Some s ≡ None) [
          | true ↦ λ is.
              let at : t ≡ s = (Decides-eqb t s).0 is in
              let list : jobs_at m s ≡ Some v.items = ap (jobs_at m) (sym at) ∙ ap items_of here in
              let has_it : has q v.items ≡ true = sym (ap (is_among q) list) ∙ among in
              let clash : true ≡ false = sym has_it ∙ ap (has q) (sym same) ∙ absent in
              cc
          | false ↦ λ is.
              let kept : jobs_at m' s ≡ jobs_at m s =
              popped m m' t u s ∙ ap (λ (b : Bool). cond b None (jobs_at m s)) is in
              let gone : jobs_at m s ≡ None = sym kept ∙ left s in
              let clash : false ≡ true = sym (ap (is_among q) gone) ∙ among in
              cc
        ] refl

module _ (m m' : ByMoment) (n n' : ByJob) (taken : Option ℕ) (t : ℕ) (v : Vec ℕ) (js : List ℕ)
    (h : IsAgenda m n taken) (here : tree.get nat_cmp m t ≡ Some v)
    (least : tree.IsLowerBound nat_cmp m t)
    (u : (s : ℕ) → tree.get nat_cmp m' s ≡ cond (tree.is_at (nat_cmp t) s) None
    (tree.get nat_cmp m s)) (same : js ≡ v.items) (f : Forgets n n' js) where
  -- the first list
  first : IsFirst (jobs_at m) t v.items
  first = first-of m t v here least

  -- the moments once the taken jobs are removed
  out : (q : ℕ) → tree.get nat_cmp n' q ≡ cond (has q v.items) None (tree.get nat_cmp n q)
  out q = f q ∙ ap (λ (l : List ℕ). cond (has q l) None (tree.get nat_cmp n q)) same

  -- the invariant is true after a take
  pub take-IsAgenda : IsAgenda m' n' (Some t)
  take-IsAgenda = taken-Agrees (jobs_at m) (tree.get nat_cmp n) taken t v.items (jobs_at m')
      (tree.get nat_cmp n') (popped m m' t u) out h first

  -- a take, as callers see it
  pub take-Takes : Takes (record { moments = moments_of n; last_taken = taken })
      (record { moments = moments_of n'; last_taken = Some t }) t v.items
  take-Takes = record {
    is_least = least-moment m n taken h t v.items first;
    is_after = first-after (jobs_at m) (tree.get nat_cmp n) taken t v.items h first;
    all_jobs = λ q.
        let one : (tree.get nat_cmp n q ≡ Some t) ↔ (has q v.items ≡ true) =
        first-jobs (jobs_at m) (tree.get nat_cmp n) taken t v.items h first q in
        let two : Contains v.items q ↔ (has q v.items ≡ true) = Contains-has-iff q v.items in (
          (λ e. get-moments_of n q ∙ one.1 (two.0 e)),
          (λ e. two.1 (one.0 (sym (get-moments_of n q) ∙ e))),
        );
    in_order = IsStrictlyIncreasing-rising v.items (h.rising t v.items first.here);
    others_stay = λ q s.
        let one : (tree.get nat_cmp n' q ≡ Some s) ↔ ((tree.get nat_cmp n q ≡ Some s) × (s ≢ t)) =
        taken-others (jobs_at m) (tree.get nat_cmp n) taken t v.items (jobs_at m')
        (tree.get nat_cmp n') (popped m m' t u) out h first q s in
        rw (get-moments_of n' q, get-moments_of n q) one;
    is_last = refl;
  }
