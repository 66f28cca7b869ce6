-- Lemmas about rising lists of ticks.
use Rattle.std.proofs.Common.{◌≡◌, ◌<◌, ◌≤◌, ◌-◌, ◌⊎◌, inl, inr, ℕ, zero, suc, Bool, true, false}
use Rattle.std.proofs.Common.{List, [], ◌∷◌, Option, Some, None, Contains, cond, length, refl, sym}
use Rattle.std.proofs.Common.{ap, ◌∙◌, arith, nat_le, nat_lt, find, slice_get, slice_index, get_or}
use Rattle.std.proofs.Common.{MatchOption, IfSome}
use Rattle.std.proofs.lemmas.Bool.Decides.{nat_tests}
use Rattle.std.proofs.lemmas.Map.Keys.{sorted_from_strictly_increasing, below_from_sorted}
use Rattle.std.specs.List.Sorted.{IsStrictlyIncreasing, IsPartitionedBy}
use Rattle.zs_agenda.specs.Ticks.{listed, first_tick, horizon, HasNoTickFrom, IsFirstTick}

-- earlier places have lesser ticks
rising : (ts : List ℕ) (i j d : ℕ) → IsStrictlyIncreasing ts → i ≤ j → j < length ts →
    get_or ts i d ≤ get_or ts j d
rising ts i j d h le l =
    elim (cases i j) [
      | inl below ↦ let less : get_or ts i d < get_or ts j d =
          below_from_sorted ts i j d (sorted_from_strictly_increasing ts h) below l in omega arith
      | inr past ↦ let same : i ≡ j = omega arith in rw same (omega arith)
    ]
  where
    cases : (a b : ℕ) → (a < b) ⊎ (b ≤ a)
    cases a b = elim (nat_lt a b) as (λ t. nat_lt a b ≡ t → (a < b) ⊎ (b ≤ a)) [
      | true ↦
          λ is. inl (grind (arith, nat_tests))
      | false ↦ λ is. inr (grind (arith, nat_tests))
    ] refl

-- ticks below a moment come before the others
pub parts : (ts : List ℕ) (due : ℕ) → IsStrictlyIncreasing ts →
    IsPartitionedBy (λ t. nat_lt t due) ts
parts ts due h i j d le l below =
    let order : get_or ts i d ≤ get_or ts j d = rising ts i j d h le l in
    grind (arith, nat_tests)

-- the first tick that passes is at the end of those that fail
pub find-at_point : (due : ℕ) (ts : List ℕ) (n : ℕ) →
    ((k d : ℕ) → k < n → k < length ts → nat_lt (get_or ts k d) due ≡ true) →
    ((k d : ℕ) → n ≤ k → k < length ts → nat_lt (get_or ts k d) due ≡ false) →
    slice_get ts n ≡ find (λ t. nat_le due t) ts
find-at_point due [] n before from = refl
find-at_point due (t ∷ ts) zero before from =
    let passes : nat_lt t due ≡ false = from 0 0 (omega arith) (omega arith) in
    let le : nat_le due t ≡ true = grind (arith, nat_tests) in
    rw le refl
find-at_point due (t ∷ ts) (suc n) before from =
    let fails : nat_lt t due ≡ true = before 0 0 (omega arith) (omega arith) in
    let gt : nat_le due t ≡ false = grind (arith, nat_tests) in
    rw gt (find-at_point due ts n (λ k d l m. before (suc k) d (omega arith) (omega arith))
    (λ k d l m. from (suc k) d (omega arith) (omega arith)))

-- within a list the default isn't used
default' : (ts : List ℕ) (k d e : ℕ) → k < length ts → get_or ts k d ≡ get_or ts k e
default' [] k d e l = absurd (omega arith)
default' (t ∷ ts) zero d e l = refl
default' (t ∷ ts) (suc k) d e l = default' ts k d e (omega arith)

-- no tick of a list is after the last one
pub last-tick : (ts : List ℕ) → IsStrictlyIncreasing ts → (t : ℕ) → Contains ts t →
    t ≤ slice_index ts (length ts - 1)
last-tick ts h t c =
    let k : ℕ = c.0 in
    let within : k < length ts = c.1 in
    let at : get_or ts k t ≡ t = c.2 in
    let order : get_or ts k 0 ≤ get_or ts (length ts - 1) 0 =
    rising ts k (length ts - 1) 0 h (omega arith) (omega arith) in
    let same : get_or ts k 0 ≡ get_or ts k t = default' ts k 0 t within in
    omega arith

-- the tick that is found is the least of those that pass
found : (p : ℕ → Bool) (ts : List ℕ) (t : ℕ) → find p ts ≡ Some t → (k : ℕ) × (k < length ts)
    × (get_or ts k t ≡ t) × (p t ≡ true) × ((i d : ℕ) → i < k → p (get_or ts i d) ≡ false)
found p [] t e = let no : None ≡ Some t = e in cc
found p (x ∷ ts) t e =
    elim (p x) as (λ b. p x ≡ b → cond b (Some x) (find p ts) ≡ Some t →
    (k : ℕ) × (k < length (x ∷ ts)) × (get_or (x ∷ ts) k t ≡ t) × (p t ≡ true)
    × ((i d : ℕ) → i < k → p (get_or (x ∷ ts) i d) ≡ false)) [
      | true ↦ λ is s. let same : x ≡ t = cc in
          (0, (omega arith), same, ap p (sym same) ∙ is, λ i d l. absurd (omega arith))
      | false ↦ λ is s.
          let rest : (k : ℕ) × (k < length ts) × (get_or ts k t ≡ t) × (p t ≡ true)
          × ((i d : ℕ) → i < k → p (get_or ts i d) ≡ false) = found p ts t s in
          (suc rest.0, (omega arith), rest.2, rest.3, earlier p x ts rest.0 is rest.4)
    ] refl e
  where
    earlier : (p : ℕ → Bool) (x : ℕ) (ts : List ℕ) (k : ℕ) → p x ≡ false →
        ((i d : ℕ) → i < k → p (get_or ts i d) ≡ false) → (i d : ℕ) → i < suc k →
        p (get_or (x ∷ ts) i d) ≡ false
    earlier p x ts k is h zero d l = is
    earlier p x ts k is h (suc i) d l = h i d (omega arith)

-- if no tick is found, none passes
none_found : (p : ℕ → Bool) (ts : List ℕ) → find p ts ≡ None → (k d : ℕ) → k < length ts →
    p (get_or ts k d) ≡ false
none_found p [] e = λ k d l. absurd (omega arith)
none_found p (x ∷ ts) e =
    elim (p x) as (λ b. p x ≡ b → cond b (Some x) (find p ts) ≡ None → (k d : ℕ) →
    k < length (x ∷ ts) → p (get_or (x ∷ ts) k d) ≡ false) [
      | true ↦ λ _ s. let no : Some x ≡ None = s in cc
      | false ↦ λ is s. at_each p x ts is (none_found p ts s)
    ] refl e
  where
    at_each : (p : ℕ → Bool) (x : ℕ) (ts : List ℕ) → p x ≡ false →
        ((k d : ℕ) → k < length ts → p (get_or ts k d) ≡ false) → (k d : ℕ) → k < length (x ∷ ts) →
        p (get_or (x ∷ ts) k d) ≡ false
    at_each p x ts is h zero d l = is
    at_each p x ts is h (suc k) d l = h k d (omega arith)

-- the found tick is the first from the moment on; without one there is no such tick
first-cases : (ts : List ℕ) (due : ℕ) → IsStrictlyIncreasing ts → (o : Option ℕ) →
    find (λ t. nat_le due t) ts ≡ o →
    MatchOption o (HasNoTickFrom (listed ts) due) (λ t. IsFirstTick (listed ts) due t)
first-cases ts due h None e = λ t c l.
    let fails : nat_le due (get_or ts c.0 t) ≡ false =
    none_found (λ t. nat_le due t) ts e c.0 t c.1 in
    let at : get_or ts c.0 t ≡ t = c.2 in
    grind (arith, nat_tests)
first-cases ts due h (Some t) e =
    let f : (k : ℕ) × (k < length ts) × (get_or ts k t ≡ t) × (nat_le due t ≡ true)
    × ((i d : ℕ) → i < k → nat_le due (get_or ts i d) ≡ false) =
    found (λ t. nat_le due t) ts t e in
    record {
      is_tick = (f.0, f.1, f.2);
      late_enough = let le : nat_le due t ≡ true = f.3 in grind (arith, nat_tests);
      least = λ s c l.
          let at : get_or ts c.0 s ≡ s = c.2 in
          elim (nat_lt c.0 f.0) as (λ b. nat_lt c.0 f.0 ≡ b → t ≤ s) [
            | true ↦ λ is. let below : c.0 < f.0 = grind (arith, nat_tests) in
                let fails : nat_le due (get_or ts c.0 s) ≡ false = f.4 c.0 s below in
                grind (arith, nat_tests)
            | false ↦ λ is.
                let past : f.0 ≤ c.0 = grind (arith, nat_tests) in
                let order : get_or ts f.0 s ≤ get_or ts c.0 s = rising ts f.0 c.0 s h past c.1 in
                let here : get_or ts f.0 s ≡ get_or ts f.0 t = default' ts f.0 s t f.1 in
                let t_is : get_or ts f.0 t ≡ t = f.2 in
                omega arith
          ] refl;
    }

-- what is found in a list is its first tick from the moment on
pub first-of_list : (ts : List ℕ) (due : ℕ) → IsStrictlyIncreasing ts →
    MatchOption (first_tick (listed ts) due) (HasNoTickFrom (listed ts) due)
    (λ t. IsFirstTick (listed ts) due t)
first-of_list ts due h = first-cases ts due h (first_tick (listed ts) due) refl

-- the found tick, if any, is within the list
within-cases : (ts : List ℕ) (due : ℕ) → IsStrictlyIncreasing ts → (o : Option ℕ) →
    MatchOption o (HasNoTickFrom (listed ts) due) (λ t. IsFirstTick (listed ts) due t) →
    IfSome o (λ t. t ≤ horizon (listed ts))
within-cases ts due h None f = tt
within-cases ts due h (Some t) f = last-tick ts h t f.is_tick

-- no tick that is found is after the last one
pub first-within : (ts : List ℕ) (due : ℕ) → IsStrictlyIncreasing ts →
    IfSome (first_tick (listed ts) due) (λ t. t ≤ horizon (listed ts))
first-within ts due h = within-cases ts due h (first_tick (listed ts) due) (first-of_list ts due h)
