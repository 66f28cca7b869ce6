-- The tests of clocks pass exactly for clocks.
use Rattle.std.proofs.Common.{◌≡◌, ◌≤◌, ◌-◌, ◌&&◌, ℕ, List, [], ◌∷◌, length, slice_index, Bool}
use Rattle.std.proofs.Common.{true, false, nat_lt, nat_le, refl, arith, nat_cmp}
use Rattle.std.specs.List.{list_all, AllByRecursion}
use Rattle.std.specs.List.Sorted.{IsStrictlySortedBy}
use Rattle.std.specs.declared.cmp.Ordering.TheVariants.{Less}
use Rattle.std.proofs.lemmas.Bool.Decides.{nat_tests}
use Rattle.std.proofs.lemmas.Map.Keys.{sorted_from_strictly_increasing}
use Rattle.std.proofs.lemmas.Map.Keys.{IsStrictlyIncreasing-from_sorted}
use Rattle.zs_agenda.specs.Ticks.{Ticks, every_ms, listed, max_horizon, max_ticks, IsTickList}
use Rattle.zs_agenda.specs.Ticks.{IsClock}
use Rattle.zs_agenda.specs.Tests.{rises, is_tick_list, is_clock}

and_left : (a b : Bool) → (a && b) ≡ true → a ≡ true
and_left true b h = refl
and_left false b h = h

and_right : (a b : Bool) → (a && b) ≡ true → b ≡ true
and_right true b h = h
and_right false b h = absurd (let e : false ≡ true = h in cc)

-- a number that passes is below all the others
passes_below : (x : ℕ) (ys : List ℕ) → list_all (nat_lt x) ys ≡ true →
    AllByRecursion (λ y. nat_cmp x y ≡ Less) ys
passes_below x [] h = tt
passes_below x (y ∷ ys) h =
    let here : nat_lt x y ≡ true = and_left _ _ h in
    (grind (arith, nat_tests), passes_below x ys (and_right (nat_lt x y) _ h))

below_passes : (x : ℕ) (ys : List ℕ) → AllByRecursion (λ y. nat_cmp x y ≡ Less) ys →
    list_all (nat_lt x) ys ≡ true
below_passes x [] h = refl
below_passes x (y ∷ ys) h =
    let less : nat_cmp x y ≡ Less = h.0 in
    let here : nat_lt x y ≡ true = grind (arith, nat_tests) in
    rw (here, below_passes x ys h.1) refl

sorted_rises : (xs : List ℕ) → IsStrictlySortedBy nat_cmp xs → rises xs ≡ true
unfolding rises IsStrictlySortedBy
sorted_rises [] s = refl
sorted_rises (x ∷ xs) s = rw (below_passes x xs s.0, sorted_rises xs s.1) refl

rises_sorted : (xs : List ℕ) → rises xs ≡ true → IsStrictlySortedBy nat_cmp xs
unfolding rises IsStrictlySortedBy
rises_sorted [] h = tt
rises_sorted (x ∷ xs) h =
    (passes_below x xs (and_left _ _ h), rises_sorted xs (and_right (list_all (nat_lt x) xs) _ h))

-- a tick list passes every test
pub tick_list_passes : (ticks : List ℕ) → IsTickList ticks → is_tick_list ticks ≡ true
unfolding is_tick_list
tick_list_passes ticks h =
    let some : nat_lt 0 (length ticks) ≡ true = grind (arith, nat_tests, h.some) in
    let few : nat_le (length ticks) max_ticks ≡ true = grind (arith, nat_tests, h.few) in
    let rise : rises ticks ≡ true =
    sorted_rises ticks (sorted_from_strictly_increasing ticks h.rising) in
    let last : nat_le (slice_index ticks (length ticks - 1)) max_horizon ≡ true =
    grind (arith, nat_tests, h.limit) in
    rw (some, few, rise, last) refl

-- a list that passes every test is a tick list
pub tick_list_passed : (ticks : List ℕ) → is_tick_list ticks ≡ true → IsTickList ticks
unfolding is_tick_list
tick_list_passed ticks h =
    let s : nat_lt 0 (length ticks) ≡ true = and_left _ _ (and_left _ _ (and_left _ _ h)) in
    let f : nat_le (length ticks) max_ticks ≡ true =
    and_right (nat_lt 0 (length ticks)) _ (and_left _ _ (and_left _ _ h)) in
    let r : rises ticks ≡ true =
    and_right (nat_lt 0 (length ticks) && nat_le (length ticks) max_ticks) _ (and_left _ _ h) in
    let l : nat_le (slice_index ticks (length ticks - 1)) max_horizon ≡ true =
    and_right (nat_lt 0 (length ticks) && nat_le (length ticks) max_ticks && rises ticks) _ h in
    record {
      some = grind (arith, nat_tests, s);
      few = grind (arith, nat_tests, f);
      rising = IsStrictlyIncreasing-from_sorted ticks (rises_sorted ticks r);
      limit = grind (arith, nat_tests, l);
    }

-- a clock passes
pub clock_passes : (clock : Ticks) → IsClock clock → is_clock clock ≡ true
unfolding is_clock
clock_passes (every_ms last) h = let within : last ≤ max_horizon = h in grind (arith, nat_tests)
clock_passes (listed ticks) h = tick_list_passes ticks h

-- ticks that pass are a clock
pub clock_passed : (clock : Ticks) → is_clock clock ≡ true → IsClock clock
unfolding is_clock
clock_passed (every_ms last) h = let test : nat_le last max_horizon ≡ true = h in
    grind (arith, nat_tests)
clock_passed (listed ticks) h = tick_list_passed ticks h
