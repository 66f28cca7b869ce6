-- Clocks that get one more tick, and sets of moments as lists.
use Rattle.std.proofs.Common.{◌≡◌, ℕ, ◌+◌, ◌-◌, ◌≤◌, ◌<◌, List, [], ◌∷◌, ◌++◌, length, nat_eq, true}
use Rattle.std.proofs.Common.{false, ◌||◌, refl, arith}
use Rattle.std.specs.Prelude.{fold}
use Rattle.std.specs.List.{list_any}
use Rattle.std.proofs.lemmas.Bool.Decides.{nat_tests}
use Rattle.std.proofs.lemmas.Grind.{fold-append}
use Rattle.zs_drive.specs.Clocks.{RisesFrom, AllBefore, AreTicks, max_tick}
use Rattle.zs_drive.specs.Timeline.{with_moment}

pub AllBefore-append : (ticks : List ℕ) (t c : ℕ) → AllBefore ticks c → t < c →
    AllBefore (ticks ++ t ∷ []) c
unfolding AllBefore
AllBefore-append [] t c all h = (h, tt)
AllBefore-append (x ∷ ticks) t c all h = (all.0, AllBefore-append ticks t c all.1 h)

pub AllBefore-later : (ticks : List ℕ) (c d : ℕ) → AllBefore ticks c → c ≤ d → AllBefore ticks d
unfolding AllBefore
AllBefore-later [] c d all h = tt
AllBefore-later (x ∷ ticks) c d all h = (omega (arith, all.0), AllBefore-later ticks c d all.1 h)

pub RisesFrom-append : (b : ℕ) (ticks : List ℕ) (t : ℕ) → RisesFrom b ticks → AllBefore ticks t →
    b ≤ t → RisesFrom b (ticks ++ t ∷ [])
unfolding RisesFrom AllBefore
RisesFrom-append b [] t rises all h = (h, tt)
RisesFrom-append b (x ∷ ticks) t rises all h =
    (rises.0, RisesFrom-append (x + 1) ticks t rises.1 all.1 (omega (arith, all.0)))

pub AreTicks-append : (ticks : List ℕ) (t : ℕ) → AreTicks ticks → AllBefore ticks t → t ≤ max_tick →
    AreTicks (ticks ++ t ∷ [])
AreTicks-append ticks t clock all h =
    record {
      rises = RisesFrom-append 0 ticks t clock.rises all (omega arith);
      bounded = AllBefore-append ticks t (max_tick + 1) clock.bounded (omega arith);
    }

-- a clock has at most one tick for each moment
pub length-rises : (b : ℕ) (ticks : List ℕ) (c : ℕ) → RisesFrom b ticks → AllBefore ticks c →
    length ticks ≤ c - b
unfolding RisesFrom AllBefore
length-rises b [] c rises all = omega arith
length-rises b (x ∷ ticks) c rises all =
    let rest : length ticks ≤ c - (x + 1) = length-rises (x + 1) ticks c rises.1 all.1 in
    omega (arith, rises.0, all.0)

pub length-clock : (ticks : List ℕ) → AreTicks ticks → length ticks ≤ max_tick + 1
length-clock ticks clock = length-rises 0 ticks (max_tick + 1) clock.rises clock.bounded

-- a tick after all others is none of them
pub absent : (ticks : List ℕ) (c : ℕ) → AllBefore ticks c → list_any (nat_eq c) ticks ≡ false
unfolding AllBefore
absent [] c all = refl
absent (x ∷ ticks) c all =
    let rest : list_any (nat_eq c) ticks ≡ false = absent ticks c all.1 in
    let first : x < c = all.0 in
    let other : nat_eq c x ≡ false = grind (arith, nat_tests) in rw (other, rest) refl

pub present : (ticks : List ℕ) (c : ℕ) → list_any (nat_eq c) (ticks ++ c ∷ []) ≡ true
present [] c = let same : nat_eq c c ≡ true = grind (arith, nat_tests) in rw same refl
present (x ∷ ticks) c = rw (present ticks c) (elim (nat_eq c x) as (λ b. (b || true) ≡ true)
    [ true ↦ refl | false ↦ refl ])

-- a moment after all others is added to the set, once
pub with_moment-new : (moments : List ℕ) (c : ℕ) → AllBefore moments c →
    with_moment moments c ≡ moments ++ c ∷ []
with_moment-new moments c all = rw (absent moments c all) refl

pub with_moment-again : (moments : List ℕ) (c : ℕ) →
    with_moment (moments ++ c ∷ []) c ≡ moments ++ c ∷ []
with_moment-again moments c = rw (present moments c) refl

pub moments-one : (xs : List ℕ) (c : ℕ) → AllBefore (fold with_moment [] xs) c →
    fold with_moment [] (xs ++ c ∷ []) ≡ fold with_moment [] xs ++ c ∷ []
moments-one xs c all =
    rw (fold-append with_moment [] xs (c ∷ [])) (with_moment-new (fold with_moment [] xs) c all)

pub moments-two : (xs : List ℕ) (c : ℕ) → AllBefore (fold with_moment [] xs) c →
    fold with_moment [] (xs ++ c ∷ c ∷ []) ≡ fold with_moment [] xs ++ c ∷ []
moments-two xs c all =
    rw (fold-append with_moment [] xs (c ∷ c ∷ []), with_moment-new (fold with_moment [] xs) c all)
    (with_moment-again (fold with_moment [] xs) c)
