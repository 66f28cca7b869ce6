-- A clock as a finite set of ticks in rising order: each millisecond up to a horizon, or a list.
use Rattle.std.specs.Prelude.{ℕ, ◌+◌, ◌≤◌, ◌<◌, List, [], ◌∷◌, Option, find, nat_le}

-- the greatest moment that a tick may have, in milliseconds: one less than 10^15
abbrev pub max_tick : ℕ
max_tick = 999999999999999

-- the least tick at or after x, if there is one: the first one found, since ticks rise
unfoldable pub first_tick_from : List ℕ → ℕ → Option ℕ
first_tick_from ticks x = find (λ t. nat_le x t) ticks

-- the ticks rise strictly, and the first is at least b
unfoldable pub RisesFrom : ℕ → List ℕ → Type 0
RisesFrom b [] = Unit {0}
RisesFrom b (t ∷ ticks) = (b ≤ t) × RisesFrom (t + 1) ticks

-- each tick is before c
unfoldable pub AllBefore : List ℕ → ℕ → Type 0
AllBefore [] c = Unit {0}
AllBefore (t ∷ ticks) c = (t < c) × AllBefore ticks c

-- the ticks rise strictly, and none is after the last moment
pub record AreTicks (ticks : List ℕ) : Type 0 where
  pub rises : RisesFrom 0 ticks
  pub bounded : AllBefore ticks (max_tick + 1)
