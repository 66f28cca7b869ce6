-- A clock as the finite set of its ticks, and the first tick from a moment on, in milliseconds.
-- `IsTick` defines a tick; `first_tick` and `horizon` compute. The contracts of `Clock::tick` and
-- `Clock::horizon` tie them to `IsFirstTick`, `HasNoTickFrom` and `IsTick` for every clock.
use Rattle.std.specs.Prelude.{◌≤◌, ◌<◌, ◌-◌, length, slice_index, ℕ, List, Option, Some, None}
use Rattle.std.specs.Prelude.{Contains, find, nat_le, if◌then◌else◌}
use Rattle.std.specs.List.Sorted.{IsStrictlyIncreasing}

-- the latest last tick that a clock may have
abbrev pub max_horizon : ℕ
max_horizon = 999999999999999

-- the greatest number of ticks in a list
abbrev pub max_ticks : ℕ
max_ticks = 1000000

-- each millisecond from 0 up to a last one, or the moments of a list
pub data Ticks : Type 0 where
  every_ms : ℕ → Ticks
  listed : List ℕ → Ticks

-- the clock ticks at t
abbrev pub IsTick : Ticks → ℕ → Type 0
IsTick (every_ms last) t = t ≤ last
IsTick (listed ticks) t = Contains ticks t

-- no tick is at or after the moment due
abbrev pub HasNoTickFrom : Ticks → ℕ → Type 0
HasNoTickFrom clock due = (t : ℕ) → IsTick clock t → due ≤ t → ⊥

-- t is the least tick at or after the moment due
pub record IsFirstTick (clock : Ticks) (due t : ℕ) : Type 0 where
  pub is_tick : IsTick clock t
  pub late_enough : due ≤ t
  pub least : (s : ℕ) → IsTick clock s → due ≤ s → t ≤ s

-- the least tick at or after the moment due, if there is one
abbrev pub first_tick : Ticks → ℕ → Option ℕ
first_tick (every_ms last) due = if nat_le due last then Some due else None
first_tick (listed ticks) due = find (λ t. nat_le due t) ticks

-- the last tick
abbrev pub horizon : Ticks → ℕ
horizon (every_ms last) = last
horizon (listed ticks) = slice_index ticks (length ticks - 1)

-- the lists that a clock may have: 1 to `max_ticks` ticks, strictly rising, within the horizon
pub record IsTickList (ticks : List ℕ) : Type 0 where
  pub some : 0 < length ticks
  pub few : length ticks ≤ max_ticks
  pub rising : IsStrictlyIncreasing ticks
  pub limit : slice_index ticks (length ticks - 1) ≤ max_horizon

-- the ticks that a `Clock` may have
abbrev pub IsClock : Ticks → Type 0
IsClock (every_ms last) = last ≤ max_horizon
IsClock (listed ticks) = IsTickList ticks
