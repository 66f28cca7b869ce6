-- The ticks of a clock as one rising list. The timeline of a job alone is defined on this list
-- (zs_drive), so one theorem covers a clock of every millisecond and one of listed ticks. The laws
-- at the end relate the list to the clock; the contract of `listed_ticks` proves them.
use Rattle.std.specs.Prelude.{◌≡◌, ◌+◌, ℕ, zero, suc, List, [], ◌∷◌, Option, Some, None}
use Rattle.zs_drive.specs.Clocks.{first_tick_from, AreTicks, AllBefore}
use Rattle.zs_agenda.specs.Ticks.{Ticks, every_ms, listed, first_tick, horizon, IsClock}
use Rattle.zs_agenda.specs.Timers.{IsAfter}

-- n consecutive moments, from b on
unfoldable pub moments_from : ℕ → ℕ → List ℕ
moments_from b zero = []
moments_from b (suc n) = b ∷ moments_from (b + 1) n

-- all ticks of a clock in rising order
unfoldable pub ticks_of : Ticks → List ℕ
ticks_of (every_ms last) = moments_from 0 (last + 1)
ticks_of (listed ticks) = ticks

-- the first tick at or after the due moment, if there is one
abbrev pub next_of : List ℕ → Option ℕ → Option ℕ
next_of ticks None = None
next_of ticks (Some due) = first_tick_from ticks due

-- the tick, if there is one, is later than the last moment taken
abbrev pub IsLater : Option ℕ → Option ℕ → Type 0
IsLater taken None = Unit {0}
IsLater taken (Some tick) = IsAfter taken tick

-- a clock and the list of its ticks have the same first tick at or after each moment
abbrev pub SameTicks : Type 0
SameTicks = (clock : Ticks) (due : ℕ) → first_tick clock due ≡ first_tick_from (ticks_of clock) due

-- the list of a clock's ticks rises strictly, and no tick is after the clock's horizon
abbrev pub TicksRise : Type 0
TicksRise = (clock : Ticks) → IsClock clock
    → AreTicks (ticks_of clock) × AllBefore (ticks_of clock) (horizon clock + 1)
