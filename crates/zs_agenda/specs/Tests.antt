-- The limits of clocks as tests that compute, for definitions that need a choice. The law
-- `clocks_are_tested` says that they pass exactly if `IsTickList` and `IsClock` are true.
use Rattle.std.specs.Prelude.{◌&&◌, ◌-◌, length, slice_index, ℕ, List, [], ◌∷◌, Bool, true, nat_lt}
use Rattle.std.specs.Prelude.{nat_le}
use Rattle.std.specs.List.{list_all}
use Rattle.zs_agenda.specs.Ticks.{Ticks, every_ms, listed, max_horizon, max_ticks}

-- whether each number is less than all numbers after it
unfoldable pub rises : List ℕ → Bool
rises [] = true
rises (t ∷ ticks) = list_all (nat_lt t) ticks && rises ticks

-- whether the list may be a clock's
unfoldable pub is_tick_list : List ℕ → Bool
is_tick_list ticks = nat_lt 0 (length ticks) && nat_le (length ticks) max_ticks && rises ticks
    && nat_le (slice_index ticks (length ticks - 1)) max_horizon

-- whether the ticks may be a clock's
unfoldable pub is_clock : Ticks → Bool
is_clock (every_ms last) = nat_le last max_horizon
is_clock (listed ticks) = is_tick_list ticks
