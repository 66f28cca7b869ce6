-- The ticks that a clock's fields represent.
use Rattle.zs_agenda.specs.Ticks.{Ticks, every_ms, listed}
use Rattle.zs_agenda.specs.declared.clock.TickSource.{TickSource}
use Rattle.zs_agenda.specs.declared.clock.TickSource.TheVariants.{EveryMs, Listed}

-- each millisecond up to a last one, or the items of the vector
abbrev pub ticks_in : TickSource → Ticks
ticks_in (EveryMs last) = every_ms last
ticks_in (Listed ticks) = listed ticks.items
