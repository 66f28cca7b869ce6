use Rattle.std.proofs.Common.{◌∙◌, ap, Option, ℕ}
use Rattle.zs_engine.specs.Times.{ticks_of, next_of}
use Rattle.zs_engine.proofs.ClockTicks.{first_tick-is}
use Rattle.zs_engine.proofs.engine.next_tick.Goals as goal

pub returns : goal.returns
returns c = record {
  value = c.tick.ensures.value ∙ first_tick-is c.args.clock.now c.in_ok-due.field-0
      ∙ ap (λ (due : Option ℕ). next_of (ticks_of c.args.clock.now) due) c.in_ok-due.ensures.value;
}
