use Rattle.zs_run.proofs.ShapeLemmas.{clock_of_horizon, clock_of_list}
use Rattle.zs_run.proofs.shapes.AskedTicks.into_clock.Goals as goal

pub returns-in-EveryMs : goal.returns-in-EveryMs
returns-in-EveryMs c = record {
  value = rw c.in-EveryMs.is (clock_of_horizon c.every_ms.result c.in-EveryMs.last
      c.every_ms.ensures.within c.every_ms.ensures.value);
}

pub returns-in-Listed : goal.returns-in-Listed
returns-in-Listed c = record {
  value = rw c.in-Listed.is (clock_of_list c.of_ticks.result c.in-Listed.ticks.items
      c.of_ticks.ensures.within c.of_ticks.ensures.value);
}
