use Rattle.zs_agenda.specs.Ticks.{horizon}
use Rattle.zs_engine.specs.Engine.{IsResting, IsSameRun}
use Rattle.zs_engine.proofs.EngineLemmas.{rounds_left}
use Rattle.zs_engine.proofs.engine.Engine.run_all.Given as goal

abbrev pub invariant-loop-now : goal.invariant-loop-now
invariant-loop-now g l = record { rests : IsResting l.self; same : IsSameRun l.fn.self l.self }

abbrev pub decreases-loop-now : goal.decreases-loop-now
decreases-loop-now g l = rounds_left (horizon l.fn.self.clock) l.self.agenda.last_taken
