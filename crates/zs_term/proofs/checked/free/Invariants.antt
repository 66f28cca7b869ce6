use Rattle.zs_term.specs.Schedule.{schedule_of}
use Rattle.zs_term.specs.Shape.{steps_to_free}
use Rattle.zs_term.proofs.checked.free.Given as goal

abbrev pub decreases-loop-rest : goal.decreases-loop-rest
decreases-loop-rest l = steps_to_free (schedule_of l.rest)
