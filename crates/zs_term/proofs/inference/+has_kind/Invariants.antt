use Rattle.zs_term.specs.Schedule.{schedule_of, depth}
use Rattle.zs_term.proofs.inference.+has_kind.Given as goal

abbrev pub decreases-has_kind : goal.decreases-has_kind
decreases-has_kind l = depth (schedule_of l.term.now)
