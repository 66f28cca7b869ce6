use Rattle.zs_term.specs.Schedule.{schedule_of, depth}
use Rattle.zs_term.proofs.inference.+has_same_kind.Given as goal

abbrev pub decreases-has_same_kind : goal.decreases-has_same_kind
decreases-has_same_kind l = depth (schedule_of l.a.now)
