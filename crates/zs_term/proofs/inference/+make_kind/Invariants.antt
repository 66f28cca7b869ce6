use Rattle.zs_term.specs.Schedule.{schedule_of, depth}
use Rattle.zs_term.proofs.inference.+make_kind.Given as goal

abbrev pub decreases-make_kind : goal.decreases-make_kind
decreases-make_kind l = depth (schedule_of l.term.now)
