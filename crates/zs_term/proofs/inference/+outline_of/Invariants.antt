use Rattle.zs_term.specs.Schedule.{schedule_of, depth}
use Rattle.zs_term.proofs.inference.+outline_of.Given as goal

abbrev pub decreases-outline_of : goal.decreases-outline_of
decreases-outline_of l = depth (schedule_of l.term.now)
