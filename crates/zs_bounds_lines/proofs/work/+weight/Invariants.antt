use Rattle.zs_term.specs.Schedule.{depth, schedule_of}
use Rattle.zs_bounds_lines.proofs.work.+weight.Given as goal

abbrev pub decreases-weight : goal.decreases-weight
decreases-weight l = depth (schedule_of l.term.now)
