use Rattle.zs_term.specs.Schedule.{schedule_of, weight}
use Rattle.zs_bounds.proofs.latest.+wait_limit.Given as goal

abbrev pub decreases-wait_limit : goal.decreases-wait_limit
decreases-wait_limit l = weight (schedule_of l.term.now)
