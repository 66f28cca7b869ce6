use Rattle.zs_term.specs.Schedule.{schedule_of, weight}
use Rattle.zs_bounds.proofs.latest.+shows_time.Given as goal

abbrev pub decreases-shows_time : goal.decreases-shows_time
decreases-shows_time l = weight (schedule_of l.term.now)
