use Rattle.zs_term.specs.Schedule.{schedule_of, weight}
use Rattle.zs_bounds.proofs.latest.+latest_step.Given as goal

abbrev pub decreases-latest_step : goal.decreases-latest_step
decreases-latest_step l = weight (schedule_of l.term.now)
