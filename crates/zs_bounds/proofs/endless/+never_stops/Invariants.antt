use Rattle.zs_term.specs.Schedule.{schedule_of, weight}
use Rattle.zs_bounds.proofs.endless.+never_stops.Given as goal

abbrev pub decreases-never_stops : goal.decreases-never_stops
decreases-never_stops l = weight (schedule_of l.term.now)
