use Rattle.zs_term.specs.Schedule.{schedule_of, depth}
use Rattle.zs_term.proofs.limits.+has_factors_and_windows.Given as goal

abbrev pub decreases-has_factors_and_windows : goal.decreases-has_factors_and_windows
decreases-has_factors_and_windows l = depth (schedule_of l.term.now)
