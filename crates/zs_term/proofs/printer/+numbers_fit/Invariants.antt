use Rattle.zs_term.specs.Schedule.{schedule_of, depth}
use Rattle.zs_term.proofs.printer.+numbers_fit.Given as goal

abbrev pub decreases-numbers_fit : goal.decreases-numbers_fit
decreases-numbers_fit l = depth (schedule_of l.term.now)
