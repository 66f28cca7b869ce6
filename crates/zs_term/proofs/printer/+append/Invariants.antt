use Rattle.zs_term.specs.Schedule.{schedule_of, depth}
use Rattle.zs_term.proofs.printer.+append.Given as goal

abbrev pub decreases-append : goal.decreases-append
decreases-append l = depth (schedule_of l.term.now)
