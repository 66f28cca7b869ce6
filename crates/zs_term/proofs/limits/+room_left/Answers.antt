use Rattle.std.proofs.Common.{arith}
use Rattle.zs_term.specs.Schedule.{schedule_of}
use Rattle.zs_term.proofs.Sizes.{depth-positive, weight-positive}
use Rattle.zs_term.proofs.limits.+room_left.Goals as goal

pub returns-then-levels-eq0-clause-none : goal.returns-then-levels-eq0-clause-none
returns-then-levels-eq0-clause-none t c =
    grind (
      arith,
      depth-positive (schedule_of c.args.term.now),
      weight-positive (schedule_of c.args.term.now),
    )
