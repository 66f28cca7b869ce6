use Rattle.std.proofs.Common.{arith}
use Rattle.zs_population.specs.Parts.{part_record}
use Rattle.zs_population.proofs.PartLemmas.{too-many}
use Rattle.zs_population.proofs.joining.next_part.Goals as goal

-- the polls can't be added
pub returns-in-None-clause-fault : goal.returns-in-None-clause-fault
returns-in-None-clause-fault c =
    too-many c.args.sums.now c.args.report.now (part_record c.in_ok-part.part)
    c.args.joined.now.polls c.in_ok-part.ensures.part (omega (arith, c.in-None.ensures))
