use Rattle.std.proofs.Common.{◌∙◌}
use Rattle.zs_population.proofs.LastLines.{range-found}
use Rattle.zs_population.proofs.report.range_of.Goals as goal

-- the range is between the quotation marks
pub returns-clause-found : goal.returns-clause-found
returns-clause-found c = λ range fits names. c.read_range.ensures.value
    ∙ range-found c.args.trailer.now c.in_ok-rest.rest.now c.in_ok-end.end _ range
    c.in_ok-rest.ensures.cases.1
    c.in_ok-end.ensures.0 c.in_ok-end.ensures.1 fits names
