use Rattle.zs_step.proofs.VisitBounds.{visits-le}
use Rattle.zs_step.proofs.laws.visits_are_at_most_the_weight.Goals as goal

pub returns : goal.returns
returns c = record { value = visits-le }
