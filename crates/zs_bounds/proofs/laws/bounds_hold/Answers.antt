use Rattle.zs_bounds.proofs.Promising.{bounds_of-promises}
use Rattle.zs_bounds.proofs.laws.bounds_hold.Goals as goal

pub returns : goal.returns
returns c = record { value = bounds_of-promises }
