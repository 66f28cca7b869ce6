use Rattle.zs_population.proofs.Joined.{ranges-joined}
use Rattle.zs_population.proofs.laws.ranges_join.Goals as goal

pub returns : goal.returns
returns c = record { joined = ranges-joined }
