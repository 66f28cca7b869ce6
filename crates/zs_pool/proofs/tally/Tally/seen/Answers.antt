use Rattle.std.proofs.Common.{rules, arith}
use Rattle.zs_pool.proofs.TallyMoves.{sees}
use Rattle.zs_pool.proofs.tally.Tally.seen.Goals as goal

pub load-requires : goal.load-requires
load-requires c = (search rules, omega (arith, c.self.invariant.0), sees _ _ _)
