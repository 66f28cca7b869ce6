use Rattle.std.proofs.Common.{rules, arith}
use Rattle.zs_pool.proofs.TallyMoves.{joins, fits}
use Rattle.zs_pool.proofs.tally.Tally.absorb.Goals as goal

pub join_seat-requires : goal.join_seat-requires
join_seat-requires c = (
  search rules,
  search rules,
  search rules,
  omega (arith, c.self.invariant.0),
  joins _ _ _ _,
)

pub load-requires : goal.load-requires
load-requires c = (search rules, omega (arith, c.self.invariant.0), fits _ _ _)
