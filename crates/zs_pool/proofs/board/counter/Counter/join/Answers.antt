use Rattle.std.proofs.Common.{rules, arith}
use Rattle.zs_pool.proofs.CounterMoves.{joins}
use Rattle.zs_pool.proofs.board.counter.Counter.join.Goals as goal

pub join_seat-requires : goal.join_seat-requires
join_seat-requires c = (
  search rules,
  search rules,
  search rules,
  omega (arith, c.self.invariant),
  joins _ _ _ _ (search rules),
)
