use Rattle.std.proofs.Common.{rules, arith}
use Rattle.zs_pool.proofs.CounterMoves.{adds}
use Rattle.zs_pool.proofs.board.counter.Counter.add.Goals as goal

pub fetch_add-requires : goal.fetch_add-requires
fetch_add-requires c = (search rules, omega (arith, c.self.invariant), adds _ _ _ (search rules))
