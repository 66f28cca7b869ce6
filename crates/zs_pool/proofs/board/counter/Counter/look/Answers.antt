use Rattle.std.proofs.Common.{rules, arith}
use Rattle.zs_pool.proofs.CounterMoves.{looks}
use Rattle.zs_pool.proofs.board.counter.Counter.look.Goals as goal

pub load-requires : goal.load-requires
load-requires c = (search rules, omega (arith, c.self.invariant), looks _ _ _)
