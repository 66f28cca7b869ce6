use Rattle.std.proofs.Common.{rules, arith}
use Rattle.zs_pool.proofs.CounterMoves.{splits}
use Rattle.zs_pool.proofs.board.counter.Counter.split.Goals as goal

pub split_seat-requires : goal.split_seat-requires
split_seat-requires c = (search rules, omega (arith, c.self.invariant), splits _ _ (search rules))
