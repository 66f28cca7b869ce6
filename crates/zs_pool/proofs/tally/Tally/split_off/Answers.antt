use Rattle.std.proofs.Common.{rules, arith}
use Rattle.zs_pool.proofs.TallyMoves.{notes, splits}
use Rattle.zs_pool.proofs.tally.Tally.split_off.Goals as goal

pub compare_exchange-requires : goal.compare_exchange-requires
compare_exchange-requires c = (search rules, omega (arith, c.self.invariant.0), notes _ _ _ _)

pub split_seat-seat-requires : goal.split_seat-seat-requires
split_seat-seat-requires c =
    (search rules, omega (arith, c.self.invariant.0), splits _ _ (search rules))
