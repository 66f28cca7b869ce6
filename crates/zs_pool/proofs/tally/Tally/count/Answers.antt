use Rattle.std.proofs.Common.{rules, arith}
use Rattle.zs_pool.proofs.TallyMoves.{counts}
use Rattle.zs_pool.proofs.tally.Tally.count.Goals as goal

pub fetch_add-requires : goal.fetch_add-requires
fetch_add-requires c =
    let id = c.requires.tally in
    (search rules, omega (arith, c.self.invariant.0), counts _ _ _ (search rules))
