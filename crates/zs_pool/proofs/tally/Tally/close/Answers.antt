use Rattle.std.proofs.Common.{ap, arith}
use Rattle.zs_pool.proofs.TallyMoves.{closes}
use Rattle.zs_pool.proofs.tally.Tally.close.Goals as goal

pub free-requires : goal.free-requires
free-requires c =
    λ k below. absurd (omega (arith, c.close_with-closed.ensures.counts.1, c.self.invariant.1))

pub returns : goal.returns
returns c =
    let last = closes _ _ _ _ c.word-all.result c.close_with-closed.ensures.values.2
    c.word-all.ensures in
    let seen = ap (λ s. s.seen) c.seat.view_is in let count = ap (λ s. s.count) c.seat.view_is in
    let left = ap (λ s. s.allowance) c.seat.view_is in
    record {
      own = omega (arith, last.1, count);
      seen = omega (arith, last.0, seen);
      within = omega (arith, last.2, left);
      whole = λ whole. omega (arith, last.3 (omega (arith, whole, count, left)), count);
    }
