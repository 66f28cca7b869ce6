use Rattle.std.proofs.Common.{◌≡◌}
use Rattle.zs_pool.proofs.board.Board.wait_for_all.Given as goal

abbrev pub invariant-loop : goal.invariant-loop
invariant-loop g l =
    (l.seat.counter ≡ l.initial.seat.counter) × (l.seat.share ≡ l.initial.seat.share)
    × (l.seat.count ≡ l.initial.seat.count)
