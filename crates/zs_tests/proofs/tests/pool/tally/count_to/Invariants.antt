use Rattle.std.proofs.Common.{◌≡◌, ◌+◌}
use Rattle.zs_tests.proofs.tests.pool.tally.count_to.Given as goal

abbrev pub invariant-loop-i : goal.invariant-loop-i
invariant-loop-i l = (l.seat.tally ≡ l.fn.tally) × (l.seat.count ≡ l.fn.seat.count + l._i) × (l.seat.allowance + l._i ≡ l.fn.seat.allowance)
