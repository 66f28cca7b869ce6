use Rattle.std.proofs.Common.{◌≡◌, ◌+◌, ◌*◌}
use Rattle.zs_term.specs.Saturating.{max_moment}
use Rattle.zs_tests.proofs.tests.pool.rounds.hundred_rounds.Given as goal

abbrev pub invariant-loop-k : goal.invariant-loop-k
invariant-loop-k g l = (l.seat.tally ≡ l.fn.tally) × (l.seat.allowance + 2 * l._k ≡ max_moment)
