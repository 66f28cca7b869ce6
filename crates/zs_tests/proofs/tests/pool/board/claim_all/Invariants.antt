use Rattle.std.proofs.Common.{◌≡◌}
use Rattle.zs_tests.proofs.tests.pool.board.claim_all.Given as goal

abbrev pub invariant-loop : goal.invariant-loop
invariant-loop g l = (l.pass.board ≡ l.fn.board) × (l.pass.share ≡ l.fn.pass.share)
