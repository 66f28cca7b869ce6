use Rattle.std.proofs.Common.{◌≡◌}
use Rattle.zs_tests.proofs.tests.pool.shelf.put_at_last.Given as goal

abbrev pub invariant-loop : goal.invariant-loop
invariant-loop g l = (l.pass.shelf ≡ l.fn.shelf) × (l.pass.share ≡ l.initial.pass.share)
