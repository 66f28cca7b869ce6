use Rattle.std.proofs.Common.{◌≡◌}
use Rattle.zs_tests.proofs.tests.pool.shelf.put_until_full.Given as goal

abbrev pub invariant-loop-number : goal.invariant-loop-number
invariant-loop-number g l = l.pass.shelf ≡ l.fn.shelf
