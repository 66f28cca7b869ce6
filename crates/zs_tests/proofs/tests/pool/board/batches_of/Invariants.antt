use Rattle.std.proofs.Common.{◌≡◌, length}
use Rattle.zs_pool.specs.Batches.{AreNumbered}
use Rattle.zs_tests.proofs.tests.pool.board.batches_of.Given as goal

abbrev pub invariant-loop-number : goal.invariant-loop-number
invariant-loop-number l = AreNumbered l.batches.items × (length l.batches.items ≡ l.number)
