use Rattle.std.proofs.Common.{rules}
use Rattle.zs_pool.proofs.ShelfMoves.{forks}
use Rattle.zs_pool.proofs.shelf.Shelf.split.Goals as goal

pub another-queue-requires-clause-rule : goal.another-queue-requires-clause-rule
another-queue-requires-clause-rule g c = forks _ _ (search rules)
