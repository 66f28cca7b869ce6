use Rattle.std.proofs.Common.{rules}
use Rattle.zs_pool.proofs.ShelfMoves.{takes, learns}
use Rattle.zs_pool.proofs.shelf.Shelf.take.Goals as goal

pub pop_as-requires-clause-rule : goal.pop_as-requires-clause-rule
pop_as-requires-clause-rule g c = (takes _ _ (search rules), learns _ _)
