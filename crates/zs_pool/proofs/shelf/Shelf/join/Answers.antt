use Rattle.std.proofs.Common.{rules}
use Rattle.zs_pool.proofs.ShelfMoves.{merges}
use Rattle.zs_pool.proofs.shelf.Shelf.join.Goals as goal

pub absorb-requires-clause-rule : goal.absorb-requires-clause-rule
absorb-requires-clause-rule g c = merges _ _ _ _ (search rules)
