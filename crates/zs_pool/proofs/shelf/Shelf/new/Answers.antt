use Rattle.zs_pool.proofs.ShelfMoves.{begins}
use Rattle.zs_pool.proofs.shelf.Shelf.new.Goals as goal

pub ruled-requires-clause-rule : goal.ruled-requires-clause-rule
ruled-requires-clause-rule g c = begins
