use Rattle.zs_pool.proofs.BoardMoves.{learns}
use Rattle.zs_pool.proofs.board.Board.close.Goals as goal

pub learn_as-requires-clause-rule : goal.learn_as-requires-clause-rule
learn_as-requires-clause-rule g c = learns _ _
