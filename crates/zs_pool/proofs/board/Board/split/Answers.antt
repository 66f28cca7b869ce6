use Rattle.std.proofs.Common.{rules}
use Rattle.zs_pool.proofs.BoardMoves.{forks}
use Rattle.zs_pool.proofs.board.Board.split.Goals as goal

pub another-queue-requires-clause-rule : goal.another-queue-requires-clause-rule
another-queue-requires-clause-rule g c = forks _ _ (search rules)
