use Rattle.std.proofs.Common.{rules}
use Rattle.zs_pool.proofs.BoardMoves.{merges}
use Rattle.zs_pool.proofs.board.Board.join.Goals as goal

pub absorb-requires-clause-rule : goal.absorb-requires-clause-rule
absorb-requires-clause-rule g c = merges _ _ _ _ (search rules)
