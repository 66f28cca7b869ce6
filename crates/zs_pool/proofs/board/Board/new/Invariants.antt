use Rattle.std.proofs.Common.{◌≡◌, List, [], ◌++◌}
use Rattle.std.specs.Vec.Iter.{into_iter_items}
use Rattle.crossbeam_queue.specs.Passes.{view, IsPassOf}
use Rattle.zs_pool.specs.Batches.{BatchValue}
use Rattle.zs_pool.specs.Board.{claims}
use Rattle.zs_term.specs.Saturating.{max_moment}
use Rattle.zs_pool.proofs.board.Board.new.Given as goal

abbrev pub invariant-loop-batch : goal.invariant-loop-batch
invariant-loop-batch g l =
    let rest = into_iter_items l.batch-iterator in
    IsPassOf l.queue l.queue_pass
    × ((put : List BatchValue) × (put ++ rest ≡ l.fn.batches.items)
    × (view l.queue_pass ≡ claims max_moment put []))
