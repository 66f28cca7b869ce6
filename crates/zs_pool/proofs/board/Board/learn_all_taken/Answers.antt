use Rattle.std.proofs.Common.{◌≡◌, true, length, subst, IsPermutation}
use Rattle.std.specs.List.{range_with_len}
use Rattle.crossbeam_queue.specs.Passes.{view}
use Rattle.zs_pool.specs.Board.{Claimer}
use Rattle.zs_term.specs.Saturating.{max_moment}
use Rattle.zs_pool.proofs.BoardMoves.{learns, whole_pass}
use Rattle.zs_pool.proofs.board.Board.learn_all_taken.Goals as goal

pub learn_as-requires-clause-rule : goal.learn_as-requires-clause-rule
learn_as-requires-clause-rule c = learns _ _

pub returns-clause-whole : goal.returns-clause-whole
returns-clause-whole c =
    let P : Claimer → Type 0 = λ p. p.share ≡ max_moment → p.none ≡ true →
    IsPermutation (range_with_len 0 (length p.batches)) p.taken in
    let told = c.learn_as.ensures.rule in
    subst P c.pass.view_is (λ whole none. whole_pass (view c.pass.inside.queue) c.pass.inside.seat
    c.pass.inside.none told.0 c.pass.invariant.1 told.1 c.look.ensures.settled whole none)
