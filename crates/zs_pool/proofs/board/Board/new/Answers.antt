use Rattle.std.proofs.Common.{List, [], ◌∷◌, ◌++◌, ap, sym, ◌∙◌, append_assoc}
use Rattle.std.specs.Vec.Iter.{into_iter_items}
use Rattle.zs_pool.specs.Batches.{BatchValue}
use Rattle.zs_pool.specs.declared.board.rule.Claims.{Claims}
use Rattle.zs_pool.specs.Board.{claims}
use Rattle.zs_pool.proofs.BoardMoves.{begins, puts, learns}
use Rattle.zs_pool.proofs.board.Board.new.Goals as goal

pub ruled-requires-clause-rule : goal.ruled-requires-clause-rule
ruled-requires-clause-rule g c = begins

pub loop-batch-init : goal.loop-batch-init
loop-batch-init g c = (
  c.in_ok-queue.ensures.1,
  ([], c.into_iter-batch-iterator.ensures.into_iter_gives.0, c.in_ok-queue.ensures.3),
)

pub push_as-requires : goal.push_as-requires
push_as-requires g c = record {
  queue = c.loop-batch.invariant.0;
  rule = (puts _ _ _ _ (ap (λ v. v.share) c.loop-batch.invariant.1.2), learns _ _);
}

pub loop-batch-preserved : goal.loop-batch-preserved
loop-batch-preserved g c =
    let was = c.loop-batch.invariant.1 in let put : List BatchValue = was.0 in
    let b : BatchValue = c.in-Some.batch in
    let rest : List BatchValue = into_iter_items c.next.new.self in
    let same = c.in-Ok.ensures.queue in
    let told = c.in-Ok.ensures.rule in
    let next = λ (v : Claims BatchValue). claims v.share (v.batches ++ b ∷ []) v.taken in (
      (same.0 ∙ c.loop-batch.invariant.0.0, same.2 ∙ c.loop-batch.invariant.0.1),
      (
        put ++ b ∷ [],
        append_assoc put (b ∷ []) rest ∙ ap (λ l. put ++ l) (sym c.in-Some.ensures.steps.0) ∙ was.1,
        told ∙ ap next was.2,
      ),
    )
