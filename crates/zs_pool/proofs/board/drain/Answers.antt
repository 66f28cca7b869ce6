use Rattle.std.proofs.Common.{◌∙◌, arith}
use Rattle.crossbeam_queue.specs.Passes.{view}
use Rattle.zs_pool.proofs.BoardMoves.{takes, learns, drained, nothing_left}
use Rattle.zs_pool.proofs.board.drain.Goals as goal

pub pop_as-requires : goal.pop_as-requires
pop_as-requires g c = record {
  queue = c.loop.invariant.0;
  rule = (takes _ _ (let e = c.loop.invariant.1 in omega arith), learns _ _);
}

pub loop-preserved : goal.loop-preserved
loop-preserved g c =
    let h = c.in-Some-pop_as.ensures in let p = c.in_ok-push-in-Some-pop_as.ensures in
    let was = c.loop.invariant in
    let next = drained (view c.loop.pass) (view c.pop_as.new.pass) _ c.loop.left.items
    c.push.new.self.items _ was.1 h.rule p.items was.2 in
    ((h.queue.0 ∙ was.0.0, h.queue.2 ∙ was.0.1), next.0, next.1)

pub returns-in-None-pop_as : goal.returns-in-None-pop_as
returns-in-None-pop_as g c =
    let h = c.in-None-pop_as.ensures in let was = c.loop.invariant in
    record {
      left = nothing_left (view c.loop.pass) c.loop.left.items _ was.1 h.rule.1 was.2;
      memory = tt;
    }
