use Rattle.std.proofs.Common.{sym, ap, ◌∙◌, arith}
use Rattle.zs_bounds.specs.declared.told.Bounds.{Bounds}
use Rattle.zs_bounds.specs.AnswerRange.{AnswerRange}
use Rattle.zs_bounds.specs.Node.{node_schedule, node_state, firsts_of}
use Rattle.zs_bounds.specs.BoundsOf.{latest_of, wait_limit, bounds_from, no_bounds}
use Rattle.zs_bounds.proofs.Loops.{loop_keeps}
use Rattle.zs_bounds.proofs.bounding.bounds_from.Goals as goal

pub loop-preserved : goal.loop-preserved
loop-preserved c =
    let seen = ap (λ (b : Bounds). b.seen) c.with_step-told.ensures.value in
    record {
      told = loop_keeps (node_schedule c.loop.node) (node_schedule c.step.new.node) c.args.limit
          c.args.driver c.args.steps c.loop.counter
          (node_state c.loop.node) (node_state c.step.new.node) c.loop.decision c.real-real.result
          c.in_ok-answer.answer.1
          c.loop.passed c.saturating_add-passed.result c.time_between-later.result c.loop.told
          c.with_step-told.result
          (bounds_from (node_schedule c.args.node.now) c.args.driver c.args.steps
          (node_state c.args.node.now) c.args.first 0 (no_bounds c.args.driver))
          c.in-Some.wait c.loop-test.true c.real-real.ensures.value c.in-Some.is
          c.time_between-later.ensures.value c.saturating_add-passed.ensures
          c.if-passed-gt-MAX_TICK.false c.in_ok-answer.ensures.moves.same.0
          c.in_ok-answer.ensures.moves.state
          (ap (λ (r : AnswerRange). r.decision) c.in_ok-answer.ensures.range)
          c.with_step-told.ensures.value c.loop.invariant.limit c.loop.invariant.told;
      seen = omega (arith, seen, c.loop.invariant.seen);
      passed = c.if-passed-gt-MAX_TICK.false;
      limit = c.loop.invariant.limit
          ∙ sym (ap (λ t. latest_of t c.args.driver) c.in_ok-answer.ensures.moves.same.0);
      longest = c.loop.invariant.longest ∙ sym (ap wait_limit c.in_ok-answer.ensures.moves.same.0);
      firsts = c.in_ok-answer.ensures.moves.same.1 ∙ c.loop.invariant.firsts
          ∙ sym (ap firsts_of c.in_ok-answer.ensures.moves.same.0);
    }
