use Rattle.std.proofs.Common.{◌+◌, sym, ap, ◌∙◌}
use Rattle.zs_bounds.specs.AnswerRange.{AnswerRange}
use Rattle.zs_bounds.specs.Node.{node_schedule, node_state, firsts_of}
use Rattle.zs_bounds.specs.WithinOf.{within_from}
use Rattle.zs_bounds.proofs.WithinLoops.{within_keeps}
use Rattle.zs_bounds.proofs.within.within_from.Goals as goal

pub loop-steps_before-preserved : goal.loop-steps_before-preserved
loop-steps_before-preserved c =
    let loop = c.loop-steps_before in
    let same = c.in_ok-answer.ensures.moves.same in
    record {
      told = within_keeps (node_schedule loop.node) (node_schedule c.step.new.node) c.args.driver
          c.args.time c.args.steps loop.steps_before
          (node_state loop.node) (node_state c.step.new.node) loop.decision c.real-real.result
          c.in_ok-answer.answer.1
          loop.passed c.in-Some-checked_add.at c.time_between-later.result (loop.steps_before + 1)
          (within_from (node_schedule c.args.node.now) c.args.driver c.args.time c.args.steps
          (node_state c.args.node.now) c.args.first 0 1)
          c.in-Some.wait c.loop-steps_before-test.true c.real-real.ensures.value c.in-Some.is
          c.time_between-later.ensures.value c.in-Some-checked_add.ensures.1
          c.if-at-time.false same.0 c.in_ok-answer.ensures.moves.state
          (ap (λ (r : AnswerRange). r.decision) c.in_ok-answer.ensures.range) loop.invariant.told;
      firsts = same.1 ∙ loop.invariant.firsts ∙ sym (ap firsts_of same.0);
    }
