use Rattle.std.proofs.Common.{◌≡◌, ◌||◌, refl, sym, ap, ◌∙◌}
use Rattle.zs_bounds.specs.AnswerRange.{results_if}
use Rattle.zs_bounds.specs.OutRange.{result_range}
use Rattle.zs_bounds.specs.StateRange.{turns, first_range, next_range, next_state}
use Rattle.zs_bounds.specs.Node.{node_schedule, node_state}
use Rattle.zs_bounds.proofs.Turning.{turn_results, turn_states}
use Rattle.zs_bounds.proofs.stepping.+stepping.Goals as goal
use Rattle.zs_bounds.proofs.stepping.+stepping.Goals.{step_and_then-then-is_on}
use Rattle.zs_bounds.proofs.stepping.+stepping.Goals.{step_and_then-else-is_on}

pub step_and_then-returns-clause-range : goal.step_and_then-returns-clause-range
step_and_then-returns-clause-range t c =
    let a = node_schedule c.args.first.now in
    let b = node_schedule c.args.second.now in
    c.in_ok-answer.ensures.value
    ∙ turn_results c.args.turns.now.first_on c.args.turns.now.second_on
    (next_range a (node_state c.args.first.now) c.args.next.later)
    (next_range b (node_state c.args.second.now) c.args.next.later) (first_range b)
    (result_range c.in_ok-x.x) (result_range c.in_ok-y.y) (result_range c.in_ok-start.start)
    c.in_ok-x.ensures.range c.in_ok-y.ensures.range
    (c.in_ok-start.ensures.value ∙ ap (λ z. results_if c.in_ok-x.x.1.stops z) c.requires.firsts.2)

pub step_and_then-returns-clause-moves : goal.step_and_then-returns-clause-moves
step_and_then-returns-clause-moves t c =
    let a = node_schedule c.args.first.now in
    let b = node_schedule c.args.second.now in
    let x = node_state c.args.first.now in
    let y = node_state c.args.second.now in
    let later = c.args.next.later in
    let stops = c.in_ok-x.x.1.stops in
    let on : c.if-is_on.turns ≡ (c.args.turns.now.second_on || stops) =
    elim c.if-is_on.branch [
      | step_and_then-then-is_on w ↦
          w.turns-is ∙ w.if-is_on.true ∙ sym (ap (λ z. z || stops) w.if-is_on.true)
      | step_and_then-else-is_on w ↦
          w.turns-is ∙ sym (ap (λ z. z || stops) w.if-is_on.false)
    ] in
    record {
      state =
          ap (λ z. turns c.may_go_on-turns.result z (node_state c.step_if.new.part)
          (node_state c.begin.new.node)) on
          ∙ turn_states c.args.turns.now.first_on c.args.turns.now.second_on
          c.may_go_on-turns.result
          (next_range a x later) (result_range c.in_ok-x.x) b (node_schedule c.step_if-2.new.part)
          x (next_state a x later) y (next_state b y later)
          (node_state c.step_if.new.part) (node_state c.step_if-2.new.part)
          (node_state c.begin.new.node) c.in_ok-x.ensures.range c.may_go_on-turns.ensures.value
          c.in_ok-x.ensures.state c.in_ok-y.ensures.state c.in_ok-y.ensures.same.0
          c.begin.ensures.state;
      first = c.in_ok-x.ensures.same;
      second = (
        c.begin.ensures.same.0 ∙ c.in_ok-y.ensures.same.0,
        c.begin.ensures.same.1 ∙ c.in_ok-y.ensures.same.1,
      );
      begins = (refl, refl);
    }
