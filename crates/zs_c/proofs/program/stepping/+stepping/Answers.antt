use Rattle.std.proofs.Common.{◌+◌, [], refl, length, ap, ◌∙◌}
use Rattle.zs_step.specs.Answer.{is_next}
use Rattle.zs_term.specs.Output.{passes}
use Rattle.zs_term.specs.Schedule.{max_weight}
use Rattle.zs_c.specs.declared.program.node.Sizes.{Sizes}
use Rattle.zs_c.proofs.Codes.{held-length}
use Rattle.zs_c.proofs.Counts.{countable-less}
use Rattle.zs_c.proofs.NodeSteps.{code-at, code-deep, code-heavy, leaf-node, both-node, either-node}
use Rattle.zs_c.proofs.NodeSteps.{then-node, while_input-node, mapped-node, while_output-node}
use Rattle.zs_c.proofs.NodeSteps.{reset-stays-node, reset-begins-node, list-few, list-node}
use Rattle.zs_c.proofs.PartSteps.{parts-fit, then-fit, parts-steps, stops, then-goes, then-done}
use Rattle.zs_c.proofs.PartSteps.{then-on}
use Rattle.zs_c.proofs.program.stepping.+stepping.Goals as goal
use Rattle.zs_c.proofs.program.stepping.+stepping.Goals.{step_and_then-then-words-eq0+in_default}
use Rattle.zs_c.proofs.program.stepping.+stepping.Goals.{step_and_then-else-words-eq0}
use Rattle.zs_c.proofs.program.stepping.+stepping.Goals.{step_code-then-levels-eq0-via-then-levels-eq0}
use Rattle.zs_c.proofs.program.stepping.+stepping.Goals.{step_code-then-levels-eq0-via-else-levels-eq0+then-visits-ge-MAX_WEIGHT}

pub step_and_then-returns-then-words-state : goal.step_and_then-returns-then-words-state
step_and_then-returns-then-words-state t c = record {
  steps = λ a b h parts room left right held. absurd
      (then-fit a b h c.args.words.now c.args.sizes.state (ap (λ (z : Sizes). z.state) parts.sizes)
      held c.if-words-state.true);
}

pub step_and_then-returns-in-Next : goal.step_and_then-returns-in-Next
step_and_then-returns-in-Next t c = record {
  steps = λ a b h parts room left right held.
      let x = c.step_code-x in
      let n = c.args.sizes.state in
      let front = code-at a c.split.result.0.now _ c.args.levels c.split.ensures.first
      parts.first in
      then-goes a b h c.args.words.now x.new.words c.args.step.now.moment c.args.step.now.input n
      x.result c.args.visits.now x.new.visits max_weight
      (ap (λ (z : Sizes). z.state) parts.sizes) held room c.if-words-eq0.true
      (λ e r. x.ensures.steps a h front r left e) (ap is_next c.in-Next.is);
}

pub step_and_then-returns : goal.step_and_then-returns
step_and_then-returns t c = record {
  steps = λ a b h parts room left right held.
      let y = c.step_code in
      let n = c.args.sizes.state in
      let sized = ap (λ (z : Sizes). z.state) parts.sizes in
      let front = code-at a c.split.result.0.now _ c.args.levels c.split.ensures.first
      parts.first in
      let behind = code-at b c.split.result.1.now _ c.args.levels c.split.ensures.second
      parts.second in
      elim c.if-words-eq0.branch [
        | step_and_then-then-words-eq0+in_default w ↦
            let x = w.step_code-x in
            then-done a b h c.args.words.now x.new.words w.clear.new.words c.if-words-eq0.words
            y.new.words c.args.step.now.moment c.args.step.now.input n x.result y.result
            c.args.visits.now x.new.visits c.if-words-eq0.visits y.new.visits max_weight sized held
            room w.if-words-eq0.true (λ e r. x.ensures.steps a h front r left e)
            (stops x.result (λ m e. w.in_default.not-Next m e)) (w.clear.ensures.clears a front)
            w.words-is w.visits-is
            (λ g le e r. y.ensures.steps b g behind r (countable-less b h g le right) e)
        | step_and_then-else-words-eq0 w ↦
            then-on a b h c.args.words.now c.if-words-eq0.words y.new.words c.args.step.now.moment
            c.args.step.now.input n y.result
            c.args.visits.now c.if-words-eq0.visits y.new.visits max_weight sized held room
            w.if-words-eq0.false w.words-is w.visits-is
            (λ g le e r. y.ensures.steps b g behind r (countable-less b h g le right) e)
      ];
}

pub step_code-returns-then-levels-eq0 : goal.step_code-returns-then-levels-eq0
step_code-returns-then-levels-eq0 t c = record {
  steps = λ u h coded room countable held. absurd (elim c.then-levels-eq0.branch [
    | step_code-then-levels-eq0-via-then-levels-eq0 w ↦
        code-deep u c.args.code.now c.args.levels coded w.if-levels-eq0.true
    | step_code-then-levels-eq0-via-else-levels-eq0+then-visits-ge-MAX_WEIGHT w ↦
        code-heavy u c.args.visits.now max_weight room w.if-visits-ge-MAX_WEIGHT.true
  ]);
}

pub step_code-returns-then-not-passes : goal.step_code-returns-then-not-passes
step_code-returns-then-not-passes t c = record {
  steps = λ u h coded room countable held. let s = c.step_code-decision-in-ResetWhen in
      reset-stays-node u h c.args.code.now c.words_after-part-in-ResetWhen.result.now
      c.args.words.now s.new.words c.args.levels c.args.step.now.moment c.args.step.now.input
      s.result c.args.visits.now s.new.visits max_weight c.read_node.result c.in-ResetWhen.pick
      c.in-ResetWhen.test c.passes-in-ResetWhen.result
      coded c.read_node.ensures.value c.in-ResetWhen.is
      c.words_after-part-in-ResetWhen.ensures.value room countable held s.ensures.steps
      (λ o told. c.passes-in-ResetWhen.ensures.value ∙ ap (passes c.in-ResetWhen.test)
      (c.read_number-in-ResetWhen.ensures.value o told))
      c.if-not-passes.true;
}

pub step_code-returns-in-Leaf : goal.step_code-returns-in-Leaf
step_code-returns-in-Leaf t c = record {
  steps = λ u h coded room countable held.
      leaf-node u h c.args.code.now c.args.words.now c.step_leaf.new.words c.args.levels
      c.args.step.now.moment c.args.step.now.input c.step_leaf.result
      c.args.visits.now (c.args.visits.now + 1) c.read_node.result c.in-Leaf.leaf coded
      c.read_node.ensures.value c.in-Leaf.is held
      c.step_leaf.ensures.held c.step_leaf.ensures.decides refl;
}

pub step_code-returns-in-Both : goal.step_code-returns-in-Both
step_code-returns-in-Both t c = record {
  steps = λ u h coded room countable held. let s = c.step_parts in
      both-node u h c.args.code.now c.args.words.now s.new.words c.args.levels
      c.args.step.now.moment c.args.step.now.input s.result.0 s.result.1 c.later.result
      c.args.visits.now s.new.visits max_weight c.read_node.result c.in-Both.sizes coded
      c.read_node.ensures.value c.in-Both.is room countable held s.ensures.steps
      c.later.ensures.value;
}

pub step_code-returns-in-Either : goal.step_code-returns-in-Either
step_code-returns-in-Either t c = record {
  steps = λ u h coded room countable held. let s = c.step_parts-in-Either in
      either-node u h c.args.code.now c.args.words.now s.new.words c.args.levels
      c.args.step.now.moment c.args.step.now.input s.result.0 s.result.1 c.earlier.result
      c.args.visits.now s.new.visits max_weight c.read_node.result c.in-Either.sizes coded
      c.read_node.ensures.value c.in-Either.is room countable held s.ensures.steps
      c.earlier.ensures.value;
}

pub step_code-returns-in-AndThen : goal.step_code-returns-in-AndThen
step_code-returns-in-AndThen t c = record {
  steps = λ u h coded room countable held. let s = c.step_and_then in
      then-node u h c.args.code.now c.args.words.now s.new.words c.args.levels
      c.args.step.now.moment c.args.step.now.input s.result
      c.args.visits.now s.new.visits max_weight c.read_node.result c.in-AndThen.sizes coded
      c.read_node.ensures.value c.in-AndThen.is room countable held s.ensures.steps;
}

pub step_code-returns-in-WhileInput : goal.step_code-returns-in-WhileInput
step_code-returns-in-WhileInput t c = record {
  steps = λ u h coded room countable held. let s = c.step_code-decision in
      while_input-node u h c.args.code.now c.words_after.result.now c.args.words.now s.new.words
      c.args.levels c.args.step.now.moment c.args.step.now.input
      s.result c.only_if.result c.args.visits.now s.new.visits max_weight c.read_node.result
      c.in-WhileInput.test c.passes.result
      coded c.read_node.ensures.value c.in-WhileInput.is c.words_after.ensures.value room countable
      held s.ensures.steps c.passes.ensures.value
      c.only_if.ensures.value;
}

pub step_code-returns-in-WhileOutput : goal.step_code-returns-in-WhileOutput
step_code-returns-in-WhileOutput t c = record {
  steps = λ u h coded room countable held. let s = c.step_code-decision-in-WhileOutput in
      while_output-node u h c.args.code.now c.words_after-part.result.now c.args.words.now
      s.new.words c.args.levels c.args.step.now.moment c.args.step.now.input
      s.result c.only_if-in-WhileOutput.result c.args.visits.now s.new.visits max_weight
      c.read_node.result c.in-WhileOutput.pick c.in-WhileOutput.test
      c.passes-in-WhileOutput.result
      coded c.read_node.ensures.value c.in-WhileOutput.is c.words_after-part.ensures.value room
      countable held s.ensures.steps (λ o told. c.passes-in-WhileOutput.ensures.value
      ∙ ap (passes c.in-WhileOutput.test) (c.read_number.ensures.value o told))
      c.only_if-in-WhileOutput.ensures.value;
}

pub step_code-returns-in-Map : goal.step_code-returns-in-Map
step_code-returns-in-Map t c = record {
  steps = λ u h coded room countable held. let s = c.step_code in
      mapped-node u h c.args.code.now c.words_after-in-Map.result.now c.args.words.now s.new.words
      c.args.levels c.args.step.now.moment c.args.step.now.input
      s.result c.args.visits.now s.new.visits max_weight c.read_node.result c.in-Map.field-0
      coded c.read_node.ensures.value c.in-Map.is c.words_after-in-Map.ensures.value room countable
      held s.ensures.steps;
}

pub step_code-returns-else-not-passes : goal.step_code-returns-else-not-passes
step_code-returns-else-not-passes t c = record {
  steps = λ u h coded room countable held. let s = c.step_code-decision-in-ResetWhen in
      let again = c.step_code-in-ResetWhen in
      reset-begins-node u h c.args.code.now c.words_after-part-in-ResetWhen.result.now
      c.args.words.now s.new.words c.clear.new.words again.new.words
      c.args.levels c.args.step.now.moment c.args.step.now.input s.result again.result
      c.args.visits.now s.new.visits again.new.visits max_weight
      c.read_node.result c.in-ResetWhen.pick c.in-ResetWhen.test c.passes-in-ResetWhen.result
      coded c.read_node.ensures.value c.in-ResetWhen.is
      c.words_after-part-in-ResetWhen.ensures.value room countable held s.ensures.steps
      (λ o told. c.passes-in-ResetWhen.ensures.value ∙ ap (passes c.in-ResetWhen.test)
      (c.read_number-in-ResetWhen.ensures.value o told))
      c.if-not-passes.false c.clear.ensures.clears again.ensures.steps;
}

pub step_code-returns-then-words-lt2 : goal.step_code-returns-then-words-lt2
step_code-returns-then-words-lt2 t c = record {
  steps = λ u h coded room countable held.
      absurd (list-few u c.args.code.now c.args.words.now c.args.levels c.read_node.result coded
      c.read_node.ensures.value c.in-CollectAll.is
      (ap length held ∙ held-length u h []) c.if-words-lt2.true);
}

pub step_code-returns-else-words-lt2 : goal.step_code-returns-else-words-lt2
step_code-returns-else-words-lt2 t c = record {
  steps = λ u h coded room countable held. let s = c.step_code-decision-in-CollectAll in
      list-node u h c.args.code.now c.words_after-part-in-CollectAll.result.now c.args.words.now
      s.new.words c.args.levels c.args.step.now.moment c.args.step.now.input
      s.result c.args.visits.now s.new.visits max_weight _ c.size_after.result c.read_node.result
      coded c.read_node.ensures.value c.in-CollectAll.is
      c.words_after-part-in-CollectAll.ensures.value room countable held s.ensures.steps refl
      c.size_after.ensures.value;
}

pub step_parts-returns-then-words-state : goal.step_parts-returns-then-words-state
step_parts-returns-then-words-state t c = record {
  steps = λ a b h parts room left right held. absurd
      (parts-fit a b h c.args.words.now c.args.sizes.state (ap (λ (z : Sizes). z.state) parts.sizes)
      held c.if-words-state.true);
}

pub step_parts-returns : goal.step_parts-returns
step_parts-returns t c = record {
  steps = λ a b h parts room left right held.
      let x = c.step_code-x in
      let y = c.step_code-y in
      let n = c.args.sizes.state in
      let front = code-at a c.split.result.0.now _ c.args.levels c.split.ensures.first
      parts.first in
      let behind = code-at b c.split.result.1.now _ c.args.levels c.split.ensures.second
      parts.second in
      parts-steps a b h c.args.words.now x.new.words y.new.words c.args.step.now.moment
      c.args.step.now.input n x.result y.result
      c.args.visits.now x.new.visits y.new.visits max_weight
      (ap (λ (z : Sizes). z.state) parts.sizes) held room
      (λ e r. x.ensures.steps a h front r left e)
      (λ e r. y.ensures.steps b h behind r right e);
}
