use Rattle.std.proofs.Common.{◌+◌, ◌≤◌, length, take, get_or, sym, ap, ◌∙◌, subst}
use Rattle.std.proofs.lemmas.List.{length-append}
use Rattle.zs_term.specs.Schedule.{schedule_of}
use Rattle.zs_step.specs.History.{history_of}
use Rattle.zs_step.specs.Compiled.{compiled_term, StandsFor, IsAnswer}
use Rattle.zs_step.proofs.Histories.{history-take}
use Rattle.zs_step.proofs.AnswersInTurn.{order-at, answers-push}
use Rattle.zs_step.proofs.following.follow.Goals as goal

pub step-requires : goal.step-requires
step-requires c = record {
  order = subst (λ m. m ≤ (get_or c.args.pairs.now c.loop-i.i (0, 0)).0)
      (sym c.loop-i.invariant.stands.last)
      (order-at c.args.pairs.now c.loop-i.i (0, 0) c.loop-i-test.true c.requires.order);
}

pub loop-i-preserved : goal.loop-i-preserved
loop-i-preserved c =
    let turn = sym (history-take c.args.pairs.now c.loop-i.i (0, 0) c.loop-i-test.true) in
    let h = history_of (take c.loop-i.i c.args.pairs.now) in
    record {
      stands = subst (StandsFor c.step.new.self) turn
          (c.in_ok-stepped.ensures.steps.stands h c.loop-i.invariant.stands);
      term = c.in_ok-stepped.ensures.term ∙ c.loop-i.invariant.term;
      one_each = ap length c.in_ok-keep.ensures.ok ∙ length-append _ _
          ∙ ap (λ n. n + 1) c.loop-i.invariant.one_each;
      answers = answers-push (schedule_of c.args.checked) c.args.pairs.now c.loop-i.answers.items _
          c.loop-i.i c.in_ok-stepped.stepped c.in_ok-keep.ensures.ok c.loop-i.invariant.one_each
          c.loop-i.invariant.answers
          (subst (λ t. IsAnswer (schedule_of t)
          (history_of (take (c.loop-i.i + 1) c.args.pairs.now)) c.in_ok-stepped.stepped)
          c.loop-i.invariant.term
          (subst (λ k. IsAnswer (schedule_of (compiled_term c.loop-i.compiled)) k
          c.in_ok-stepped.stepped) turn
          (c.in_ok-stepped.ensures.steps.answered h c.loop-i.invariant.stands)));
    }
