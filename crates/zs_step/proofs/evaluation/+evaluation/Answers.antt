use Rattle.std.proofs.Common.{◌≡◌, ◌<◌, ◌≤◌, ◌-◌, ◌+◌, length, drop, take, sym, ap, ◌∙◌, arith}
use Rattle.std.proofs.Common.{refl, rules, subst, IfOk}
use Rattle.zs_term.specs.Output.{output_of, outputs_of}
use Rattle.zs_term.specs.Schedule.{schedule_of, over, reset_when}
use Rattle.zs_step.specs.History.{history_of}
use Rattle.zs_step.specs.Answer.{Answer, answer, answer_of, is_next}
use Rattle.zs_step.proofs.Sequels.{sequel-first, sequel-second, from_done-go, from_done-stop}
use Rattle.zs_step.proofs.Sequels.{collected-turn, collected-last, collected-answer}
use Rattle.zs_step.proofs.Resets.{reset-goes-on, reset-begins}
use Rattle.zs_step.proofs.evaluation.+evaluation.Goals.{reset_start-then-is_passed}
use Rattle.zs_step.proofs.evaluation.+evaluation.Goals.{reset_start-else-is_passed}
use Rattle.zs_step.proofs.evaluation.+evaluation.Goals as goal

pub in_turn-returns-in_ok-make_left-in-None : goal.in_turn-returns-in_ok-make_left-in-None
in_turn-returns-in_ok-make_left-in-None t c =
    record {
      value =
          sequel-first (answer_of (schedule_of c.args.first.now))
          (answer_of (schedule_of c.args.second.now)) _ _ _ _ _
          c.in-None.is c.in_ok-first_done.ensures.none c.in_ok-out-in-None.ensures.value
          c.in_ok-make_left-in-None.ensures.ok
          ∙ search rules;
    }

pub first_done-returns-then-not-goes_on-clause-some :
    goal.first_done-returns-then-not-goes_on-clause-some
first_done-returns-then-not-goes_on-clause-some t c =
    from_done-stop (answer_of (schedule_of c.args.term.now)) c.args.history.now c.loop-i.i
    (answer (output_of c.in_ok-answer.answer.0) c.in_ok-answer.answer.1) c.is_next-goes_on.result
    c.loop-i-test.true c.loop-i.invariant c.in_ok-answer.ensures.value
    (c.is_next-goes_on.ensures.value ∙ ap is_next c.decision_of.ensures.value) c.if-not-goes_on.true

pub first_done-loop-i-preserved : goal.first_done-loop-i-preserved
first_done-loop-i-preserved t c =
    from_done-go (answer_of (schedule_of c.args.term.now)) c.args.history.now c.loop-i.i
    (answer (output_of c.in_ok-answer.answer.0) c.in_ok-answer.answer.1) c.is_next-goes_on.result
    c.loop-i-test.true c.loop-i.invariant c.in_ok-answer.ensures.value
    (c.is_next-goes_on.ensures.value ∙ ap is_next c.decision_of.ensures.value)
    c.if-not-goes_on.false

pub outputs_before-loop-i-preserved : goal.outputs_before-loop-i-preserved
outputs_before-loop-i-preserved t c =
    let lt : c.loop-i.i < length c.args.history.now = omega (arith, c.loop-i-test.true) in
    collected-turn (answer_of (schedule_of c.args.term.now)) c.args.history.now c.loop-i.i
    (answer (output_of c.in_ok-answer.answer.0) c.in_ok-answer.answer.1)
    (is_next c.in_ok-answer.answer.1)
    (outputs_of c.loop-i.items.items) (outputs_of c.collect.new.items.items)
    lt c.loop-i.invariant c.in_ok-answer.ensures.value refl c.in_ok-collect.ensures.value

pub outputs_before-returns : goal.outputs_before-returns
outputs_before-returns t c =
    let e : c.loop-i.i ≡ length c.args.history.now - 1 = omega arith in
    record {
      value =
          collected-last (answer_of (schedule_of c.args.term.now)) c.args.history.now c.loop-i.i
          (outputs_of c.loop-i.items.items) c.requires.some e c.loop-i.invariant;
    }

pub in_turn-returns-in_ok-make_right-in-Some : goal.in_turn-returns-in_ok-make_right-in-Some
in_turn-returns-in_ok-make_right-in-Some t c =
    record {
      value =
          sequel-second (answer_of (schedule_of c.args.first.now))
          (answer_of (schedule_of c.args.second.now)) (history_of c.args.history.now)
          c.args.history.now _ c.in-Some.k _ _ _
          c.in-Some.is c.in_ok-first_done.ensures.some
          (c.in_ok-out-in-Some.ensures.value ∙ ap (λ h. answer_of (schedule_of c.args.second.now)
          (history_of h)) c.from_index-rest.ensures.rest)
          c.in_ok-make_right-in-Some.ensures.ok
          ∙ search rules;
    }

pub collect_all-returns : goal.collect_all-returns
collect_all-returns t c =
    record {
      value =
          collected-answer (answer_of (schedule_of c.args.part.now))
          (history_of c.args.history.now) _ _ _ _ _
          c.make_list.ensures.value c.in_ok-items.ensures.value c.decision_of.ensures.value
          c.in_ok-last.ensures.value
          ∙ search rules;
    }

pub reset_start-loop-i-preserved : goal.reset_start-loop-i-preserved
reset_start-loop-i-preserved t c =
    let f = answer_of (schedule_of c.args.term.now) in
    let a = answer (output_of c.in_ok-answer.answer.0) c.in_ok-answer.answer.1 in
    let is : a ≡ f (history_of (drop c.loop-i.start (take (c.loop-i.i + 1) c.args.history.now))) =
    c.in_ok-answer.ensures.value ∙ ap (λ h. f (history_of h)) c.between.ensures.part in
    elim c.if-is_passed.branch [
      | reset_start-then-is_passed w ↦ (
        subst (λ s. s < length c.args.history.now) (sym w.start-is) c.loop-i-test.true,
        subst (λ s. s ≤ c.loop-i.i + 1) (sym w.start-is) (omega arith),
        reset-begins f c.args.pick c.args.test c.args.history.now c.loop-i.i c.loop-i.start a
            c.is_passed.result
            c.loop-i-test.true c.loop-i.invariant.1 c.loop-i.invariant.2 is
            c.is_passed.ensures.value w.if-is_passed.true
            ∙ ap (λ s. history_of (drop s (take (c.loop-i.i + 1) c.args.history.now)))
            (sym w.start-is),
      )
      | reset_start-else-is_passed w ↦ (
        subst (λ s. s < length c.args.history.now) (sym w.start-is) c.loop-i.invariant.0,
        subst (λ s. s ≤ c.loop-i.i + 1) (sym w.start-is) (omega arith),
        reset-goes-on f c.args.pick c.args.test c.args.history.now c.loop-i.i c.loop-i.start a
            c.is_passed.result
            c.loop-i-test.true c.loop-i.invariant.1 c.loop-i.invariant.2 is
            c.is_passed.ensures.value w.if-is_passed.false
            ∙ ap (λ s. history_of (drop s (take (c.loop-i.i + 1) c.args.history.now)))
            (sym w.start-is),
      )
    ]

pub since_last_reset-returns-clause-value : goal.since_last_reset-returns-clause-value
since_last_reset-returns-clause-value t c =
    let same : answer_of (schedule_of c.args.part.now) (history_of c.from_index.result.now)
    ≡ answer_of (over (schedule_of c.args.part.now) (reset_when c.args.pick c.args.test))
    (history_of c.args.history.now) =
    ap (λ h. answer_of (schedule_of c.args.part.now) (history_of h)) c.from_index.ensures.rest
    ∙ ap (answer_of (schedule_of c.args.part.now)) (sym c.in_ok-start.ensures.since) in
    subst (λ (w : Answer). IfOk c.evaluate.result (λ r. answer (output_of r.0) r.1 ≡ w)) same
    c.evaluate.ensures.value
