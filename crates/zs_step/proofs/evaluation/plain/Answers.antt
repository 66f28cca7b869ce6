use Rattle.std.proofs.Common.{ap, ◌∙◌}
use Rattle.zs_term.specs.Schedule.{schedule_of}
use Rattle.zs_step.specs.History.{history_of}
use Rattle.zs_step.specs.Answer.{answer_of}
use Rattle.zs_step.proofs.Answering.{answer-kinded}
use Rattle.zs_step.proofs.evaluation.plain.Goals as goal

pub returns-clause-kinded : goal.returns-clause-kinded
returns-clause-kinded c =
    answer-kinded _ _ (schedule_of c.args.checked.now) (history_of c.args.history.now)
    (c.in_ok-evaluate.ensures.value
    ∙ ap (λ t. answer_of (schedule_of t) (history_of c.args.history.now)) c.term.ensures.term)
