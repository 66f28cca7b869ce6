use Rattle.std.proofs.Common.{◌∙◌}
use Rattle.zs_run.proofs.AnswerLemmas.{report_of_answer}
use Rattle.zs_run.proofs.running.report_plan.Goals as goal

-- the text is the report of the result, and so that of the plan
pub returns : goal.returns
returns g c =
    record {
      text = c.in_ok-report.ensures.text
          ∙ report_of_answer _ _ _ c.in_ok-answer.ensures.answer;
    }
