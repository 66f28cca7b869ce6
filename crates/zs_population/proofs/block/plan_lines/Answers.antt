use Rattle.std.proofs.Common.{◌∙◌}
use Rattle.zs_run.proofs.AnswerLemmas.{lines_of_answer, polls_of_answer}
use Rattle.zs_population.proofs.block.plan_lines.Goals as goal

-- the lines are those of the result, and so those of the jobs
pub returns : goal.returns
returns g c = record {
  text = rw c.new-text.ensures.bytes at c.in_ok-append_jobs.ensures.text
      ∙ lines_of_answer _ _ _ c.in_ok-answer.ensures.answer;
  polls = polls_of_answer _ _ _ c.in_ok-answer.ensures.answer;
}
