-- The text of attempts, as a report has it.
use Rattle.std.specs.Prelude.{ℕ, ◌+◌, List, [], ◌∷◌, ◌++◌, Option, Some, None, codes, decimal}
use Rattle.zs_term.specs.OutputText.{output_text}
use Rattle.zs_effect.specs.declared.script.Outcome.{Outcome}
use Rattle.zs_effect.specs.declared.script.Outcome.TheVariants.{Good, Bad}
use Rattle.zs_step.specs.declared.decision.Decision.{Decision}
use Rattle.zs_step.specs.declared.decision.Decision.TheVariants.{Stop, Next}
use Rattle.zs_step.specs.Answer.{Answer}
use Rattle.zs_drive.specs.Values.{AttemptedValue, EndedValue}

-- the text of an outcome
abbrev pub outcome_text : Outcome → List ℕ
outcome_text (Good value) = codes "ok " ++ decimal value
outcome_text (Bad code) = codes "err " ++ decimal code

-- the text of a decision
abbrev pub decision_text : Decision → List ℕ
decision_text Stop = codes "done"
decision_text (Next at) = codes "next " ++ decimal at

-- the line of the schedule's step after the attempt with this number
abbrev pub step_line : ℕ → Answer → List ℕ
step_line number step = codes "step " ++ decimal number ++ codes " out "
    ++ output_text step.output ++ codes " " ++ decision_text step.decision ++ codes "\n"

-- that line, if the schedule was stepped
abbrev pub step_lines : ℕ → Option Answer → List ℕ
step_lines number None = []
step_lines number (Some step) = step_line number step

-- the text after the moment at which the attempt with this number began
abbrev pub ended_lines : ℕ → Option EndedValue → List ℕ
ended_lines number None = codes " running\n"
ended_lines number (Some ended) = decimal ended.at ++ codes " "
    ++ outcome_text ended.outcome ++ codes "\n" ++ step_lines number ended.step

-- the lines of the attempt with this number
abbrev pub attempt_lines : ℕ → AttemptedValue → List ℕ
attempt_lines number attempt = codes "attempt " ++ decimal number ++ codes " "
    ++ decimal attempt.begun ++ codes ".." ++ ended_lines number attempt.ended

-- the lines of the attempts, numbered from this number on
abbrev pub attempts_lines : ℕ → List AttemptedValue → List ℕ
attempts_lines number [] = []
attempts_lines number (attempt ∷ attempts) =
    attempt_lines number attempt ++ attempts_lines (number + 1) attempts
