-- The text of a report. For each job: a line with its name, the lines of its attempts, and a line
-- with its ending. The last line has the total of due polls.
use Rattle.std.specs.Prelude.{ℕ, ◌-◌, List, [], ◌++◌, length, slice_get, Option, Some, None}
use Rattle.std.specs.Prelude.{option_map, option_and_then, unwrap_or, codes, decimal}
use Rattle.std.specs.List.{flat_map}
use Rattle.zs_term.specs.OutputText.{output_text}
use Rattle.zs_step.specs.Answer.{Answer}
use Rattle.zs_drive.specs.declared.job.Mode.{Mode}
use Rattle.zs_drive.specs.declared.job.Mode.TheVariants.{Retry, Repeat}
use Rattle.zs_drive.specs.declared.record.Ending.{Ending}
use Rattle.zs_drive.specs.declared.record.Ending.TheVariants.{Succeeded, Failed, Finished}
use Rattle.zs_drive.specs.Values.{AttemptedValue, EndedValue}
use Rattle.zs_run.specs.Lines.{attempts_lines}

-- the name of a mode
abbrev pub mode_text : Mode → List ℕ
mode_text Retry = codes "retry"
mode_text Repeat = codes "repeat"

-- the end of the last attempt
abbrev pub last_ended : List AttemptedValue → Option EndedValue
last_ended attempts =
    option_and_then (λ attempt. attempt.ended) (slice_get attempts (length attempts - 1))

-- the moment of that end, or 0
abbrev pub last_moment : List AttemptedValue → ℕ
last_moment attempts = unwrap_or (option_map (λ ended. ended.at) (last_ended attempts)) 0

-- the text of a step's output, if the schedule was stepped
abbrev pub step_output : Option Answer → List ℕ
step_output None = []
step_output (Some step) = output_text step.output

-- the text of the last step's output
abbrev pub last_output : List AttemptedValue → List ℕ
last_output attempts =
    unwrap_or (option_map (λ ended. step_output ended.step) (last_ended attempts)) []

-- how a job with these attempts ended, as text
abbrev pub ending_text : List AttemptedValue → Ending → List ℕ
ending_text attempts (Succeeded value) = codes "succeeded " ++ decimal value
ending_text attempts (Failed code) = codes "failed " ++ decimal code
ending_text attempts Finished = codes "finished " ++ last_output attempts

-- the last line of a job: its ending, the moment of it, and the number of due polls
abbrev pub end_line : ℕ → List AttemptedValue → Option Ending → ℕ → List ℕ
end_line horizon attempts None polls =
    codes "end unfinished at " ++ decimal horizon ++ codes " polls " ++ decimal polls ++ codes "\n"
end_line horizon attempts (Some ending) polls =
    codes "end " ++ ending_text attempts ending ++ codes " at "
    ++ decimal (last_moment attempts) ++ codes " polls " ++ decimal polls ++ codes "\n"

-- the data of a job in a report
pub record JobReport : Type 0 where
  pub name : List ℕ
  pub mode : Mode
  pub attempts : List AttemptedValue
  pub ending : Option Ending
  pub polls : ℕ

-- the first line of a job
abbrev pub head_line : List ℕ → Mode → List ℕ
head_line name mode = codes "job " ++ name ++ codes " " ++ mode_text mode ++ codes "\n"

-- the lines of a job
abbrev pub job_lines : ℕ → JobReport → List ℕ
job_lines horizon job = head_line job.name job.mode ++ attempts_lines 1 job.attempts
    ++ end_line horizon job.attempts job.ending job.polls

-- the whole report up to a horizon, with the total of due polls
abbrev pub report_text : ℕ → List JobReport → ℕ → List ℕ
report_text horizon jobs polls =
    flat_map (job_lines horizon) jobs ++ codes "polls " ++ decimal polls ++ codes "\n"
