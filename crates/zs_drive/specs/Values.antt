-- What contracts know about a job and the records of its attempts.
use Rattle.std.specs.Prelude.{ℕ, List, Option, Some, None, string_bytes}
use Rattle.zs_effect.specs.declared.script.Beat.{Beat}
use Rattle.zs_effect.specs.declared.script.Outcome.{Outcome}
use Rattle.zs_term.specs.declared.outputs.Out.{Out}
use Rattle.zs_term.specs.Output.{output_of}
use Rattle.zs_term.specs.Schedule.{Schedule, schedule_of}
use Rattle.zs_step.specs.declared.decision.Decision.{Decision}
use Rattle.zs_step.specs.Answer.{Answer, answer}
use Rattle.zs_drive.specs.declared.job.Mode.{Mode}
use Rattle.zs_drive.specs.declared.job.Job.{Job}
use Rattle.zs_drive.specs.declared.record.Attempted.{Attempted}
use Rattle.zs_drive.specs.declared.record.Ended.{Ended}

-- a job, by the values of its fields; its schedule is a tree without places in memory
pub record JobRecord : Type 0 where
  pub name : List ℕ
  pub mode : Mode
  pub schedule : Schedule
  pub start : ℕ
  pub script : List Beat

-- the record of a job
abbrev pub job_record : Job → JobRecord
job_record job = record {
  name = string_bytes job.name;
  mode = job.mode;
  schedule = schedule_of job.schedule;
  start = job.start;
  script = job.script;
}

-- the end of an attempt: when, how, and the schedule's result if it was stepped
pub record EndedValue : Type 0 where
  pub at : ℕ
  pub outcome : Outcome
  pub step : Option Answer

-- an attempt, which is running if it has no end
pub record AttemptedValue : Type 0 where
  pub begun : ℕ
  pub ended : Option EndedValue

-- the result of a step that a record stores, with the output as a tree
abbrev pub step_of : Option (Out × Decision) → Option Answer
step_of None = None
step_of (Some step) = Some (answer (output_of step.0) step.1)

-- how an attempt ended, if it has
abbrev pub ended_of : Option Ended → Option EndedValue
ended_of None = None
ended_of (Some ended) =
    Some (record { at = ended.at; outcome = ended.outcome; step = step_of ended.step })

-- the attempt that a record stores
abbrev pub attempted_of : Attempted → AttemptedValue
attempted_of attempted = record { begun = attempted.begun; ended = ended_of attempted.ended }
