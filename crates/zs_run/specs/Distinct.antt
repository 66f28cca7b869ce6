-- What a job has to satisfy so that no other such job has the same lines: a valid name, and numbers
-- of 64 bits. Every number of the program has 64 bits. In a definition a number may have any size,
-- and from 10^64 on its text is cut.
use Rattle.std.specs.Prelude.{◌≡◌, ◌<◌, ◌^◌, ⊤, ℕ, List, Option, Some, None, IfSome, map, true}
use Rattle.std.specs.List.{All}
use Rattle.zs_term.specs.Output.{Output, Outputs, number, pair, left, right, listed, none, more}
use Rattle.zs_effect.specs.declared.script.Outcome.{Outcome}
use Rattle.zs_effect.specs.declared.script.Outcome.TheVariants.{Good, Bad}
use Rattle.zs_step.specs.declared.decision.Decision.{Decision}
use Rattle.zs_step.specs.declared.decision.Decision.TheVariants.{Stop, Next}
use Rattle.zs_step.specs.Answer.{Answer}
use Rattle.zs_drive.specs.declared.record.Ending.{Ending}
use Rattle.zs_drive.specs.declared.record.Ending.TheVariants.{Succeeded, Failed, Finished}
use Rattle.zs_drive.specs.Values.{AttemptedValue, EndedValue}
use Rattle.zs_run.specs.Jobs.{is_name}
use Rattle.zs_engine.specs.Times.{ticks_of}
use Rattle.zs_run.specs.Plan.{PlanRecord}
use Rattle.zs_run.specs.Report.{JobReport, last_ended}
use Rattle.zs_run.specs.PlanReport.{job_report}

-- a number of 64 bits
abbrev pub Fits : ℕ → Type 0
Fits n = n < 2 ^ 64

-- outputs and lists of outputs
abbrev mutual
  -- each number of an output fits
  pub OutputFits : Output → Type 0
  OutputFits (number n) = Fits n
  OutputFits (pair a b) = OutputFits a × OutputFits b
  OutputFits (left a) = OutputFits a
  OutputFits (right a) = OutputFits a
  OutputFits (listed xs) = OutputsFit xs

  -- each number of a list's outputs fits
  pub OutputsFit : Outputs → Type 0
  OutputsFit none = ⊤
  OutputsFit (more x xs) = OutputFits x × OutputsFit xs

-- the moment at which a schedule continues fits
abbrev pub DecisionFits : Decision → Type 0
DecisionFits Stop = ⊤
DecisionFits (Next at) = Fits at

-- the value or the error code fits
abbrev pub OutcomeFits : Outcome → Type 0
OutcomeFits (Good value) = Fits value
OutcomeFits (Bad code) = Fits code

-- each number of a step fits
abbrev pub StepFits : Option Answer → Type 0
StepFits None = ⊤
StepFits (Some step) = OutputFits step.output × DecisionFits step.decision

-- each number of an attempt's end fits
abbrev pub EndFits : Option EndedValue → Type 0
EndFits None = ⊤
EndFits (Some ended) = Fits ended.at × OutcomeFits ended.outcome × StepFits ended.step

-- each number of an attempt fits
abbrev pub AttemptFits : AttemptedValue → Type 0
AttemptFits attempt = Fits attempt.begun × EndFits attempt.ended

-- the value or the error code of a job's ending fits
abbrev pub EndingFits : Option Ending → Type 0
EndingFits None = ⊤
EndingFits (Some (Succeeded value)) = Fits value
EndingFits (Some (Failed code)) = Fits code
EndingFits (Some Finished) = ⊤

-- no other such job has the same lines: its name is valid, and each of its numbers fits
pub record CanBeTold (job : JobReport) : Type 0 where
  pub name : is_name job.name ≡ true
  pub attempts : All AttemptFits job.attempts
  pub ending : EndingFits job.ending
  pub polls : Fits job.polls

-- the reports of a plan's jobs
abbrev pub reported : PlanRecord → List JobReport
reported plan = map (job_report (ticks_of plan.clock)) plan.jobs

-- If a job has an ending, its last attempt has ended. If it is `Finished`, the schedule was stepped
-- at that end. So the job's last line never shows a default.
abbrev pub HasItsEnd : List AttemptedValue → Option Ending → Type 0
HasItsEnd attempts ending =
    IfSome ending (λ e. (end : EndedValue) × (last_ended attempts ≡ Some end)
    × (e ≡ Finished → (step : Answer) × (end.step ≡ Some step)))
