-- What the bounds of schedules say about an accepted plan. Each number of a script has 64 bits,
-- since the reader accepts no other.
use Rattle.std.specs.Prelude.{◌≡◌, ℕ, ◌+◌, List, Ok}
use Rattle.std.specs.List.{All}
use Rattle.zs_drive.specs.Values.{JobRecord}
use Rattle.zs_engine.specs.Times.{ticks_of}
use Rattle.zs_run.specs.Plan.{PlanRecord, plan_of}
use Rattle.zs_run.specs.PlanReport.{job_report}
use Rattle.zs_agenda.specs.Ticks.{every_ms}
use Rattle.zs_bounds.specs.declared.driver.Driver.{Driver}
use Rattle.zs_bounds.specs.declared.told.Bounds.{Bounds}
use Rattle.zs_bounds.specs.Bounds.{Promises}
use Rattle.zs_bounds.specs.BoundsOf.{bounds_of}
use Rattle.zs_job_bounds.specs.Histories.{HasInputs}
use Rattle.zs_job_bounds.specs.JobBounds.{TicksEachMs, Takes, TakesAnyDuration, IsWithin}
use Rattle.zs_job_bounds.specs.JobBounds.{EndsInTime}

-- a law that is true of every job of every plan that the reader accepts
abbrev pub OfEachPlan : (PlanRecord → JobRecord → Type 0) → Type 0
OfEachPlan Law = (bytes : List ℕ) (plan : PlanRecord)
    → plan_of bytes ≡ Ok plan → All (Law plan) plan.jobs

-- The values and error codes of a job's script have 64 bits.
abbrev pub ScriptHasInputs : PlanRecord → JobRecord → Type 0
ScriptHasInputs plan job = HasInputs job.script

-- Each job of the plan does what `exact_driver` may do.
abbrev pub TakesAnyInPlan : PlanRecord → JobRecord → Type 0
TakesAnyInPlan plan job = TakesAnyDuration job (ticks_of plan.clock)

-- a clock of every millisecond ticks each millisecond
abbrev pub EveryMsTicks : Type 0
EveryMsTicks = (last : ℕ) → TicksEachMs (ticks_of (every_ms last))

-- a law that is true of a job of a plan if the job does what d may do
abbrev pub InReport : (Driver → PlanRecord → JobRecord → Type 0)
    → PlanRecord → JobRecord → Type 0
InReport Law plan job = (d : Driver) → Takes d job (ticks_of plan.clock) → Law d plan job

-- The attempts of a job in the plan's report are within all bounds that hold for its schedule.
abbrev pub PromisedInReport : Driver → PlanRecord → JobRecord → Type 0
PromisedInReport d plan job = (b : Bounds) → Promises job.schedule d b
    → IsWithin b (job_report (ticks_of plan.clock) job).attempts

-- They are within the bounds that `zs_bounds::bounds` computes for its schedule, from any number of
-- steps.
abbrev pub ComputedInReport : Driver → PlanRecord → JobRecord → Type 0
ComputedInReport d plan job = (steps : ℕ)
    → IsWithin (bounds_of job.schedule d steps) (job_report (ticks_of plan.clock) job).attempts

-- A job ends in time in the plan's report, by all bounds that hold for its schedule.
abbrev pub PromisedRunInReport : Driver → PlanRecord → JobRecord → Type 0
PromisedRunInReport d plan job =
    let report = job_report (ticks_of plan.clock) job in
    (b : Bounds) → Promises job.schedule d b
    → EndsInTime b (ticks_of plan.clock) (job.start + d.waits.late) report.attempts report.ending

-- It does so by the bounds that `zs_bounds::bounds` computes.
abbrev pub ComputedRunInReport : Driver → PlanRecord → JobRecord → Type 0
ComputedRunInReport d plan job =
    let report = job_report (ticks_of plan.clock) job in
    (steps : ℕ) → EndsInTime (bounds_of job.schedule d steps)
    (ticks_of plan.clock) (job.start + d.waits.late) report.attempts report.ending
