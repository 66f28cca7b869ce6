-- The laws of jobs, for the jobs of an accepted plan.
use Rattle.std.proofs.Common.{◌≡◌, ℕ, List, Bool, true, false, nat_le, Some, None, Ok, if◌then◌else◌, ◌∙◌}
use Rattle.std.specs.Prelude.{slice_index_or}
use Rattle.std.specs.List.{All}
use Rattle.zs_drive.specs.Values.{JobRecord}
use Rattle.zs_agenda.specs.Ticks.{every_ms}
use Rattle.zs_engine.specs.Times.{ticks_of}
use Rattle.zs_engine.proofs.ClockTicks.{first_tick-is, ticks-rising}
use Rattle.zs_run.specs.Plan.{PlanRecord, plan_of}
use Rattle.zs_run.proofs.LawfulLemmas.{plan_is_lawful}
use Rattle.zs_bounds.specs.BoundsOf.{bounds_of}
use Rattle.zs_bounds.proofs.Promising.{bounds_of-promises}
use Rattle.zs_job_bounds.specs.PlanBounds.{ScriptHasInputs, TakesAnyInPlan, EveryMsTicks, InReport, PromisedInReport, ComputedInReport, PromisedRunInReport, ComputedRunInReport}
use Rattle.zs_job_bounds.proofs.Accepted.{plan-inputs}
use Rattle.zs_job_bounds.proofs.Histories.{takes-any}
use Rattle.zs_job_bounds.proofs.Within.{within-bounds, ends-in-time}

chosen-is : (c : Bool) (x t : ℕ) → (if c then Some x else None) ≡ Some t → t ≡ x
chosen-is true x t e = cc
chosen-is false x t e = cc

-- a clock of every millisecond ticks each millisecond
pub every_ms-ticks : EveryMsTicks
every_ms-ticks last x t is = chosen-is (nat_le x last) x t (first_tick-is (every_ms last) x ∙ is)

module _ (bytes : List ℕ) (plan : PlanRecord) (is : plan_of bytes ≡ Ok plan) where
  pub scripts-have_inputs : All (ScriptHasInputs plan) plan.jobs
  scripts-have_inputs = plan-inputs bytes plan is

  pub takes-any-in_plan : All (TakesAnyInPlan plan) plan.jobs
  takes-any-in_plan k e inside =
      let lawful = plan_is_lawful bytes plan is in
      takes-any (slice_index_or plan.jobs k e) (ticks_of plan.clock) (lawful.jobs k e inside).script

  pub promised-in_report : All (InReport PromisedInReport plan) plan.jobs
  promised-in_report k e inside d takes b promises =
      let lawful = plan_is_lawful bytes plan is in
      let job : JobRecord = slice_index_or plan.jobs k e in
      within-bounds d job b takes.waits promises (lawful.jobs k e inside).script (plan-inputs bytes plan is k e inside) (ticks_of plan.clock)
      (ticks-rising plan.clock lawful.clock).0 takes

  pub computed-in_report : All (InReport ComputedInReport plan) plan.jobs
  computed-in_report k e inside d takes steps =
      let lawful = plan_is_lawful bytes plan is in
      let job : JobRecord = slice_index_or plan.jobs k e in
      promised-in_report k e inside d takes (bounds_of job.schedule d steps)
      (bounds_of-promises job.schedule d steps (lawful.jobs k e inside).schedule.factors)

  pub promised-run-in_report : All (InReport PromisedRunInReport plan) plan.jobs
  promised-run-in_report k e inside d takes b promises =
      let lawful = plan_is_lawful bytes plan is in
      let job : JobRecord = slice_index_or plan.jobs k e in
      ends-in-time d job b takes.waits promises (lawful.jobs k e inside).script (plan-inputs bytes plan is k e inside) (ticks_of plan.clock)
      (ticks-rising plan.clock lawful.clock).0 takes

  pub computed-run-in_report : All (InReport ComputedRunInReport plan) plan.jobs
  computed-run-in_report k e inside d takes steps =
      let lawful = plan_is_lawful bytes plan is in
      let job : JobRecord = slice_index_or plan.jobs k e in
      promised-run-in_report k e inside d takes (bounds_of job.schedule d steps)
      (bounds_of-promises job.schedule d steps (lawful.jobs k e inside).schedule.factors)
