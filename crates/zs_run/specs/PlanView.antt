-- What contracts know about a plan.
use Rattle.std.specs.Prelude.{map}
use Rattle.zs_drive.specs.Values.{job_record}
use Rattle.zs_run.specs.declared.plan.Plan.{Plan}
use Rattle.zs_run.specs.Plan.{PlanRecord}

-- a plan by the values of its parts
abbrev pub plan_record : Plan → PlanRecord
plan_record plan = record {
  clock = plan.clock;
  workers = plan.cut.workers;
  grain = plan.cut.grain;
  jobs = map job_record plan.jobs.items;
}
