-- What an accepted plan is, independent of how it was read.
use Rattle.std.specs.Prelude.{◌≡◌, ◌≤◌, length, map, true}
use Rattle.std.specs.List.{All, IsDistinct}
use Rattle.std.specs.Str.{bytes_eq}
use Rattle.zs_agenda.specs.Ticks.{IsClock}
use Rattle.zs_term.specs.Kinds.{IsSchedule}
use Rattle.zs_effect.specs.Scripts.{IsScript}
use Rattle.zs_drive.specs.Values.{JobRecord}
use Rattle.zs_pool.specs.Batches.{IsCut}
use Rattle.zs_run.specs.Jobs.{is_name}
use Rattle.zs_run.specs.Plan.{PlanRecord, max_jobs}

-- a job that a plan may have
pub record IsLawfulJob (job : JobRecord) : Type 0 where
  pub name : is_name job.name ≡ true
  pub schedule : IsSchedule job.schedule
  pub script : IsScript job.script

-- a plan with a valid clock, cut and jobs, in which no two jobs have the same name
pub record IsLawful (plan : PlanRecord) : Type 0 where
  pub clock : IsClock plan.clock
  pub cut : IsCut plan.workers plan.grain
  pub few : length plan.jobs ≤ max_jobs
  pub jobs : All IsLawfulJob plan.jobs
  pub names : IsDistinct bytes_eq (map (λ job. job.name) plan.jobs)
