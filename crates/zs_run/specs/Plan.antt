-- The plan of a list of bytes, or its first fault: first the causes in the document, then job by
-- job those in the jobs. The causes are checked in the order of the faults.
use Rattle.std.specs.Prelude.{ℕ, ◌&&◌, List, [], length, Bool, nat_le, None, Result, Ok, codes}
use Rattle.serde_json.specs.Data.{Data}
use Rattle.serde_json.specs.Find.{get}
use Rattle.zs_agenda.specs.Ticks.{Ticks}
use Rattle.zs_agenda.specs.Tests.{is_clock}
use Rattle.zs_drive.specs.Values.{JobRecord}
use Rattle.zs_pool.specs.Limits.{max_workers, max_tasks}
use Rattle.zs_run.specs.declared.plan_fault.PlanFault.{PlanFault}
use Rattle.zs_run.specs.declared.plan_fault.PlanFault.TheVariants as faults
use Rattle.zs_run.specs.Refusals.{◌>>=◌, demand, demand_some}
use Rattle.zs_run.specs.Tree.{tree_of, has_only_keys}
use Rattle.zs_run.specs.Shapes.{document_keys, document_parts, ticks_asked}
use Rattle.zs_run.specs.Jobs.{jobs_of}

-- a plan as plain mathematics
pub record PlanRecord : Type 0 where
  pub clock : Ticks
  pub workers : ℕ
  pub grain : ℕ
  pub jobs : List JobRecord

-- the greatest number of bytes of a plan: 16 MiB
abbrev pub max_bytes : ℕ
max_bytes = 16777216

-- the greatest number of jobs of a plan: a round may poll each of them
abbrev pub max_jobs : ℕ
max_jobs = max_tasks

-- 1 to 64 workers, 1 to 10,000 tasks in a batch
unfoldable pub is_cut : ℕ → ℕ → Bool
is_cut workers grain =
    nat_le 1 workers && nat_le workers max_workers && nat_le 1 grain && nat_le grain max_tasks

-- the plan of a document
unfoldable pub plan_of_tree : Data → Result PlanRecord PlanFault
plan_of_tree d = do
  clock ← demand_some (ticks_asked (get (codes "horizon") d) (get (codes "ticks") d))
      (faults.Shape None)
  parts ← demand_some (document_parts d) (faults.Shape None)
  _ ← demand (has_only_keys document_keys d) (faults.UnknownKey None)
  _ ← demand (is_clock clock && is_cut parts.workers parts.grain
      && nat_le (length parts.jobs) max_jobs) (faults.Range None)
  jobs ← jobs_of 0 [] parts.jobs
  Ok (record { clock = clock; workers = parts.workers; grain = parts.grain; jobs = jobs })

-- the document of bytes, if there are no more than a plan may have
abbrev pub document_of : List ℕ → Result Data PlanFault
document_of bytes = do
  _ ← demand (nat_le (length bytes) max_bytes) faults.TooLong
  demand_some (tree_of bytes) faults.Json

-- the plan of bytes
unfoldable pub plan_of : List ℕ → Result PlanRecord PlanFault
plan_of bytes = document_of bytes >>= plan_of_tree
