-- The parts of a population's input: its document, which has no jobs, and the bytes of one job.
use Rattle.std.specs.Prelude.{ℕ, ◌&&◌, List, [], ◌∷◌, None, Result, Ok, codes}
use Rattle.serde_json.specs.Data.{Data}
use Rattle.serde_json.specs.Find.{get}
use Rattle.zs_agenda.specs.Ticks.{Ticks}
use Rattle.zs_agenda.specs.Tests.{is_clock}
use Rattle.zs_drive.specs.Values.{JobRecord}
use Rattle.zs_run.specs.declared.plan_fault.PlanFault.{PlanFault}
use Rattle.zs_run.specs.declared.plan_fault.PlanFault.TheVariants as faults
use Rattle.zs_run.specs.Refusals.{◌>>=◌, demand, demand_some}
use Rattle.zs_run.specs.Tree.{has_only_keys}
use Rattle.zs_run.specs.Shapes.{one_or_more, ticks_asked}
use Rattle.zs_run.specs.Jobs.{job_of}
use Rattle.zs_run.specs.Plan.{is_cut, document_of}

-- how the jobs of a population run: a plan without its jobs
pub record HeadRecord : Type 0 where
  pub clock : Ticks
  pub workers : ℕ
  pub grain : ℕ

-- the keys that a document without jobs may have
abbrev pub head_keys : List (List ℕ)
head_keys = codes "horizon" ∷ codes "ticks" ∷ codes "workers" ∷ codes "grain" ∷ []

-- the head that a document is, by the causes of a plan's document in their order
unfoldable pub head_of_tree : Data → Result HeadRecord PlanFault
head_of_tree d = do
  clock ← demand_some (ticks_asked (get (codes "horizon") d) (get (codes "ticks") d))
      (faults.Shape None)
  workers ← demand_some (one_or_more (codes "workers") d) (faults.Shape None)
  grain ← demand_some (one_or_more (codes "grain") d) (faults.Shape None)
  _ ← demand (has_only_keys head_keys d) (faults.UnknownKey None)
  _ ← demand (is_clock clock && is_cut workers grain) (faults.Range None)
  Ok (record { clock = clock; workers = workers; grain = grain })

-- the head that bytes are
unfoldable pub head_of : List ℕ → Result HeadRecord PlanFault
head_of bytes = document_of bytes >>= head_of_tree

-- the job that bytes are, with this number, after jobs of these names
unfoldable pub job_of_bytes : ℕ → List (List ℕ) → List ℕ → Result JobRecord PlanFault
job_of_bytes number names bytes = document_of bytes >>= job_of number names
