-- The result of reading a plan from a reader.
use Rattle.std.specs.Prelude.{◌≡◌, ◌≢◌, ℕ, List, Bool, Option, true, false, Result, Ok, Err}
use Rattle.zs_run.specs.declared.plan_fault.PlanFault.TheVariants as faults
use Rattle.zs_run.specs.declared.run_fault.RunFault.{RunFault}
use Rattle.zs_run.specs.declared.run_fault.RunFault.TheVariants.{Read, Plan, Engine, Write}
use Rattle.zs_run.specs.declared.plan.Plan as plans
use Rattle.zs_run.specs.PlanView.{plan_record}
use Rattle.zs_run.specs.Headline.{IsInput, Reading, WasNoPlan}

-- a reader before and after
abbrev pub reading : Option (List ℕ) → Option (List ℕ) → Bool → Reading
reading before left failed = record { before = before; left = left; failed = failed }

-- The bytes were a plan, or the reader failed, or they have this fault unless memory ran out.
abbrev pub Reads : Result plans.Plan RunFault → Reading → Type 0
Reads (Ok plan) r = (r.failed ≡ false) × IsInput r.before r.left (plan_record plan)
Reads (Err Read) r = r.failed ≡ true
Reads (Err (Plan fault)) r = (r.failed ≡ false) × (fault ≢ faults.Memory → WasNoPlan r fault)
Reads (Err (Engine fault)) r = ⊥
Reads (Err (Write sent)) r = ⊥
