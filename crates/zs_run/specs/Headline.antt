-- How a run ends. For success and for each fault: what was read, what was written, and whether
-- reader or writer failed.
use Rattle.std.specs.Prelude.{◌≡◌, ◌≢◌, ◌≤◌, ◌+◌, ℕ, List, [], length, take, drop, Bool, true}
use Rattle.std.specs.Prelude.{false, Option, Some, Result, Ok, Err, IfSome}
use Rattle.std.specs.Io.KnownBytes.{Appends}
use Rattle.zs_run.specs.Plan.{PlanRecord, max_bytes, plan_of}
use Rattle.zs_run.specs.PlanReport.{report_of}
use Rattle.zs_run.specs.declared.plan_fault.PlanFault.{PlanFault}
use Rattle.zs_run.specs.declared.plan_fault.PlanFault.TheVariants as faults
use Rattle.zs_run.specs.declared.run_fault.RunFault.{RunFault}
use Rattle.zs_run.specs.declared.run_fault.RunFault.TheVariants.{Read, Plan, Engine, Write}

-- the reader before and after the run: the bytes that remained each time, if they are known, and
-- whether it failed
pub record Reading : Type 0 where
  pub before : Option (List ℕ)
  pub left : Option (List ℕ)
  pub failed : Bool

-- the writer before and after the run: the bytes taken so far each time, if they are known, whether
-- it failed, and whether everything that it took was flushed
pub record Writing : Type 0 where
  pub before : Option (List ℕ)
  pub taken : Option (List ℕ)
  pub failed : Bool
  pub flushed : Bool

-- a run reads at most one byte more than a plan may have
abbrev pub max_read : ℕ
max_read = max_bytes + 1

-- Some bytes are this plan. If the reader's bytes are known, they are these, and none remains.
abbrev pub IsInput : Option (List ℕ) → Option (List ℕ) → PlanRecord → Type 0
IsInput before left plan = (input : List ℕ) × (plan_of input ≡ Ok plan)
    × IfSome before (λ known. (known ≡ input) × (left ≡ Some []))

-- A plan was read, and its report has property P.
abbrev pub WasPlan : Reading → (List ℕ → Type 0) → Type 0
WasPlan r P = (plan : PlanRecord) × IsInput r.before r.left plan × P (report_of plan)

-- Some bytes have this fault. If the reader's bytes are known, they are these, and were read to
-- their end or up to `max_read`.
abbrev pub WasNoPlan : Reading → PlanFault → Type 0
WasNoPlan r fault = (input : List ℕ) × (plan_of input ≡ Err fault)
    × IfSome r.before (λ known. (known ≡ input) × (r.left ≡ Some (drop max_read known)))

-- The table: how a run ends, by its result. `Untouched` means that the writer is unchanged.
abbrev pub Ends : Result (Unit {0}) RunFault → Reading → Writing → Type 0 → Type 0
Ends (Ok done) r w Untouched =
    (r.failed ≡ false) × (w.failed ≡ false)
    × WasPlan r (λ report. Appends w.before w.taken report) × (w.flushed ≡ true)
Ends (Err Read) r w Untouched =
    (r.failed ≡ true) × (w.failed ≡ false) × Untouched
Ends (Err (Plan fault)) r w Untouched =
    (r.failed ≡ false) × (w.failed ≡ false) × Untouched
    × (fault ≢ faults.Memory → WasNoPlan r fault)
Ends (Err (Engine fault)) r w Untouched =
    (r.failed ≡ false) × (w.failed ≡ false) × Untouched × WasPlan r (λ report. Unit {0})
Ends (Err (Write sent)) r w Untouched =
    (r.failed ≡ false) × (w.failed ≡ true)
    × WasPlan r (λ report. (sent ≤ length report) × Appends w.before w.taken (take sent report))
