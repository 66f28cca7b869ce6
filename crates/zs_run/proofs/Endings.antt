-- What the table of endings means for each result, as a caller would say it.
use Rattle.std.proofs.Common.{◌≡◌, ◌≢◌, ◌≤◌, ◌↔◌, ℕ, List, [], length, take, drop, Bool, true}
use Rattle.std.proofs.Common.{false, Option, Some, None, Ok, Err, Result, sym, ◌∙◌, ap}
use Rattle.std.specs.Prelude.{IfSome, IsTrue}
use Rattle.std.specs.Io.KnownBytes.{Appends}
use Rattle.zs_run.specs.declared.plan_fault.PlanFault.{PlanFault}
use Rattle.zs_run.specs.declared.plan_fault.PlanFault.TheVariants as faults
use Rattle.zs_run.specs.declared.run_fault.RunFault.{RunFault}
use Rattle.zs_run.specs.declared.run_fault.RunFault.TheVariants.{Read, Plan, Engine, Write}
use Rattle.zs_engine.specs.declared.fault.EngineFault.{EngineFault}
use Rattle.zs_run.specs.Plan.{PlanRecord, plan_of}
use Rattle.zs_run.specs.PlanReport.{report_of}
use Rattle.zs_run.specs.Headline.{Reading, Writing, Ends, WasPlan, WasNoPlan, max_read}

-- The known bytes were a plan and were read to their end, and its report has property P.
abbrev pub IfKnownPlan : Reading → (List ℕ → Type 0) → Type 0
IfKnownPlan r P = IfSome r.before (λ input. (plan : PlanRecord) × (plan_of input ≡ Ok plan)
    × (r.left ≡ Some []) × P (report_of plan))

known_plan : (before left : Option (List ℕ)) (failed : Bool) (P : List ℕ → Type 0)
    → WasPlan (record { before = before; left = left; failed = failed }) P
    → IfKnownPlan (record { before = before; left = left; failed = failed }) P
known_plan None left failed P was = tt
known_plan (Some input) left failed P was =
    (was.0, ap plan_of was.1.2.0 ∙ was.1.1, was.1.2.1, was.2)

-- at success the known bytes were a plan, whose report was written
pub success_writes_the_report : (r : Reading) (w : Writing) (Untouched : Type 0)
    → Ends (Ok tt) r w Untouched
    → IfKnownPlan r (λ report. Appends w.before w.taken report)
success_writes_the_report r w U ends =
    known_plan r.before r.left r.failed (λ report. Appends w.before w.taken report) ends.2

-- and it was flushed
pub success_is_flushed : (r : Reading) (w : Writing) (Untouched : Type 0) →
    Ends (Ok tt) r w Untouched → w.flushed ≡ true
success_is_flushed r w U ends = ends.3

-- whatever is known about the reader, what was written is the report of some plan
pub a_report_is_written : (r : Reading) (w : Writing) (Untouched : Type 0)
    → Ends (Ok tt) r w Untouched
    → (input : List ℕ) × (plan : PlanRecord) × (plan_of input ≡ Ok plan)
    × Appends w.before w.taken (report_of plan)
a_report_is_written r w U ends = (ends.2.1.0, ends.2.0, ends.2.1.1, ends.2.2)

-- a fault of a plan is that of the known bytes, which were read to their end or up to `max_read`
pub a_refused_plan : (fault : PlanFault) (r : Reading) (w : Writing) (Untouched : Type 0)
    → Ends (Err (Plan fault)) r w Untouched
    → fault ≢ faults.Memory
    → IfSome r.before
    (λ input. (plan_of input ≡ Err fault) × (r.left ≡ Some (drop max_read input)))
a_refused_plan fault r w U ends other = refused r.before r.left r.failed (ends.3 other)
  where
    refused : (before left : Option (List ℕ)) (failed : Bool)
        → WasNoPlan (record { before = before; left = left; failed = failed }) fault
        → IfSome before (λ input. (plan_of input ≡ Err fault) × (left ≡ Some (drop max_read input)))
    refused None left failed was = tt
    refused (Some input) left failed was = (ap plan_of was.2.0 ∙ was.1, was.2.1)

-- if the work failed, a plan had been read
pub the_work_had_a_plan : (fault : EngineFault) (r : Reading) (w : Writing) (Untouched : Type 0)
    → Ends (Err (Engine fault)) r w Untouched
    → IfKnownPlan r (λ report. Unit {0})
the_work_had_a_plan fault r w U ends =
    known_plan r.before r.left r.failed (λ report. Unit {0}) ends.3

-- if a write failed, the first bytes of the report were written
pub the_front_is_written : (sent : ℕ) (r : Reading) (w : Writing) (Untouched : Type 0)
    → Ends (Err (Write sent)) r w Untouched
    → IfKnownPlan r (λ report. (sent ≤ length report) × Appends w.before w.taken (take sent report))
the_front_is_written sent r w U ends =
    known_plan r.before r.left r.failed
    (λ report. (sent ≤ length report) × Appends w.before w.taken (take sent report)) ends.2

-- the result is `Read`
abbrev pub IsRead : Result (Unit {0}) RunFault → Type 0
IsRead (Ok done) = ⊥
IsRead (Err Read) = Unit {0}
IsRead (Err (Plan fault)) = ⊥
IsRead (Err (Engine fault)) = ⊥
IsRead (Err (Write sent)) = ⊥

-- the result is `Write`
abbrev pub IsWrite : Result (Unit {0}) RunFault → Type 0
IsWrite (Ok done) = ⊥
IsWrite (Err Read) = ⊥
IsWrite (Err (Plan fault)) = ⊥
IsWrite (Err (Engine fault)) = ⊥
IsWrite (Err (Write sent)) = Unit {0}

-- the result is neither success nor `Write`
abbrev pub IsEarly : Result (Unit {0}) RunFault → Type 0
IsEarly (Ok done) = ⊥
IsEarly (Err Read) = Unit {0}
IsEarly (Err (Plan fault)) = Unit {0}
IsEarly (Err (Engine fault)) = Unit {0}
IsEarly (Err (Write sent)) = ⊥

-- before the report was complete, the writer is unchanged
pub early_leaves_the_writer :
    (ended : Result (Unit {0}) RunFault) (r : Reading) (w : Writing) (Untouched : Type 0)
    → Ends ended r w Untouched → IsEarly ended → Untouched
early_leaves_the_writer (Ok done) r w U ends early = absurd early
early_leaves_the_writer (Err Read) r w U ends early = ends.2
early_leaves_the_writer (Err (Plan fault)) r w U ends early = ends.2
early_leaves_the_writer (Err (Engine fault)) r w U ends early = ends.2
early_leaves_the_writer (Err (Write sent)) r w U ends early = absurd early

no : (mark : Bool) → mark ≡ false → IsTrue mark → ⊥
no mark clear set = let e : false ≡ true = sym clear ∙ set in cc

-- the result is `Read` exactly if the reader failed
pub read_by_the_mark :
    (ended : Result (Unit {0}) RunFault) (r : Reading) (w : Writing) (Untouched : Type 0)
    → Ends ended r w Untouched → IsRead ended ↔ IsTrue r.failed
read_by_the_mark (Ok done) r w U ends = (λ is. absurd is, no r.failed ends.0)
read_by_the_mark (Err Read) r w U ends = (λ is. ends.0, λ set. tt)
read_by_the_mark (Err (Plan fault)) r w U ends = (λ is. absurd is, no r.failed ends.0)
read_by_the_mark (Err (Engine fault)) r w U ends = (λ is. absurd is, no r.failed ends.0)
read_by_the_mark (Err (Write sent)) r w U ends = (λ is. absurd is, no r.failed ends.0)

-- the result is `Write` exactly if the writer failed
pub write_by_the_mark :
    (ended : Result (Unit {0}) RunFault) (r : Reading) (w : Writing) (Untouched : Type 0)
    → Ends ended r w Untouched → IsWrite ended ↔ IsTrue w.failed
write_by_the_mark (Ok done) r w U ends = (λ is. absurd is, no w.failed ends.1)
write_by_the_mark (Err Read) r w U ends = (λ is. absurd is, no w.failed ends.1)
write_by_the_mark (Err (Plan fault)) r w U ends = (λ is. absurd is, no w.failed ends.1)
write_by_the_mark (Err (Engine fault)) r w U ends = (λ is. absurd is, no w.failed ends.1)
write_by_the_mark (Err (Write sent)) r w U ends = (λ is. ends.1, λ set. tt)
