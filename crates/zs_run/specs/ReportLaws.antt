-- What readers of reports may rely on. `src/laws.rt` states it, and `proofs/Parts.antt`,
-- `proofs/EndsTold.antt` and `proofs/ReportsApart.antt` prove it.
use Rattle.std.specs.Prelude.{◌≡◌, ◌+◌, ◌++◌, ℕ, List, None, sum_by}
use Rattle.std.specs.List.{All, Any, flat_map}
use Rattle.zs_agenda.specs.Ticks.{IsClock, Ticks}
use Rattle.zs_effect.specs.Scripts.{IsScript}
use Rattle.zs_drive.specs.Values.{JobRecord}
use Rattle.zs_engine.specs.Times.{ticks_of}
use Rattle.zs_run.specs.Plan.{PlanRecord}
use Rattle.zs_run.specs.PlanReport.{job_report, jobs_text, polls_of, report_of, with_total}
use Rattle.zs_run.specs.Report.{JobReport, report_text}
use Rattle.zs_run.specs.Distinct.{CanBeTold, Fits, HasItsEnd, reported}

-- The report of a plan of two lists of jobs has the lines of both, and the sum of their polls.
abbrev pub TwoPartsJoin : Type 0
TwoPartsJoin = (p : PlanRecord) (xs ys : List JobRecord) → p.jobs ≡ xs ++ ys
    → report_of p ≡ with_total (jobs_text p.clock xs ++ jobs_text p.clock ys)
    (polls_of p.clock xs + polls_of p.clock ys)

-- The same for any number of lists.
abbrev pub AllPartsJoin : Type 0
AllPartsJoin = (p : PlanRecord) (parts : List (List JobRecord))
    → p.jobs ≡ flat_map (λ part. part) parts
    → report_of p
    ≡ with_total (flat_map (jobs_text p.clock) parts) (sum_by (polls_of p.clock) parts)

-- The report of a job shows an end that exists.
abbrev pub EndsAreThere : Type 0
EndsAreThere = (clock : Ticks) (job : JobRecord) → IsClock clock → IsScript job.script
    → HasItsEnd (job_report (ticks_of clock) job).attempts (job_report (ticks_of clock) job).ending

-- Equal reports are those of equal jobs.
abbrev pub SameJobs : Type 0
SameJobs = (h k : ℕ) (xs ys : List JobReport) (p q : ℕ)
    → Fits h → Fits k → All CanBeTold xs → All CanBeTold ys
    → report_text h xs p ≡ report_text k ys q → xs ≡ ys

-- Their totals are the same.
abbrev pub SameTotals : Type 0
SameTotals = (h k : ℕ) (xs ys : List JobReport) (p q : ℕ)
    → Fits h → Fits k → All CanBeTold xs → All CanBeTold ys
    → Fits p → Fits q → report_text h xs p ≡ report_text k ys q → p ≡ q

-- If a job is unfinished, their horizons are the same.
abbrev pub SameHorizons : Type 0
SameHorizons = (h k : ℕ) (xs ys : List JobReport) (p q : ℕ)
    → Fits h → Fits k → All CanBeTold xs → All CanBeTold ys
    → Any (λ (job : JobReport). job.ending ≡ None) xs
    → report_text h xs p ≡ report_text k ys q → h ≡ k

-- Plans with the same report have the same reports of jobs.
abbrev pub SamePlans : Type 0
SamePlans = (p q : PlanRecord) → IsClock p.clock → IsClock q.clock
    → All CanBeTold (reported p) → All CanBeTold (reported q)
    → report_of p ≡ report_of q → reported p ≡ reported q
