-- How the report of a population is joined from those of its ranges.
use Rattle.std.specs.Prelude.{◌≡◌, ◌≢◌, ◌⊎◌, ◌≤◌, ◌<◌, ◌^◌, ℕ, ◌+◌, List, [], ◌∷◌, ◌++◌, length}
use Rattle.std.specs.Prelude.{take, drop, true, false, Option, Some, None, Result, Ok, Err, IfSome}
use Rattle.std.specs.Prelude.{String, map, string_bytes, ⊤}
use Rattle.std.specs.Global.{Global}
use Rattle.std.specs.Io.KnownBytes.{Appends}
use Rattle.zs_run.specs.Headline.{Reading, Writing}
use Rattle.zs_run.specs.Plan.{PlanRecord}
use Rattle.zs_run.specs.PlanReport.{polls_of, report_of, with_total}
use Rattle.zs_run.specs.declared.plan_fault.PlanFault.TheVariants as faults
use Rattle.zs_population.specs.Ending.{IsPopulation, IsWhole, WasRefused}
use Rattle.zs_population.specs.Population.{all_jobs, max_population, population_of}
use Rattle.zs_population.specs.Sums.{HasSums, sums_of}
use Rattle.zs_population.specs.Trailer.{origin_text, trailer_of}
use Rattle.zs_population.specs.declared.lines.Sums.{Sums}
use Rattle.zs_population.specs.declared.range.JobRange.{JobRange}
use Rattle.zs_population.specs.declared.fault.ReportFault.{ReportFault}
use Rattle.zs_population.specs.declared.fault.ReportFault.TheVariants as reports
use Rattle.zs_population.specs.declared.fault.PopulationFault.{PopulationFault}
use Rattle.zs_population.specs.declared.fault.PopulationFault.TheVariants.{Read, Line, Engine}
use Rattle.zs_population.specs.declared.fault.PopulationFault.TheVariants.{Write, Report, Missing}
use Rattle.zs_population.specs.declared.fault.PopulationFault.TheVariants.{Words}

-- a range of jobs, the lines of their report, and the number of their polls
pub record PartRecord : Type 0 where
  pub range : JobRange
  pub lines : List ℕ
  pub polls : ℕ

-- the report of a part
abbrev pub report_of_part : PartRecord → List ℕ
report_of_part part = with_total part.lines part.polls

-- A text is empty or ends with a newline.
abbrev pub EndsLine : List ℕ → Type 0
EndsLine text = (text ≡ []) ⊎ ((front : List ℕ) × (text ≡ front ++ 10 ∷ []))

-- Some bytes are the report of this part of the population with these sums, and its trailer.
abbrev pub IsPart : Sums → List ℕ → PartRecord → Type 0
IsPart sums bytes part = (part.range.is_part ≡ true)
    × (part.range.first + part.range.count ≤ max_population) × (part.polls < 2 ^ 128)
    × EndsLine part.lines
    × (bytes ≡ report_of_part part ++ trailer_of part.range sums (report_of_part part))

-- Reports are those of ranges that follow each other from job `first` up to job `end`: their lines,
-- and the number of their polls. A report whose bytes aren't known may be any.
abbrev pub AreParts : Sums → ℕ → List (Option (List ℕ)) → ℕ → List ℕ → ℕ → Type 0
AreParts sums first [] end lines polls = (end ≡ first) × (lines ≡ []) × (polls ≡ 0)
AreParts sums first (bytes ∷ reports) end lines polls =
    (part : PartRecord) × (more : List ℕ) × (count : ℕ)
    × IfSome bytes (λ known. IsPart sums known part) × (part.range.first ≡ first)
    × AreParts sums (first + part.range.count) reports end more count
    × (lines ≡ part.lines ++ more) × (polls ≡ part.polls + count)

-- The first n reports are those of parts, and their lines were written.
abbrev pub WroteParts : List (Option (List ℕ)) → Sums → ℕ → ℕ → ℕ → Writing → Type 0 → Type 0
WroteParts reports sums n end polls w Untouched = (lines : List ℕ) × (n ≤ length reports)
    × AreParts sums 0 (take n reports) end lines polls × Appends w.before w.taken lines
    × IsWhole n w.flushed Untouched

-- Some bytes are no report of a part with these sums, or have more polls than can be counted.
abbrev pub IsNoPart : Sums → ℕ → List ℕ → Type 0
IsNoPart sums polls bytes =
    (part : PartRecord) → IsPart sums bytes part → 2 ^ 128 ≤ polls + part.polls

-- A file can't be read.
abbrev pub IsUnread : ReportFault → Type 0
IsUnread fault = (fault ≡ reports.Read) ⊎ (fault ≡ reports.Memory)

-- A report names these jobs and a population with these sums.
abbrev pub Names : Sums → List ℕ → JobRange → Type 0
Names sums bytes range = (body : List ℕ) × (rest : List ℕ)
    × (bytes ≡ body ++ origin_text range sums ++ rest)

-- why a report doesn't continue those of the jobs up to `next`, with this number of polls
abbrev pub ReportFails : Sums → ℕ → ℕ → Option (List ℕ) → ReportFault → Type 0
ReportFails sums next polls None fault = ⊤
ReportFails sums next polls (Some bytes) reports.Read = ⊤
ReportFails sums next polls (Some bytes) reports.Memory = ⊤
ReportFails sums next polls (Some bytes) reports.Incomplete = IsNoPart sums polls bytes
ReportFails sums next polls (Some bytes) reports.Population = IsNoPart sums polls bytes
ReportFails sums next polls (Some bytes) (reports.Order first expected) = (expected ≡ next)
    × (first ≢ next) × ((range : JobRange) × (range.first ≡ first) × Names sums bytes range)
ReportFails sums next polls (Some bytes) reports.Changed = IsNoPart sums polls bytes
    × ((range : JobRange) × (range.first ≡ next) × Names sums bytes range)

-- The report with this number, from 1, is the first one that can't be joined.
abbrev pub WasUnfit : List (Option (List ℕ)) → ℕ → ReportFault → Sums → Writing → Type 0 → Type 0
WasUnfit reports number fault sums w Untouched =
    (n : ℕ) × (next : ℕ) × (polls : ℕ) × (report : Option (List ℕ))
    × (rest : List (Option (List ℕ))) × (number ≡ n + 1) × (drop n reports ≡ report ∷ rest)
    × WroteParts reports sums n next polls w Untouched × ReportFails sums next polls report fault

-- A population was read to its end, and has a property, as have its sums.
abbrev pub WasRead : Reading → (PlanRecord → Sums → Type 0) → Type 0
WasRead r P = (plan : PlanRecord) × (sums : Sums) × IsPopulation all_jobs r plan
    × HasSums r.before sums × P plan sums

-- The table: how joining reports ends, by its result.
abbrev pub JoinEnds : List (Option (List ℕ)) → Result (Unit {0}) PopulationFault → Reading → Writing
    → Type 0 → Type 0
JoinEnds reports (Ok done) r w Untouched = (r.failed ≡ false) × (w.failed ≡ false)
    × WasRead r (λ plan sums. (end : ℕ) × (lines : List ℕ) × (polls : ℕ)
    × AreParts sums 0 reports end lines polls × (length plan.jobs ≤ end)
    × Appends w.before w.taken (with_total lines polls)) × (w.flushed ≡ true)
JoinEnds reports (Err Read) r w Untouched =
    (r.failed ≡ true) × (w.failed ≡ false) × Untouched
JoinEnds reports (Err (Line line fault)) r w Untouched = (r.failed ≡ false) × (w.failed ≡ false)
    × (fault ≢ faults.Memory → WasRefused all_jobs r.before (record { line = line; fault = fault }))
    × Untouched
-- memory ran out for the last line
JoinEnds reports (Err (Engine fault)) r w Untouched = (r.failed ≡ false) × (w.failed ≡ false)
    × WasRead r (λ plan sums. (end : ℕ) × (polls : ℕ)
    × WroteParts reports sums (length reports) end polls w Untouched)
-- the first `sent` bytes of the lines of some first reports, with their total, were written
JoinEnds reports (Err (Write sent)) r w Untouched = (r.failed ≡ false) × (w.failed ≡ true)
    × WasRead r (λ plan sums. (n : ℕ) × (end : ℕ) × (lines : List ℕ) × (polls : ℕ)
    × AreParts sums 0 (take n reports) end lines polls × (sent ≤ length (with_total lines polls))
    × Appends w.before w.taken (take sent (with_total lines polls)))
JoinEnds reports (Err (Report number fault)) r w Untouched = (r.failed ≡ false)
    × (w.failed ≡ false) × WasRead r (λ plan sums. WasUnfit reports number fault sums w Untouched)
JoinEnds reports (Err (Missing next)) r w Untouched = (r.failed ≡ false) × (w.failed ≡ false)
    × WasRead r (λ plan sums. (polls : ℕ) × (next < length plan.jobs)
    × WroteParts reports sums (length reports) next polls w Untouched)
JoinEnds reports (Err (Words fault)) r w Untouched = ⊥

-- How joining the reports at these paths ends.
abbrev pub PathsEnd : Result (Unit {0}) PopulationFault → (List ℕ → Option (List ℕ))
    → List (String Global) → Reading → Writing → Type 0 → Type 0
PathsEnd result contents paths = JoinEnds (map contents (map string_bytes paths)) result

-- Some bytes are what a run of a range of these lines writes.
abbrev pub IsRangeReport : List (List ℕ) → Option (List ℕ) → Type 0
IsRangeReport lines None = ⊥
IsRangeReport lines (Some bytes) = (range : JobRange) × (plan : PlanRecord)
    × (range.is_part ≡ true) × (range.first + range.count ≤ max_population)
    × (polls_of plan.clock plan.jobs < 2 ^ 128) × (population_of range lines ≡ Ok plan)
    × (bytes ≡ report_of plan ++ trailer_of range (sums_of lines) (report_of plan))

-- Each report is what a run of a range of these lines writes.
abbrev pub AreRangeReports : List (List ℕ) → List (Option (List ℕ)) → Type 0
AreRangeReports lines [] = ⊤
AreRangeReports lines (bytes ∷ reports) = IsRangeReport lines bytes × AreRangeReports lines reports

-- The reports of ranges that follow each other from job 0 to the last job, joined, are the report
-- of all jobs.
abbrev pub RangesJoin : Type 0
RangesJoin = (lines : List (List ℕ)) (plan : PlanRecord) (reports : List (Option (List ℕ)))
    (end : ℕ) (text : List ℕ) (polls : ℕ) → population_of all_jobs lines ≡ Ok plan
    → AreRangeReports lines reports → AreParts (sums_of lines) 0 reports end text polls
    → length plan.jobs ≤ end → with_total text polls ≡ report_of plan
