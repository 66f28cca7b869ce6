-- How the run of a population ends: for success and each fault, what was read, what was written,
-- and which of the two failed.
use Rattle.std.specs.Prelude.{◌≡◌, ◌≢◌, ◌≤◌, ◌<◌, ℕ, zero, suc, ◌+◌, ◌*◌, ◌-◌, ◌/◌, List, []}
use Rattle.std.specs.Prelude.{◌∷◌, ◌++◌, length, Bool, take, true, false, Option, Some, Result, Ok}
use Rattle.std.specs.Prelude.{Err, IfSome}
use Rattle.std.specs.Io.KnownBytes.{Appends, prepend_known}
use Rattle.zs_run.specs.Head.{head_of}
use Rattle.zs_run.specs.HeadView.{head_record}
use Rattle.zs_run.specs.Headline.{Reading, Writing}
use Rattle.zs_run.specs.Plan.{PlanRecord}
use Rattle.zs_run.specs.PlanReport.{jobs_text, report_of}
use Rattle.zs_run.specs.declared.plan_fault.PlanFault.TheVariants as faults
use Rattle.zs_lines.specs.Buffers.{Took}
use Rattle.zs_lines.specs.Lines.{lines_of}
use Rattle.zs_population.specs.Population.{RejectedLine, block_jobs, population_of}
use Rattle.zs_population.specs.Skipped.{Skipped}
use Rattle.zs_population.specs.Sums.{IsSummed}
use Rattle.zs_population.specs.Trailer.{FollowsReport}
use Rattle.zs_population.specs.declared.lines.LineReader.{LineReader}
use Rattle.zs_population.specs.declared.range.JobRange.{JobRange}
use Rattle.zs_population.specs.declared.running.RangePlan.{RangePlan}
use Rattle.zs_population.specs.declared.fault.PopulationFault.{PopulationFault}
use Rattle.zs_population.specs.declared.fault.PopulationFault.TheVariants.{Read, Line, Engine}
use Rattle.zs_population.specs.declared.fault.PopulationFault.TheVariants.{Write, Report}
use Rattle.zs_population.specs.declared.fault.PopulationFault.TheVariants.{Missing, Words}

-- Some lines have this result. If the reader's bytes are known, they are its lines.
abbrev pub AreLines : Option (List ℕ) → (List (List ℕ) → Type 0) → Type 0
AreLines before HasResult = (lines : List (List ℕ)) × HasResult lines
    × IfSome before (λ known. lines_of known ≡ lines)

-- The lines have this population. If it has fewer jobs than the range, nothing remains to read.
abbrev pub IsPopulation : JobRange → Reading → PlanRecord → Type 0
IsPopulation range r plan = AreLines r.before (λ lines. population_of range lines ≡ Ok plan)
    × (length plan.jobs < range.count → IfSome r.before (λ known. r.left ≡ Some []))

-- Of the lines this one is the first that is rejected.
abbrev pub WasRefused : JobRange → Option (List ℕ) → RejectedLine → Type 0
WasRefused range before refusal =
    AreLines before (λ lines. population_of range lines ≡ Err refusal)

-- n jobs from the first one of a range on
abbrev pub first_of : JobRange → ℕ → JobRange
first_of range n = record { first = range.first; count = n; is_part = range.is_part }

-- The lines have this population of the first jobs of the range.
abbrev pub Begins : JobRange → Option (List ℕ) → PlanRecord → Type 0
Begins range before plan = let count = length plan.jobs in (count ≤ range.count)
    × AreLines before (λ lines. population_of (first_of range count) lines ≡ Ok plan)

-- The reports of the jobs of n whole blocks were written and flushed, and nothing else.
-- `Untouched` says that the writer is unchanged.
abbrev pub WroteBlocks : JobRange → Reading → Writing → Type 0 → ℕ → Type 0
WroteBlocks range r w Untouched zero = Untouched
WroteBlocks range r w Untouched (suc n) =
    (plan : PlanRecord) × Begins range r.before plan × (length plan.jobs ≡ suc n * block_jobs)
    × Appends w.before w.taken (jobs_text plan.clock plan.jobs) × (w.flushed ≡ true)

-- what is seen of the writer: it is unchanged before the first block, and flushed after each
-- block
abbrev pub IsWhole : ℕ → Bool → Type 0 → Type 0
IsWhole zero flushed Untouched = Untouched
IsWhole (suc n) flushed Untouched = flushed ≡ true

-- Writing failed. A part of a text was written, after n bytes of others.
abbrev pub SentPart : ℕ → List ℕ → Option (List ℕ) → Option (List ℕ) → PopulationFault → Type 0
SentPart n text old new fault = (sent : ℕ) × (fault ≡ Write (n + sent))
    × (sent ≤ length text) × Appends old new (take sent text)

-- The table: how a run ends, by its result.
abbrev pub Ends : JobRange → Result (Unit {0}) PopulationFault → Reading → Writing → Type 0 → Type 0
Ends range (Ok done) r w Untouched = (r.failed ≡ false) × (w.failed ≡ false)
    × ((plan : PlanRecord) × (more : List ℕ) × IsPopulation range r plan
    × FollowsReport range.is_part range r.before (report_of plan) more
    × Appends w.before w.taken (report_of plan ++ more)) × (w.flushed ≡ true)
Ends range (Err Read) r w Untouched = (r.failed ≡ true) × (w.failed ≡ false)
    × ((n : ℕ) × WroteBlocks range r w Untouched n)
-- the blocks before that of the rejected line were written
Ends range (Err (Line line fault)) r w Untouched = (r.failed ≡ false) × (w.failed ≡ false)
    × (fault ≢ faults.Memory → WasRefused range r.before (record { line = line; fault = fault }))
    × WroteBlocks range r w Untouched ((line - (range.first + 2)) / block_jobs)
Ends range (Err (Engine fault)) r w Untouched = (r.failed ≡ false) × (w.failed ≡ false)
    × ((n : ℕ) × WroteBlocks range r w Untouched n)
-- the first `sent` bytes of the report of the jobs that were read so far were written
Ends range (Err (Write sent)) r w Untouched = (r.failed ≡ false) × (w.failed ≡ true)
    × ((plan : PlanRecord) × (more : List ℕ) × Begins range r.before plan
    × FollowsReport range.is_part range r.before (report_of plan) more
    × (sent ≤ length (report_of plan ++ more))
    × Appends w.before w.taken (take sent (report_of plan ++ more)))
Ends range (Err (Report number fault)) r w Untouched = ⊥
Ends range (Err (Missing next)) r w Untouched = ⊥
Ends range (Err (Words fault)) r w Untouched = ⊥

-- How the run of the blocks ends after these bytes, of which the first line was taken as the head,
-- and those before the range were skipped. The reader of lines counted and digested them.
abbrev pub BlocksEnd : Result (Unit {0}) PopulationFault → LineReader → RangePlan → Reading
    → Writing → Type 0 → Type 0
BlocksEnd result lines part r w Untouched =
    (before after : Option (List ℕ)) (first : List ℕ) → Took before after (first ∷ [])
    → Skipped part.range.first after (prepend_known lines.buffer r.before)
    → IfSome before (λ known. IsSummed (lines_of known) lines (prepend_known lines.buffer r.before))
    → head_of first ≡ Ok (head_record part.head)
    → Ends part.range result (record { before = before; left = r.left; failed = r.failed }) w
    Untouched
