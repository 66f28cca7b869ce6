-- What reading jobs returns: which lines were taken, and which jobs they are.
use Rattle.std.specs.Prelude.{◌≡◌, ◌≢◌, ◌<◌, ℕ, ◌+◌, List, [], ◌∷◌, ◌++◌, length, map, ⊤}
use Rattle.std.specs.Prelude.{Option, Ok, Err}
use Rattle.std.specs.BTreeSet.{BTreeSet}
use Rattle.std.proofs.Common.{String, Global}
use Rattle.zs_drive.specs.Values.{JobRecord}
use Rattle.zs_run.specs.Head.{HeadRecord, head_of}
use Rattle.zs_run.specs.Names.{KnowsNames}
use Rattle.zs_run.specs.declared.plan_fault.PlanFault.{PlanFault}
use Rattle.zs_run.specs.declared.plan_fault.PlanFault.TheVariants as faults
use Rattle.zs_lines.specs.Buffers.{BeginsWith, Took}
use Rattle.zs_population.specs.Ending.{WasRefused}
use Rattle.zs_population.specs.Population.{RejectedLine, job_at, jobs_at}
use Rattle.zs_lines.specs.declared.buffer.LineFault.{LineFault}
use Rattle.zs_lines.specs.declared.buffer.LineFault.TheVariants as unread
use Rattle.zs_population.specs.declared.range.JobRange.{JobRange}
use Rattle.zs_population.specs.declared.fault.PopulationFault.{PopulationFault}
use Rattle.zs_population.specs.declared.fault.PopulationFault.TheVariants.{Read, Line, Engine}
use Rattle.zs_population.specs.declared.fault.PopulationFault.TheVariants.{Write, Report}
use Rattle.zs_population.specs.declared.fault.PopulationFault.TheVariants.{Missing, Words}

-- the names of jobs
abbrev pub names_of : List JobRecord → List (List ℕ)
names_of jobs = map (λ job. job.name) jobs

-- the fault of a line that can't be read
abbrev pub line_fault_of : ℕ → LineFault → PopulationFault
line_fault_of line unread.Read = Read
line_fault_of line unread.TooLong = Line line faults.TooLong
line_fault_of line unread.Memory = Line line faults.Memory

-- A line was taken that is this head.
abbrev pub HeadReads : Option (List ℕ) → Option (List ℕ) → HeadRecord → Type 0
HeadReads old new head = (first : List ℕ) × (head_of first ≡ Ok head) × Took old new (first ∷ [])

-- The line is a job with this number. It was added to the jobs before, and its name to the set.
abbrev pub AddsJob : ℕ → BTreeSet (String Global) → BTreeSet (String Global) → List ℕ
    → List JobRecord → List JobRecord → Type 0
AddsJob number known now line before after = (earlier : List (List ℕ)) → KnowsNames known earlier
    → (job : JobRecord) × (job_at number earlier line ≡ Ok job) × (after ≡ before ++ job ∷ [])
    × KnowsNames now (earlier ++ job.name ∷ [])

-- The line is no job with this number, unless memory ran out.
abbrev pub IsNoJob : ℕ → BTreeSet (String Global) → List ℕ → PlanFault → Type 0
IsNoJob number known line fault =
    fault ≢ faults.Memory → (earlier : List (List ℕ)) → KnowsNames known earlier
    → job_at number earlier line ≡ Err (record { line = number + 2; fault = fault })

-- Lines were taken that are these jobs, from this number on. Their names were added to the set.
abbrev pub BlockReads : ℕ → Option (List ℕ) → Option (List ℕ) → BTreeSet (String Global)
    → BTreeSet (String Global) → List JobRecord → Type 0
BlockReads first old new known now jobs = (earlier : List (List ℕ)) → KnowsNames known earlier
    → (lines : List (List ℕ)) × Took old new lines × (jobs_at first earlier lines ≡ Ok jobs)
    × KnowsNames now (earlier ++ names_of jobs)

-- The last of the next `count` lines is rejected, and the lines before it are jobs.
abbrev pub BlockRefused : ℕ → ℕ → Option (List ℕ) → BTreeSet (String Global) → RejectedLine → Type 0
BlockRefused first count old known refusal = (earlier : List (List ℕ)) → KnowsNames known earlier
    → (lines : List (List ℕ)) × (length lines ≡ count) × BeginsWith old lines
    × (jobs_at first earlier lines ≡ Err refusal)

-- why a block can't be read
abbrev pub BlockFault : ℕ → ℕ → Option (List ℕ) → BTreeSet (String Global) → PopulationFault
    → Type 0
BlockFault first size old known Read = ⊤
BlockFault first size old known (Line line fault) =
    (k : ℕ) × (line ≡ first + k + 2) × (k < size) × (fault ≢ faults.Memory
    → BlockRefused first (k + 1) old known (record { line = line; fault = fault }))
BlockFault first size old known (Engine fault) = ⊥
BlockFault first size old known (Write sent) = ⊥
BlockFault first size old known (Report number fault) = ⊥
BlockFault first size old known (Missing next) = ⊥
BlockFault first size old known (Words fault) = ⊥

-- why the head can't be read
abbrev pub HeadFault : Option (List ℕ) → PopulationFault → Type 0
HeadFault old Read = ⊤
HeadFault old (Line line fault) =
    (line ≡ 1) × (fault ≢ faults.Memory
    → (range : JobRange) → WasRefused range old (record { line = line; fault = fault }))
HeadFault old (Engine fault) = ⊥
HeadFault old (Write sent) = ⊥
HeadFault old (Report number fault) = ⊥
HeadFault old (Missing next) = ⊥
HeadFault old (Words fault) = ⊥

-- why lines can't be skipped
abbrev pub SkipFault : ℕ → PopulationFault → Type 0
SkipFault count Read = ⊤
SkipFault count (Line line fault) = (line < count + 2) × (fault ≡ faults.Memory)
SkipFault count (Engine fault) = ⊥
SkipFault count (Write sent) = ⊥
SkipFault count (Report number fault) = ⊥
SkipFault count (Missing next) = ⊥
SkipFault count (Words fault) = ⊥
