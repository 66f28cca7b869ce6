-- The population of some lines, or the first line that is rejected. The first line is the
-- document of a plan without jobs, each other line a job. A population is a plan that may have
-- more jobs. It has the jobs of a range; the other lines of jobs aren't looked at.
use Rattle.std.specs.Prelude.{◌≡◌, ◌≤◌, ℕ, ◌+◌, List, [], ◌∷◌, ◌++◌, take, drop, nat_lt, true}
use Rattle.std.specs.Prelude.{false}
use Rattle.std.specs.Prelude.{None, Result, Ok, Err}
use Rattle.zs_term.specs.Saturating.{max_moment}
use Rattle.zs_drive.specs.Values.{JobRecord}
use Rattle.zs_pool.specs.Limits.{max_tasks}
use Rattle.zs_run.specs.declared.plan_fault.PlanFault.{PlanFault}
use Rattle.zs_run.specs.declared.plan_fault.PlanFault.TheVariants as faults
use Rattle.zs_run.specs.Refusals.{demand}
use Rattle.zs_run.specs.Head.{head_of, job_of_bytes}
use Rattle.zs_run.specs.Plan.{PlanRecord}
use Rattle.zs_population.specs.declared.range.JobRange.{JobRange}

-- the most jobs of a population: 10^15
abbrev pub max_population : ℕ
max_population = 1000000000000000

-- the number of jobs that run together and are written together
abbrev pub block_jobs : ℕ
block_jobs = max_tasks

-- a line that is rejected, counted from 1, and its fault
pub record RejectedLine : Type 0 where
  pub line : ℕ
  pub fault : PlanFault

infixl 10 ◌>>=◌
-- what comes next, unless a line is rejected
abbrev pub ◌>>=◌ : {A B : Type 0} → Result A RejectedLine → (A → Result B RejectedLine)
    → Result B RejectedLine
(Ok x) >>= f = f x
(Err e) >>= f = Err e

-- what was found in a line, or the line with its fault
abbrev pub at_line : {A : Type 0} → ℕ → Result A PlanFault → Result A RejectedLine
at_line line (Ok x) = Ok x
at_line line (Err fault) = Err (record { line = line; fault = fault })

-- the job of a line, with this number, after jobs of these names
unfoldable pub job_at : ℕ → List (List ℕ) → List ℕ → Result JobRecord RejectedLine
job_at number names line = do
  job ← at_line (number + 2) (job_of_bytes number names line)
  _ ← at_line (number + 2) (demand (nat_lt number max_population) (faults.Range None))
  Ok job

-- the jobs of lines, from this number on, after jobs of these names
unfoldable pub jobs_at : ℕ → List (List ℕ) → List (List ℕ) → Result (List JobRecord) RejectedLine
jobs_at number names [] = Ok []
jobs_at number names (line ∷ lines) = do
  job ← job_at number names line
  jobs ← jobs_at (number + 1) (names ++ job.name ∷ []) lines
  Ok (job ∷ jobs)

-- all jobs that a population may have
abbrev pub all_jobs : JobRange
all_jobs = record { first = 0; count = max_moment; is_part = false }

-- The first job of a range is one that a population may have, or its end; so is the end of a part.
abbrev pub FitsPopulation : JobRange → Type 0
FitsPopulation range = (range.first ≤ max_population)
    × (range.is_part ≡ true → range.first + range.count ≤ max_population)

-- the lines of the jobs of a range, of all lines of jobs
abbrev pub lines_in : JobRange → List (List ℕ) → List (List ℕ)
lines_in range lines = take range.count (drop range.first lines)

-- the population that the jobs of a range are
unfoldable pub population_of : JobRange → List (List ℕ) → Result PlanRecord RejectedLine
population_of range [] = Err (record { line = 1; fault = faults.Json })
population_of range (first ∷ lines) = do
  head ← at_line 1 (head_of first)
  jobs ← jobs_at range.first [] (lines_in range lines)
  Ok (record { clock = head.clock; workers = head.workers; grain = head.grain; jobs = jobs })
