-- The state of a run between two blocks.
use Rattle.std.specs.Prelude.{◌≡◌, ℕ, ◌*◌, List, [], length, Option, Ok}
use Rattle.std.specs.BTreeSet.{BTreeSet}
use Rattle.std.specs.Io.KnownBytes.{Appends}
use Rattle.std.proofs.Common.{String, Global}
use Rattle.zs_agenda.specs.Ticks.{Ticks}
use Rattle.zs_drive.specs.Values.{JobRecord}
use Rattle.zs_run.specs.Names.{KnowsNames}
use Rattle.zs_run.specs.PlanReport.{jobs_text, polls_of}
use Rattle.zs_lines.specs.Buffers.{Took}
use Rattle.zs_population.specs.Population.{block_jobs, jobs_at}
use Rattle.zs_population.specs.Reads.{names_of}
use Rattle.zs_population.specs.Tails.{HasDigested}
use Rattle.zs_population.specs.declared.digest.ReportDigest.{ReportDigest}

-- Some blocks were read, run, written and counted. `ahead` are the bytes that the reader and the
-- buffer had before and have now, `before` and `taken` those of the writer. `first` is the number
-- of the first job, and `digest` has taken in what was written.
pub record IsDone (clock : Ticks) (first : ℕ) (ahead ahead_now : Option (List ℕ))
    (names : BTreeSet (String Global)) (blocks polls sent : ℕ)
    (before taken : Option (List ℕ)) (digest : ReportDigest) : Type 0 where
  pub lines : List (List ℕ)
  pub jobs : List JobRecord
  pub read : Took ahead ahead_now lines
  pub are : jobs_at first [] lines ≡ Ok jobs
  pub known : KnowsNames names (names_of jobs)
  pub many : length jobs ≡ blocks * block_jobs
  pub counted : polls ≡ polls_of clock jobs
  pub written : Appends before taken (jobs_text clock jobs)
  pub told : sent ≡ length (jobs_text clock jobs)
  pub digested : HasDigested digest (jobs_text clock jobs)
