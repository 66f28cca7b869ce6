-- All jobs of a population, read block by block.
use Rattle.std.proofs.Common.{◌≡◌, ◌≤◌, ◌+◌, ℕ, List, [], ◌∷◌, ◌++◌, length, Bool, Ok}
use Rattle.std.proofs.Common.{Option, None, Some, refl, sym, length-append, arith, String}
use Rattle.std.proofs.Common.{Global}
use Rattle.std.specs.BTreeSet.{BTreeSet}
use Rattle.std.specs.Io.KnownBytes.{IsAtEnd, prepend_known}
use Rattle.std.specs.Prelude.{IfSome}
use Rattle.std.proofs.lemmas.List.{map-append}
use Rattle.zs_drive.specs.Values.{JobRecord}
use Rattle.zs_run.specs.Head.{HeadRecord, head_of}
use Rattle.zs_run.specs.Names.{KnowsNames}
use Rattle.zs_lines.specs.Buffers.{Took}
use Rattle.zs_lines.specs.Lines.{lines_of}
use Rattle.zs_lines.proofs.LineLemmas.{begins-more, took-more, took-nothing}
use Rattle.zs_population.specs.Joining.{WasRead}
use Rattle.zs_population.specs.Population.{all_jobs, block_jobs, jobs_at, max_population}
use Rattle.zs_population.specs.JoinProgress.{PopulationFails}
use Rattle.zs_population.specs.Reads.{BlockFault, BlockReads, HeadFault, HeadReads, names_of}
use Rattle.zs_population.specs.Sums.{HasSums, IsSummed, sums_of}
use Rattle.zs_population.specs.declared.lines.LineReader.{LineReader}
use Rattle.zs_population.specs.declared.lines.Sums.{Sums}
use Rattle.zs_population.specs.declared.fault.PopulationFault.{PopulationFault}
use Rattle.zs_population.specs.declared.fault.PopulationFault.TheVariants.{Read, Line, Engine}
use Rattle.zs_population.specs.declared.fault.PopulationFault.TheVariants.{Write, Report, Missing}
use Rattle.zs_population.specs.declared.fault.PopulationFault.TheVariants.{Words}
use Rattle.zs_population.proofs.JobsLemmas.{jobs-joined, jobs-length, jobs-refused}
use Rattle.zs_population.proofs.RangeLemmas.{is-population, job-refused, plan_with, skipped-nothing}
use Rattle.zs_population.proofs.SumLemmas.{sums-ended}

-- The head and some blocks of jobs were read: this number of jobs, with these names. `start` are
-- the bytes that came next at first, `now` those that come next.
pub record HasRead (start now : Option (List ℕ)) (names : BTreeSet (String Global)) (count : ℕ) :
    Type 0 where
  pub after : Option (List ℕ)
  pub first : List ℕ
  pub head : HeadRecord
  pub lines : List (List ℕ)
  pub jobs : List JobRecord
  pub took : Took start after (first ∷ [])
  pub is : head_of first ≡ Ok head
  pub read : Took after now lines
  pub are : jobs_at 0 [] lines ≡ Ok jobs
  pub known : KnowsNames names (names_of jobs)
  pub many : length jobs ≡ count

-- the head was read
pub head-read : (start now : Option (List ℕ)) (names : BTreeSet (String Global))
    (head : HeadRecord) → HeadReads start now head → KnowsNames names [] → HasRead start now names 0
unfolding jobs_at
head-read start now names head reads known = record {
  after = now;
  first = reads.0;
  head = head;
  lines = [];
  jobs = [];
  took = reads.2;
  is = reads.1;
  read = took-nothing now;
  are = refl;
  known = known;
  many = refl;
}

-- one more block was read
pub block-read : (start mid now : Option (List ℕ)) (names known : BTreeSet (String Global))
    (count total : ℕ) (more : List JobRecord) → HasRead start mid names count
    → BlockReads count mid now names known more → total ≡ count + length more
    → HasRead start now known total
block-read start mid now names known count total more done reads is =
    let block = reads (names_of done.jobs) done.known in
    let place : 0 + length done.jobs ≡ count = omega (arith, done.many) in
    let are : jobs_at (0 + length done.jobs) ([] ++ names_of done.jobs) block.0 ≡ Ok more =
    rw place block.2 in
    record {
      after = done.after;
      first = done.first;
      head = done.head;
      lines = done.lines ++ block.0;
      jobs = done.jobs ++ more;
      took = done.took;
      is = done.is;
      read = took-more done.after mid now done.lines block.0 done.read block.1;
      are = jobs-joined 0 [] done.lines block.0 done.jobs more done.are are;
      known = rw (map-append (λ (job : JobRecord). job.name) done.jobs more) block.3;
      many = omega (arith, length-append done.jobs more, done.many, is);
    }

-- the sums of a population that was read to its end
has-sums : (start now : Option (List ℕ)) (reader : LineReader) (sums : Sums)
    → IfSome start (λ known. IsSummed (lines_of known) reader now) → IsAtEnd now
    → ((all : List (List ℕ)) → IsSummed all reader (Some []) → sums ≡ sums_of all)
    → HasSums start sums
has-sums None now reader sums is end tells = tt
has-sums (Some known) now reader sums is end tells =
    tells (lines_of known) (sums-ended (lines_of known) reader now is end)

-- the population was read to its end
pub all-read : (start left : Option (List ℕ)) (buffer : List ℕ) (failed : Bool)
    (names : BTreeSet (String Global)) (count : ℕ) (reader : LineReader) (found : Sums)
    → HasRead start (prepend_known buffer left) names count → count ≤ max_population
    → IsAtEnd (prepend_known buffer left)
    → IfSome start (λ known. IsSummed (lines_of known) reader (prepend_known buffer left))
    → ((all : List (List ℕ)) → IsSummed all reader (Some []) → found ≡ sums_of all)
    → WasRead (record { before = start; left = left; failed = failed })
    (λ plan sums. (count ≡ length plan.jobs) × (found ≡ sums))
all-read start left buffer failed names count reader found done few end summed tells = (
  plan_with all_jobs start done.after done.after done.first done.head done.took
      (skipped-nothing done.after) done.is done.jobs,
  found,
  is-population all_jobs start done.after done.after done.first done.head done.took
      (skipped-nothing done.after) done.is left buffer failed done.lines done.jobs
      done.read done.are
      (omega (arith, done.many, few)) (λ less. end),
  has-sums start (prepend_known buffer left) reader found summed end tells,
  (sym done.many, refl),
)

-- the head can't be read
pub head-fails : (start : Option (List ℕ)) (fault : PopulationFault) → HeadFault start fault →
    PopulationFails start fault
head-fails start Read stopped = tt
head-fails start (Line line fault) stopped = λ other. stopped.1 other all_jobs
head-fails start (Engine fault) stopped = absurd stopped
head-fails start (Write sent) stopped = absurd stopped
head-fails start (Report number fault) stopped = absurd stopped
head-fails start (Missing next) stopped = absurd stopped
head-fails start (Words fault) stopped = absurd stopped

-- the next block can't be read
pub block-fails : (start mid : Option (List ℕ)) (names : BTreeSet (String Global)) (count : ℕ)
    (fault : PopulationFault) → HasRead start mid names count → count ≤ max_population
    → BlockFault count block_jobs mid names fault → PopulationFails start fault
block-fails start mid names count Read done few stopped = tt
block-fails start mid names count (Line line fault) done few stopped = λ other.
    let refused = stopped.3 other (names_of done.jobs) done.known in
    let place : 0 + length done.jobs ≡ count = omega (arith, done.many) in
    let many : length done.lines ≡ length done.jobs =
    jobs-length 0 [] done.lines done.jobs done.are in
    job-refused all_jobs start done.after done.after done.first done.head done.took
    (skipped-nothing done.after) done.is (done.lines ++ refused.0)
    (record { line = line; fault = fault })
    (begins-more done.after mid done.lines refused.0 done.read refused.2)
    (omega (arith, length-append done.lines refused.0, refused.1, many, done.many, stopped.2, few))
    (jobs-refused 0 [] done.lines refused.0 done.jobs (record { line = line; fault = fault })
    done.are (rw place refused.3))
block-fails start mid names count (Engine fault) done few stopped = absurd stopped
block-fails start mid names count (Write sent) done few stopped = absurd stopped
block-fails start mid names count (Report number fault) done few stopped = absurd stopped
block-fails start mid names count (Missing next) done few stopped = absurd stopped
block-fails start mid names count (Words fault) done few stopped = absurd stopped
