-- One block after another, and how the run of a population ends.
use Rattle.std.proofs.Common.{◌≡◌, ◌≤◌, ◌+◌, ◌*◌, ℕ, List, [], ◌++◌, length, take, Ok, Option, None}
use Rattle.std.proofs.Common.{Some, refl, sym, ap, ◌∙◌, append_assoc, append-nil, length-append}
use Rattle.std.proofs.Common.{arith, codes, subst}
use Rattle.std.specs.Fmt.{decimal}
use Rattle.std.specs.BTreeSet.{BTreeSet}
use Rattle.std.specs.Io.KnownBytes.{Appends}
use Rattle.std.proofs.Common.{String, Global}
use Rattle.std.proofs.KnownBytes.{Appends-trans}
use Rattle.std.proofs.lemmas.List.{map-append, take-append-le}
use Rattle.std.proofs.Math.Seq.{take-append-add}
use Rattle.zs_agenda.specs.Ticks.{Ticks}
use Rattle.zs_drive.specs.Values.{JobRecord}
use Rattle.zs_run.specs.Names.{KnowsNames}
use Rattle.zs_run.specs.Plan.{PlanRecord}
use Rattle.zs_run.specs.PlanReport.{jobs_text, polls_of, report_of, with_total}
use Rattle.zs_run.proofs.Parts.{text_of_two, polls_of_two}
use Rattle.zs_population.specs.Blocks.{IsDone}
use Rattle.zs_lines.specs.Buffers.{Took}
use Rattle.zs_population.specs.Population.{block_jobs, jobs_at}
use Rattle.zs_population.specs.Reads.{BlockReads, names_of}
use Rattle.zs_population.specs.Tails.{HasDigested}
use Rattle.zs_population.specs.declared.digest.ReportDigest.{ReportDigest}
use Rattle.zs_lines.proofs.LineLemmas.{begins, took-more, took-nothing}
use Rattle.zs_population.proofs.JobsLemmas.{jobs-joined}

-- nothing is appended
pub appends-nothing : (known : Option (List ℕ)) → Appends known known []
appends-nothing None = tt
appends-nothing (Some xs) = sym (append-nil xs)

-- adding the total to two texts adds it to the second one
pub with_total-append : (xs ys : List ℕ) (polls : ℕ) →
    with_total (xs ++ ys) polls ≡ xs ++ with_total ys polls
with_total-append xs ys polls =
    ap (λ (text : List ℕ). text ++ decimal polls ++ codes "\n")
    (append_assoc xs ys (codes "polls "))
    ∙ ap (λ (text : List ℕ). text ++ codes "\n")
    (append_assoc xs (ys ++ codes "polls ") (decimal polls))
    ∙ append_assoc xs (ys ++ codes "polls " ++ decimal polls) (codes "\n")

-- The jobs of one more block, after those of the blocks so far.
pub record Joined (first : ℕ) (ahead ahead_now : Option (List ℕ)) (names : BTreeSet (String Global))
    (old more : List JobRecord) : Type 0 where
  pub lines : List (List ℕ)
  pub read : Took ahead ahead_now lines
  pub are : jobs_at first [] lines ≡ Ok (old ++ more)
  pub known : KnowsNames names (names_of (old ++ more))

-- no block yet
pub done-nothing : (clock : Ticks) (first : ℕ) (ahead : Option (List ℕ))
    (names : BTreeSet (String Global)) (before : Option (List ℕ)) (digest : ReportDigest)
    → KnowsNames names []
    → HasDigested digest [] → IsDone clock first ahead ahead names 0 0 0 before before digest
unfolding jobs_at
done-nothing clock first ahead names before digest known empty = record {
  lines = [];
  jobs = [];
  read = took-nothing ahead;
  are = refl;
  known = known;
  many = omega arith;
  counted = refl;
  written = appends-nothing before;
  told = refl;
  digested = empty;
}

-- the total of all jobs so far
pub total-of : (clock : Ticks) (old more : List JobRecord) (polls count : ℕ)
    → polls ≡ polls_of clock old → count ≡ polls + polls_of clock more
    → count ≡ polls_of clock (old ++ more)
total-of clock old more polls count before is =
    is ∙ ap (λ n. n + polls_of clock more) before ∙ sym (polls_of_two clock old more)

-- the lines of some jobs are a beginning of these lines with a total, and what follows it
pub total-follows : (lines : List ℕ) (polls : ℕ) (tail : List ℕ) →
    lines ++ (with_total [] polls ++ tail) ≡ with_total lines polls ++ tail
total-follows lines polls tail =
    sym (append_assoc lines (with_total [] polls) tail)
    ∙ ap (λ (bs : List ℕ). bs ++ tail) (sym (with_total-append lines [] polls)
    ∙ ap (λ (bs : List ℕ). with_total bs polls) (append-nil lines))

module _ {clock : Ticks} {first : ℕ} {ahead mid : Option (List ℕ)}
    {names : BTreeSet (String Global)}
    {blocks polls sent : ℕ} {before taken : Option (List ℕ)} {digest : ReportDigest}
    (done : IsDone clock first ahead mid names blocks polls sent before taken digest) where
  -- the jobs of a block join those of the blocks before
  pub joined : {now : Option (List ℕ)} {known : BTreeSet (String Global)} (more : List JobRecord)
      → BlockReads (first + blocks * block_jobs) mid now names known more
      → Joined first ahead now known done.jobs more
  joined more reads =
      let block = reads (names_of done.jobs) done.known in
      let place : first + length done.jobs ≡ first + blocks * block_jobs =
      omega (arith, done.many) in
      let are : jobs_at (first + length done.jobs) ([] ++ names_of done.jobs) block.0 ≡ Ok more =
      rw place block.2 in
      record {
        lines = done.lines ++ block.0;
        read = took-more ahead mid _ done.lines block.0 done.read block.1;
        are = jobs-joined first [] done.lines block.0 done.jobs more done.are are;
        known = rw (map-append (λ (job : JobRecord). job.name) done.jobs more) block.3;
      }

  -- one more whole block
  pub more-done : {now : Option (List ℕ)} {known : BTreeSet (String Global)} (more : List JobRecord)
      (written : Option (List ℕ)) (count told : ℕ) (hasher : ReportDigest)
      → BlockReads (first + blocks * block_jobs) mid now names known more → length more ≡ block_jobs
      → count ≡ polls + polls_of clock more → told ≡ sent + length (jobs_text clock more)
      → Appends taken written (jobs_text clock more)
      → ((m : List ℕ) → HasDigested digest m → HasDigested hasher (m ++ jobs_text clock more))
      → IsDone clock first ahead now known (blocks + 1) count told before written hasher
  more-done more written count told hasher reads many counts tells writes takes =
      let all = joined more reads in
      record {
        lines = all.lines;
        jobs = done.jobs ++ more;
        read = all.read;
        are = all.are;
        known = all.known;
        many = omega (arith, length-append done.jobs more, done.many, many);
        counted = counts ∙ ap (λ n. n + polls_of clock more) done.counted
            ∙ sym (polls_of_two clock done.jobs more);
        written = rw (text_of_two clock done.jobs more)
            (Appends-trans before taken written _ _ done.written writes);
        told = tells ∙ ap (λ n. n + length (jobs_text clock more)) done.told
            ∙ sym (length-append (jobs_text clock done.jobs) (jobs_text clock more))
            ∙ ap (λ (text : List ℕ). length text) (sym (text_of_two clock done.jobs more));
        digested = rw (text_of_two clock done.jobs more)
            (takes (jobs_text clock done.jobs) done.digested);
      }

  -- the report of all jobs so far
  report-is : (more : List JobRecord) (plan : PlanRecord) → plan.clock ≡ clock
      → plan.jobs ≡ done.jobs ++ more
      → report_of plan ≡ jobs_text clock done.jobs ++ with_total (jobs_text clock more)
      (polls_of clock (done.jobs ++ more))
  report-is more plan clocks jobs =
      ap (λ (c : Ticks). with_total (jobs_text c plan.jobs) (polls_of c plan.jobs)) clocks
      ∙ ap (λ js. with_total (jobs_text clock js) (polls_of clock js)) jobs
      ∙ ap (λ (bs : List ℕ). with_total bs (polls_of clock (done.jobs ++ more)))
      (text_of_two clock done.jobs more)
      ∙ with_total-append (jobs_text clock done.jobs) (jobs_text clock more)
      (polls_of clock (done.jobs ++ more))

  -- the report with what follows it, of which a text is the beginning, after those before
  tail-is : (more : List JobRecord) (plan : PlanRecord) (text rest tail : List ℕ)
      → plan.clock ≡ clock → plan.jobs ≡ done.jobs ++ more
      → text ++ rest ≡ with_total (jobs_text clock more) (polls_of clock (done.jobs ++ more))
      ++ tail → report_of plan ++ tail ≡ jobs_text clock done.jobs ++ (text ++ rest)
  tail-is more plan text rest tail clocks jobs begins =
      ap (λ (bs : List ℕ). bs ++ tail) (report-is more plan clocks jobs)
      ∙ append_assoc (jobs_text clock done.jobs)
      (with_total (jobs_text clock more) (polls_of clock (done.jobs ++ more))) tail
      ∙ ap (λ (bs : List ℕ). jobs_text clock done.jobs ++ bs) (sym begins)

  -- the report was digested
  pub digested-report :
      (more : List JobRecord) (plan : PlanRecord) (text : List ℕ) (hasher : ReportDigest)
      → plan.clock ≡ clock → plan.jobs ≡ done.jobs ++ more
      → text ≡ with_total (jobs_text clock more) (polls_of clock (done.jobs ++ more))
      → ((m : List ℕ) → HasDigested digest m → HasDigested hasher (m ++ text))
      → HasDigested hasher (report_of plan)
  digested-report more plan text hasher clocks jobs is takes =
      let whole : report_of plan ≡ jobs_text clock done.jobs ++ text =
      report-is more plan clocks jobs
      ∙ ap (λ (bs : List ℕ). jobs_text clock done.jobs ++ bs) (sym is) in
      subst (λ (bs : List ℕ). HasDigested hasher bs) (sym whole)
      (takes (jobs_text clock done.jobs) done.digested)

  -- A part of a block's text was written after all of the blocks before it. All text that was
  -- written is a beginning of the report of all jobs so far, and what follows it.
  pub part-written : (more : List JobRecord) (plan : PlanRecord) (written : Option (List ℕ))
      (text rest tail : List ℕ) (count : ℕ)
      → plan.clock ≡ clock → plan.jobs ≡ done.jobs ++ more
      → text ++ rest ≡ with_total (jobs_text clock more) (polls_of clock (done.jobs ++ more))
      ++ tail → count ≤ length text
      → Appends taken written (take count text)
      → (sent + count ≤ length (report_of plan ++ tail))
      × Appends before written (take (sent + count) (report_of plan ++ tail))
  part-written more plan written text rest tail count clocks jobs begins within writes =
      let old : List ℕ = jobs_text clock done.jobs in
      let whole : report_of plan ++ tail ≡ old ++ (text ++ rest) =
      tail-is more plan text rest tail clocks jobs begins in
      let part : take (sent + count) (report_of plan ++ tail) ≡ old ++ take count text =
      ap (λ (bs : List ℕ). take (sent + count) bs) whole
      ∙ ap (λ n. take (n + count) (old ++ (text ++ rest))) done.told
      ∙ take-append-add old (text ++ rest) count ∙ ap (λ (bs : List ℕ). old ++ bs)
      (take-append-le count text rest within) in
      let long : length (report_of plan ++ tail) ≡ length old + (length text + length rest) =
      ap (λ (bs : List ℕ). length bs) whole ∙ length-append old (text ++ rest)
      ∙ ap (λ n. length old + n) (length-append text rest) in (
        omega (arith, long, done.told, within),
        rw part (Appends-trans before taken written _ _ done.written writes),
      )

  -- the last block went out whole, and what follows the report
  pub all-written : (more : List JobRecord) (plan : PlanRecord) (written : Option (List ℕ))
      (text tail : List ℕ)
      → plan.clock ≡ clock → plan.jobs ≡ done.jobs ++ more
      → text ≡ with_total (jobs_text clock more) (polls_of clock (done.jobs ++ more)) ++ tail
      → Appends taken written text → Appends before written (report_of plan ++ tail)
  all-written more plan written text tail clocks jobs is writes =
      let old : List ℕ = jobs_text clock done.jobs in
      let whole : report_of plan ++ tail ≡ old ++ text =
      tail-is more plan text [] tail clocks jobs (append-nil text ∙ is)
      ∙ ap (λ (bs : List ℕ). old ++ bs) (append-nil text) in
      rw whole (Appends-trans before taken written _ _ done.written writes)
