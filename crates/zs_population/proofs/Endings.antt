-- How the run of a population ends after some blocks are done.
use Rattle.std.proofs.Common.{◌≡◌, ◌<◌, ◌≤◌, ◌+◌, ◌*◌, ◌-◌, ◌/◌, ℕ, zero, suc, List, [], ◌∷◌, ◌++◌}
use Rattle.std.proofs.Common.{length, take, Bool, true, false, Ok, Err, Option, None, Some, refl}
use Rattle.std.proofs.Common.{ap, ◌∙◌, append-nil, length-append, arith, inl, inr, String, Global}
use Rattle.std.proofs.lemmas.Bool.{cases_lt}
use Rattle.std.specs.Prelude.{IsErrOf, IsTrue, ◌↔◌}
use Rattle.std.specs.BTreeSet.{BTreeSet}
use Rattle.std.specs.Io.KnownBytes.{Appends, IsAtEnd, prepend_known}
use Rattle.std.proofs.lemmas.Nat.{div-mul-add}
use Rattle.zs_agenda.specs.Ticks.{Ticks}
use Rattle.zs_drive.specs.Values.{JobRecord}
use Rattle.zs_engine.specs.declared.fault.EngineFault.{EngineFault}
use Rattle.zs_run.specs.Head.{HeadRecord, head_of}
use Rattle.zs_run.specs.Plan.{PlanRecord}
use Rattle.zs_run.specs.PlanReport.{jobs_text, polls_of, report_of, with_total}
use Rattle.zs_population.specs.Blocks.{IsDone}
use Rattle.zs_lines.specs.Buffers.{Took}
use Rattle.zs_lines.specs.Lines.{lines_of}
use Rattle.zs_population.specs.Ending.{Begins, Ends, IsWhole, WroteBlocks}
use Rattle.zs_population.specs.Population.{block_jobs, jobs_at}
use Rattle.zs_population.specs.Reads.{BlockFault, BlockReads, HeadFault, SkipFault, names_of}
use Rattle.zs_population.specs.Skipped.{Skipped}
use Rattle.zs_population.specs.Sums.{sums_of}
use Rattle.zs_population.specs.Tails.{EndFault, HasDigested, StaysAtEnd}
use Rattle.zs_population.specs.Trailer.{FollowsReport, trailer_of}
use Rattle.zs_population.specs.declared.digest.ReportDigest.{ReportDigest}
use Rattle.zs_population.specs.declared.range.JobRange.{JobRange}
use Rattle.zs_population.specs.declared.fault.PopulationFault.{PopulationFault}
use Rattle.zs_population.specs.declared.fault.PopulationFault.TheVariants.{Read, Line, Engine}
use Rattle.zs_population.specs.declared.fault.PopulationFault.TheVariants.{Write, Report, Missing}
use Rattle.zs_population.specs.declared.fault.PopulationFault.TheVariants.{Words}
use Rattle.zs_lines.proofs.LineLemmas.{begins-more}
use Rattle.zs_population.proofs.JobsLemmas.{jobs-length, jobs-refused}
use Rattle.zs_population.proofs.RangeLemmas.{has-begun, is-population-read, job-refused, plan_with}
use Rattle.zs_population.proofs.Done.{all-written, digested-report, joined, part-written}
use Rattle.zs_population.proofs.Done.{total-follows}

unset : (mark : Bool) → (IsTrue mark → ⊥) → mark ≡ false
unset true never = absurd (never refl)
unset false never = refl

-- a mark that is set at a failed read alone, by the fault
pub as-fault : {A : Type 0} (mark : Bool) (fault : PopulationFault) →
    IsTrue mark ↔ IsErrOf {T = A} (Err fault) Read → IsTrue mark ↔ (fault ≡ Read)
as-fault mark fault marks =
    (λ set. (let same : Err fault ≡ Err Read = marks.0 set in cc), λ same. marks.1 (ap Err same))

-- the block of a line
block-of : (first blocks k line : ℕ) → line ≡ first + blocks * block_jobs + k + 2 → k < block_jobs →
    (line - (first + 2)) / block_jobs ≡ blocks
block-of first blocks k line is few =
    let number : line - (first + 2) ≡ blocks * block_jobs + k = omega (arith, is) in
    ap (λ n. n / block_jobs) number ∙ div-mul-add blocks block_jobs k few

-- the last block has fewer jobs than it may have, unless the range ends with it
pub ends-early : (before jobs items size count : ℕ) → jobs ≡ items → items ≤ size →
    items < block_jobs → (size < block_jobs → before + size ≡ count) → before + jobs < count →
    items < size
ends-early before jobs items size count many within short last less = elim (cases_lt items size) [
  | inl fewer ↦ fewer
  | inr full ↦ (let whole : before + size ≡ count = last (omega (arith, full, within, short)) in
      absurd (omega (arith, whole, many, full, less)))
]

-- what follows a report of a population, if it is known, or anything
some-tail : (part : Bool) (range : JobRange) (before : Option (List ℕ)) (report : List ℕ) →
    (tail : List ℕ) × FollowsReport part range before report tail
some-tail false range before report = ([], refl)
some-tail true range None report = ([], tt)
some-tail true range (Some known) report =
    (trailer_of range (sums_of (lines_of known)) report, refl)

-- Some bytes were read up to the first job of a range: the head, and the lines before the range.
pub record Begun (range : JobRange) (ahead : Option (List ℕ)) (head : HeadRecord) : Type 0 where
  pub start : Option (List ℕ)
  pub after : Option (List ℕ)
  pub first : List ℕ
  pub took : Took start after (first ∷ [])
  pub skips : Skipped range.first after ahead
  pub is : head_of first ≡ Ok head

abbrev pub begun-by : (range : JobRange) (ahead : Option (List ℕ)) (head : HeadRecord)
    (start after : Option (List ℕ)) (first : List ℕ) → Took start after (first ∷ []) →
    Skipped range.first after ahead → head_of first ≡ Ok head → Begun range ahead head
begun-by range ahead head start after first took skips is = record {
  start = start;
  after = after;
  first = first;
  took = took;
  skips = skips;
  is = is;
}

-- one more block was read, after some blocks
pub record NextBlock (range : JobRange) (blocks : ℕ) (mid : Option (List ℕ))
    (names : BTreeSet (String Global)) : Type 0 where
  pub now : Option (List ℕ)
  pub known : BTreeSet (String Global)
  pub jobs : List JobRecord
  pub reads : BlockReads (range.first + blocks * block_jobs) mid now names known jobs
  pub within : blocks * block_jobs + length jobs ≤ range.count

-- the text of the last block: its lines with the total of all jobs, and what follows the report
pub record LastText (range : JobRange) (start : Option (List ℕ)) (clock : Ticks)
    (old more : List JobRecord) (digest : ReportDigest) : Type 0 where
  pub block : List ℕ
  pub tail : List ℕ
  pub text : List ℕ
  pub hasher : ReportDigest
  pub tells : block ≡ with_total (jobs_text clock more) (polls_of clock (old ++ more))
  pub adds : text ≡ block ++ tail
  pub takes : (m : List ℕ) → HasDigested digest m → HasDigested hasher (m ++ block)
  pub follows : (report : List ℕ) → HasDigested hasher report →
      FollowsReport range.is_part range start report tail

module _ {range : JobRange} {ahead : Option (List ℕ)} {head : HeadRecord}
    (begun : Begun range ahead head) where
  -- the plan of the head and some jobs
  abbrev Planned : List JobRecord → PlanRecord
  Planned jobs =
      plan_with range begun.start begun.after ahead begun.first head begun.took begun.skips
      begun.is jobs

  -- some jobs of the range were read
  begins-with : (now : Option (List ℕ)) (lines : List (List ℕ)) (jobs : List JobRecord) →
      Took ahead now lines → jobs_at range.first [] lines ≡ Ok jobs → length jobs ≤ range.count →
      Begins range begun.start (Planned jobs)
  begins-with =
      has-begun range begun.start begun.after ahead begun.first head begun.took begun.skips begun.is

  module _ {mid : Option (List ℕ)} {names : BTreeSet (String Global)} {polls sent : ℕ}
      {before taken : Option (List ℕ)} {digest : ReportDigest} where
    -- what was written if the run stopped after a block
    wrote : (blocks : ℕ) →
        IsDone head.clock range.first ahead mid names blocks polls sent before taken digest →
        blocks * block_jobs ≤ range.count →
        (left : Option (List ℕ)) (read failed flushed : Bool) (Untouched : Type 0) →
        IsWhole blocks flushed Untouched →
        WroteBlocks range (record { before = begun.start; left = left; failed = read })
        (record { before = before; taken = taken; failed = failed; flushed = flushed })
        Untouched blocks
    wrote zero done within left read failed flushed Untouched whole = whole
    wrote (suc n) done within left read failed flushed Untouched whole = (
      Planned done.jobs,
      begins-with mid done.lines done.jobs done.read done.are (omega (arith, done.many, within)),
      done.many,
      done.written,
      whole,
    )

  module _ {mid : Option (List ℕ)} {names : BTreeSet (String Global)} {blocks polls sent : ℕ}
      {before taken : Option (List ℕ)} {digest : ReportDigest}
      (done : IsDone head.clock range.first ahead mid names blocks polls sent before taken digest)
    where
      -- the next block can't be read
      pub ends-unread : (size : ℕ) → blocks * block_jobs + size ≤ range.count → size ≤ block_jobs
          → (left : Option (List ℕ)) (read flushed : Bool) (Untouched : Type 0)
          (fault : PopulationFault)
          → IsWhole blocks flushed Untouched
          → BlockFault (range.first + blocks * block_jobs) size mid names fault
          → IsTrue read ↔ (fault ≡ Read)
          → Ends range (Err fault) (record { before = begun.start; left = left; failed = read })
          (record { before = before; taken = taken; failed = false; flushed = flushed }) Untouched
      ends-unread size within few left read flushed Untouched Read whole stopped marks = (
        marks.1 refl,
        refl,
        (
          blocks,
          wrote blocks done (omega (arith, within)) left read false flushed
              Untouched whole,
        ),
      )
      ends-unread size within few left read flushed Untouched (Line line fault) whole
          stopped marks =
          let place : range.first + length done.jobs ≡ range.first + blocks * block_jobs =
          omega (arith, done.many) in
          let many : length done.lines ≡ length done.jobs =
          jobs-length range.first [] done.lines done.jobs done.are in
          let clear : read ≡ false =
          unset read (λ set. let no : Line line fault ≡ Read = marks.0 set in cc) in (
            clear,
            refl,
            λ other.
                let refused = stopped.3 other (names_of done.jobs) done.known in
                job-refused range begun.start begun.after ahead begun.first head begun.took
                begun.skips begun.is (done.lines ++ refused.0)
                (record { line = line; fault = fault })
                (begins-more ahead mid done.lines refused.0 done.read refused.2)
                (omega (
                  arith,
                  length-append done.lines refused.0,
                  refused.1,
                  many,
                  done.many,
                  stopped.2,
                  within,
                ))
                (jobs-refused range.first [] done.lines refused.0 done.jobs
                (record { line = line; fault = fault }) done.are (rw place refused.3)),
            rw (block-of range.first blocks stopped.0 line stopped.1
                (omega (arith, stopped.2, few)))
                (wrote blocks done (omega (arith, within)) left read false flushed Untouched whole),
          )
      ends-unread size within few left read flushed Untouched (Engine fault) whole stopped marks =
          absurd stopped
      ends-unread size within few left read flushed Untouched (Write count) whole stopped marks =
          absurd stopped
      ends-unread size within few left read flushed Untouched (Report number fault) whole stopped
          marks = absurd stopped
      ends-unread size within few left read flushed Untouched (Missing next) whole stopped marks =
          absurd stopped
      ends-unread size within few left read flushed Untouched (Words fault) whole stopped marks =
          absurd stopped

      -- the next block did not run
      pub ends-unrun : blocks * block_jobs ≤ range.count
          → (left : Option (List ℕ)) (read flushed : Bool) (Untouched : Type 0)
          (fault : EngineFault)
          → IsWhole blocks flushed Untouched → read ≡ false
          → Ends range (Err (Engine fault))
          (record { before = begun.start; left = left; failed = read })
          (record { before = before; taken = taken; failed = false; flushed = flushed }) Untouched
      ends-unrun within left read flushed Untouched fault whole clear =
          (clear, refl, (blocks, wrote blocks done within left read false flushed Untouched whole))

      -- the next block ran, and the rest of the population can't be read
      pub ends-unended : blocks * block_jobs ≤ range.count
          → (left : Option (List ℕ)) (read flushed : Bool) (Untouched : Type 0)
          (fault : PopulationFault)
          → IsWhole blocks flushed Untouched → EndFault fault → IsTrue read ↔ (fault ≡ Read)
          → Ends range (Err fault) (record { before = begun.start; left = left; failed = read })
          (record { before = before; taken = taken; failed = false; flushed = flushed }) Untouched
      ends-unended within left read flushed Untouched Read whole stopped marks = (
        marks.1 refl,
        refl,
        (blocks, wrote blocks done within left read false flushed Untouched whole),
      )
      ends-unended within left read flushed Untouched (Line line fault) whole stopped marks =
          absurd stopped
      ends-unended within left read flushed Untouched (Engine fault) whole stopped marks = (
        unset read (λ set. let no : Engine fault ≡ Read = marks.0 set in cc),
        refl,
        (blocks, wrote blocks done within left read false flushed Untouched whole),
      )
      ends-unended within left read flushed Untouched (Write count) whole stopped marks =
          absurd stopped
      ends-unended within left read flushed Untouched (Report number fault) whole stopped marks =
          absurd stopped
      ends-unended within left read flushed Untouched (Missing next) whole stopped marks =
          absurd stopped
      ends-unended within left read flushed Untouched (Words fault) whole stopped marks =
          absurd stopped

      -- a part of the next block, and of what follows the report, was written
      ends-sent : (next : NextBlock range blocks mid names) (left written : Option (List ℕ))
          (text rest tail : List ℕ) (count : ℕ) (read flushed : Bool) (Untouched : Type 0)
          → text ++ rest ≡ with_total (jobs_text head.clock next.jobs)
          (polls_of head.clock (done.jobs ++ next.jobs)) ++ tail
          → FollowsReport range.is_part range begun.start
          (report_of (Planned (done.jobs ++ next.jobs))) tail
          → count ≤ length text → Appends taken written (take count text) → read ≡ false
          → Ends range (Err (Write (sent + count)))
          (record { before = begun.start; left = left; failed = read })
          (record { before = before; taken = written; failed = true; flushed = flushed }) Untouched
      ends-sent next left written text rest tail count read flushed Untouched begin follows ends
          writes clear =
          let plan : PlanRecord = Planned (done.jobs ++ next.jobs) in
          let all = joined done next.jobs next.reads in
          let part =
          part-written done next.jobs plan written text rest tail count refl refl begin
          ends writes in (
            clear,
            refl,
            (
              plan,
              tail,
              begins-with next.now all.lines (done.jobs ++ next.jobs) all.read all.are
                  (omega (arith, length-append done.jobs next.jobs, done.many, next.within)),
              follows,
              part.0,
              part.1,
            ),
          )

      -- a part of the next block was written, which isn't the last one
      pub ends-unwritten :
          (next : NextBlock range blocks mid names) (left written : Option (List ℕ))
          (text : List ℕ) (count : ℕ) (read flushed : Bool) (Untouched : Type 0)
          → text ≡ jobs_text head.clock next.jobs → count ≤ length text
          → Appends taken written (take count text) → read ≡ false
          → Ends range (Err (Write (sent + count)))
          (record { before = begun.start; left = left; failed = read })
          (record { before = before; taken = written; failed = true; flushed = flushed }) Untouched
      ends-unwritten next left written text count read flushed Untouched tells ends writes clear =
          let total : ℕ = polls_of head.clock (done.jobs ++ next.jobs) in
          let tail =
          some-tail range.is_part range begun.start
          (report_of (Planned (done.jobs ++ next.jobs))) in
          let begin = ap (λ (bs : List ℕ). bs ++ (with_total [] total ++ tail.0)) tells
          ∙ total-follows (jobs_text head.clock next.jobs) total tail.0 in
          ends-sent next left written text (with_total [] total ++ tail.0) tail.0 count read flushed
          Untouched begin tail.1 ends writes clear

      module _ (next : NextBlock range blocks mid names)
          (last : LastText range begun.start head.clock done.jobs next.jobs digest) where
        begin : last.text ≡ with_total (jobs_text head.clock next.jobs)
            (polls_of head.clock (done.jobs ++ next.jobs)) ++ last.tail
        begin = last.adds ∙ ap (λ (bs : List ℕ). bs ++ last.tail) last.tells

        follows : FollowsReport range.is_part range begun.start
            (report_of (Planned (done.jobs ++ next.jobs))) last.tail
        follows =
            let plan : PlanRecord = Planned (done.jobs ++ next.jobs) in
            last.follows (report_of plan)
            (digested-report done next.jobs plan last.block last.hasher refl refl
            last.tells last.takes)

        -- a part of the last block, and of what follows the report, was written
        pub ends-unwritten-last : (left written : Option (List ℕ)) (count : ℕ) (read flushed : Bool)
            (Untouched : Type 0) → count ≤ length last.text
            → Appends taken written (take count last.text) → read ≡ false
            → Ends range (Err (Write (sent + count)))
            (record { before = begun.start; left = left; failed = read })
            (record { before = before; taken = written; failed = true; flushed = flushed })
            Untouched
        ends-unwritten-last left written count read flushed Untouched ends writes clear =
            ends-sent next left written last.text [] last.tail count read flushed Untouched
            (append-nil last.text ∙ begin) follows ends writes clear

        -- the last block was written, and what follows the report
        pub ends-well : (left written : Option (List ℕ)) (read flushed : Bool) (Untouched : Type 0)
            (end : Unit {0})
            → (blocks * block_jobs + length next.jobs < range.count → IsAtEnd next.now)
            → StaysAtEnd next.now left → Appends taken written last.text → read ≡ false
            → flushed ≡ true
            → Ends range (Ok end) (record { before = begun.start; left = left; failed = read })
            (record { before = before; taken = written; failed = false; flushed = flushed })
            Untouched
        ends-well left written read flushed Untouched end ended stays writes clear flush =
            let plan : PlanRecord = Planned (done.jobs ++ next.jobs) in
            let all = joined done next.jobs next.reads in
            let many : length (done.jobs ++ next.jobs) ≡ blocks * block_jobs + length next.jobs =
            omega (arith, length-append done.jobs next.jobs, done.many) in (
              clear,
              refl,
              (
                plan,
                last.tail,
                is-population-read range begun.start begun.after ahead begun.first head begun.took
                    begun.skips begun.is next.now left read all.lines (done.jobs ++ next.jobs)
                    all.read all.are (omega (arith, many, next.within))
                    (λ short. ended (omega (arith, many, short))) stays,
                follows,
                all-written done next.jobs plan written last.text last.tail refl refl begin writes,
              ),
              flush,
            )

-- ---- before the first block

-- no block comes before the range
before-range : (range : JobRange) (line : ℕ) → line < range.first + 2 →
    (line - (range.first + 2)) / block_jobs ≡ 0
before-range range line early =
    let none : line - (range.first + 2) ≡ 0 = omega (arith, early) in
    ap (λ n. n / block_jobs) none

-- nothing is in front of known bytes
pub prepend-none : (known : Option (List ℕ)) → prepend_known [] known ≡ known
prepend-none None = refl
prepend-none (Some xs) = refl

-- the head can't be read
pub ends-headless : (range : JobRange) (start left taken : Option (List ℕ)) (read flushed : Bool)
    (Untouched : Type 0) (fault : PopulationFault) → HeadFault start fault
    → IsTrue read ↔ (fault ≡ Read) → Untouched
    → Ends range (Err fault) (record { before = start; left = left; failed = read })
    (record { before = taken; taken = taken; failed = false; flushed = flushed }) Untouched
ends-headless range start left taken read flushed Untouched Read stopped marks same =
    (marks.1 refl, refl, (0, same))
ends-headless range start left taken read flushed Untouched (Line line fault) stopped marks same = (
  unset read (λ set. let no : Line line fault ≡ Read = marks.0 set in cc),
  refl,
  λ other. stopped.1 other range,
  rw (before-range range line (omega (arith, stopped.0))) same,
)
ends-headless range start left taken read flushed Untouched (Engine fault) stopped marks same =
    absurd stopped
ends-headless range start left taken read flushed Untouched (Write count) stopped marks same =
    absurd stopped
ends-headless range start left taken read flushed Untouched (Report number fault) stopped marks
    same = absurd stopped
ends-headless range start left taken read flushed Untouched (Missing next) stopped marks same =
    absurd stopped
ends-headless range start left taken read flushed Untouched (Words fault) stopped marks same =
    absurd stopped

-- the lines before the range can't be skipped
pub ends-unskipped : (range : JobRange) (start left taken : Option (List ℕ)) (read flushed : Bool)
    (Untouched : Type 0) (fault : PopulationFault) → SkipFault range.first fault
    → IsTrue read ↔ (fault ≡ Read) → Untouched
    → Ends range (Err fault) (record { before = start; left = left; failed = read })
    (record { before = taken; taken = taken; failed = false; flushed = flushed }) Untouched
ends-unskipped range start left taken read flushed Untouched Read stopped marks same =
    (marks.1 refl, refl, (0, same))
ends-unskipped range start left taken read flushed Untouched (Line line fault) stopped
    marks same = (
      unset read (λ set. let no : Line line fault ≡ Read = marks.0 set in cc),
      refl,
      λ other. absurd (other stopped.1),
      rw (before-range range line stopped.0) same,
    )
ends-unskipped range start left taken read flushed Untouched (Engine fault) stopped marks same =
    absurd stopped
ends-unskipped range start left taken read flushed Untouched (Write count) stopped marks same =
    absurd stopped
ends-unskipped range start left taken read flushed Untouched (Report number fault) stopped marks
    same = absurd stopped
ends-unskipped range start left taken read flushed Untouched (Missing next) stopped marks same =
    absurd stopped
ends-unskipped range start left taken read flushed Untouched (Words fault) stopped marks same =
    absurd stopped
