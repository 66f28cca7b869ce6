-- The population of the jobs of a range, by the lines that were read, skipped and taken.
use Rattle.std.proofs.Common.{◌≡◌, ◌<◌, ◌≤◌, ◌+◌, ◌-◌, ℕ, List, [], ◌∷◌, ◌++◌, length, take, drop}
use Rattle.std.proofs.Common.{replicate, Bool, Ok, Err, Option, None, Some, refl, sym, ap, ◌∙◌}
use Rattle.std.proofs.Common.{append-nil, arith, inl, inr}
use Rattle.std.proofs.lemmas.Bool.{cases_lt}
use Rattle.std.specs.Io.KnownBytes.{IsAtEnd, prepend_known}
use Rattle.std.specs.Prelude.{IfSome}
use Rattle.std.proofs.lemmas.List.{drop-drop, drop_all, drop_at, length-replicate, take_all}
use Rattle.std.proofs.lemmas.List.{take_at}
use Rattle.std.proofs.Math.Seq.{take-append-add}
use Rattle.zs_drive.specs.Values.{JobRecord}
use Rattle.zs_run.specs.declared.plan_fault.PlanFault.{PlanFault}
use Rattle.zs_run.specs.declared.plan_fault.PlanFault.TheVariants as faults
use Rattle.zs_run.specs.Head.{HeadRecord, head_of}
use Rattle.zs_run.specs.Plan.{PlanRecord}
use Rattle.zs_lines.specs.Lines.{lines_of}
use Rattle.zs_lines.specs.Buffers.{BeginsWith, Took}
use Rattle.zs_lines.proofs.LineLemmas.{begins, took-nothing}
use Rattle.zs_population.specs.Ending.{Begins, IsPopulation, WasRefused}
use Rattle.zs_population.specs.Population.{RejectedLine, jobs_at, lines_in, population_of}
use Rattle.zs_population.specs.Skipped.{Skipped}
use Rattle.zs_population.specs.declared.range.JobRange.{JobRange}
use Rattle.zs_population.proofs.SumLemmas.{ended-known}
use Rattle.zs_population.proofs.JobsLemmas.{jobs-length, refused-stays}

-- ---- heads

refused-head : (range : JobRange) (first : List ℕ) (lines : List (List ℕ)) (fault : PlanFault)
    → head_of first ≡ Err fault
    → population_of range (first ∷ lines) ≡ Err (record { line = 1; fault = fault })
unfolding population_of
refused-head range first lines fault is = rw is refl

-- the first line is no head
pub head-refused : (range : JobRange) (known : Option (List ℕ)) (first : List ℕ) (fault : PlanFault)
    → head_of first ≡ Err fault → BeginsWith known (first ∷ [])
    → WasRefused range known (record { line = 1; fault = fault })
head-refused range None first fault is begins =
    (first ∷ [], refused-head range first [] fault is, tt)
head-refused range (Some xs) first fault is begins =
    (first ∷ begins.0, refused-head range first begins.0 fault is, begins.1)

-- there is no line
pub nothing-refused : (range : JobRange) (old now : Option (List ℕ)) → Took old now [] →
    IsAtEnd now → WasRefused range old (record { line = 1; fault = faults.Json })
unfolding population_of
nothing-refused range None now none end = ([], refl, tt)
nothing-refused range (Some xs) None none end = absurd none
nothing-refused range (Some xs) (Some ys) none end = ([], refl, none ∙ ap lines_of end)

-- ---- lines

-- no line was skipped
pub skipped-nothing : (known : Option (List ℕ)) → Skipped 0 known known
skipped-nothing None = tt
skipped-nothing (Some xs) = refl

-- one line more
pub skipped-more : (count : ℕ) (a b c : Option (List ℕ)) (line : List ℕ) → Skipped count a b →
    Took b c (line ∷ []) → Skipped (count + 1) a c
skipped-more count None b c line first next = tt
skipped-more count (Some a) None c line first next = absurd first
skipped-more count (Some a) (Some b) None line first next = absurd next
skipped-more count (Some a) (Some b) (Some c) line first next =
    sym (drop-drop 1 count (lines_of a)) ∙ ap (drop 1) (first ∙ next)

-- no line remains
pub skipped-all : (n count : ℕ) (a b c : Option (List ℕ)) → n ≤ count → Skipped n a b →
    Took b c [] → IsAtEnd c → Skipped count a c
skipped-all n count None b c within first next end = tt
skipped-all n count (Some a) None c within first next end = absurd first
skipped-all n count (Some a) (Some b) None within first next end = absurd next
skipped-all n count (Some a) (Some b) (Some c) within first next end =
    let none : drop n (lines_of a) ≡ [] = first ∙ next ∙ ap lines_of end in
    let place : n + (count - n) ≡ count = omega (arith, within) in
    ap (λ k. drop k (lines_of a)) (sym place) ∙ sym (drop-drop (count - n) n (lines_of a))
    ∙ ap (drop (count - n)) none
    ∙ drop_all (count - n) [] (omega arith) ∙ sym (ap lines_of end)

-- known bytes begin with lines, and these are all others
rest-of : (known : Option (List ℕ)) (lines : List (List ℕ)) → BeginsWith known lines →
    (rest : List (List ℕ)) × IfSome known (λ xs. lines_of xs ≡ lines ++ rest)
rest-of None lines begins = ([], tt)
rest-of (Some xs) lines begins = begins

-- all lines after the head, by those from the range on
all-lines : (count : ℕ) (start after ahead : Option (List ℕ)) (first : List ℕ)
    (lines : List (List ℕ)) → Took start after (first ∷ []) → Skipped count after ahead
    → IfSome ahead (λ xs. lines_of xs ≡ lines)
    → (all : List (List ℕ)) × (drop count all ≡ lines)
    × IfSome start (λ known. lines_of known ≡ first ∷ all)
all-lines count None after ahead first lines took skips are = (
  replicate count [] ++ lines,
  drop_at (replicate count []) lines count (length-replicate count []),
  tt,
)
all-lines count (Some xs) None ahead first lines took skips are = absurd took
all-lines count (Some xs) (Some ys) None first lines took skips are = absurd skips
all-lines count (Some xs) (Some ys) (Some zs) first lines took skips are =
    (lines_of ys, skips ∙ are, took)

-- the lines of a range that begin with these
in-range : (range : JobRange) (all lines rest : List (List ℕ))
    → drop range.first all ≡ lines ++ rest → length lines ≤ range.count
    → lines_in range all ≡ lines ++ take (range.count - length lines) rest
in-range range all lines rest is within =
    let long : range.count ≡ length lines + (range.count - length lines) = omega (arith, within) in
    ap (take range.count) is ∙ ap (λ n. take n (lines ++ rest)) long ∙ take-append-add lines rest
    (range.count - length lines)

-- what holds of the bytes after the lines that were skipped
carried : (P : Type 0) (count : ℕ) (start after ahead : Option (List ℕ)) (first : List ℕ) →
    Took start after (first ∷ []) → Skipped count after ahead → IfSome ahead (λ xs. P) →
    IfSome start (λ xs. P)
carried P count None after ahead first took skips is = tt
carried P count (Some xs) None ahead first took skips is = absurd took
carried P count (Some xs) (Some ys) None first took skips is = absurd skips
carried P count (Some xs) (Some ys) (Some zs) first took skips is = is

-- bytes that ended after lines
ended-lines : (ahead left : Option (List ℕ)) (lines : List (List ℕ))
    → IfSome ahead (λ xs. (lines_of xs ≡ lines) × (left ≡ Some []))
    → IfSome ahead (λ xs. lines_of xs ≡ lines) × IfSome ahead (λ xs. left ≡ Some [])
ended-lines None left lines is = (tt, tt)
ended-lines (Some xs) left lines is = is

-- lines that were taken, up to the end
all-taken : (ahead now left : Option (List ℕ)) (lines : List (List ℕ)) → Took ahead now lines
    → IsAtEnd now → IfSome now (λ xs. left ≡ Some [])
    → IfSome ahead (λ xs. (lines_of xs ≡ lines) × (left ≡ Some []))
all-taken None now left lines took end none = tt
all-taken (Some xs) None left lines took end none = absurd took
all-taken (Some xs) (Some ys) left lines took end none =
    (took ∙ ap (λ (bs : List ℕ). lines ++ lines_of bs) end ∙ append-nil lines, none)

-- ---- populations

populated : (range : JobRange) (first : List ℕ) (all lines : List (List ℕ)) (head : HeadRecord)
    (jobs : List JobRecord) → head_of first ≡ Ok head
    → lines_in range all ≡ lines → jobs_at range.first [] lines ≡ Ok jobs
    → population_of range (first ∷ all)
    ≡ Ok (record {
      clock = head.clock;
      workers = head.workers;
      grain = head.grain;
      jobs = jobs;
    })
unfolding population_of
populated range first all lines head jobs is in_range are = rw (is, in_range, are) refl

refused-job : (range : JobRange) (first : List ℕ) (all lines : List (List ℕ)) (head : HeadRecord)
    (refusal : RejectedLine) → head_of first ≡ Ok head
    → lines_in range all ≡ lines → jobs_at range.first [] lines ≡ Err refusal
    → population_of range (first ∷ all) ≡ Err refusal
unfolding population_of
refused-job range first all lines head refusal is in_range are = rw (is, in_range, are) refl

module _ (range : JobRange) (start after ahead : Option (List ℕ)) (first : List ℕ)
    (head : HeadRecord) (took : Took start after (first ∷ []))
    (skips : Skipped range.first after ahead)
    (is : head_of first ≡ Ok head) where
  -- the plan of the head and some jobs
  abbrev pub plan_with : List JobRecord → PlanRecord
  plan_with jobs = record {
    clock = head.clock;
    workers = head.workers;
    grain = head.grain;
    jobs = jobs;
  }

  -- some jobs of the range were read
  pub has-begun : (now : Option (List ℕ)) (lines : List (List ℕ)) (jobs : List JobRecord)
      → Took ahead now lines → jobs_at range.first [] lines ≡ Ok jobs → length jobs ≤ range.count
      → Begins range start (plan_with jobs)
  has-begun now lines jobs reads are within =
      let begun : JobRange = record {
        first = range.first;
        count = length jobs;
        is_part = range.is_part;
      } in
      let rest = rest-of ahead lines (begins ahead now lines reads) in
      let all = all-lines range.first start after ahead first (lines ++ rest.0) took skips rest.1 in
      let many : length lines ≡ length jobs = jobs-length range.first [] lines jobs are in
      let exact : lines_in begun all.0 ≡ lines =
      ap (take (length jobs)) all.1 ∙ take_at lines rest.0 (length jobs) many in
      (within, (first ∷ all.0, populated begun first all.0 lines head jobs is exact are, all.2))

  -- all jobs of the range were read
  pub is-population-read : (now left : Option (List ℕ)) (failed : Bool) (lines : List (List ℕ))
      (jobs : List JobRecord) → Took ahead now lines
      → jobs_at range.first [] lines ≡ Ok jobs → length jobs ≤ range.count
      → (length jobs < range.count → IsAtEnd now)
      → (IsAtEnd now → IfSome now (λ xs. left ≡ Some []))
      → IsPopulation range (record { before = start; left = left; failed = failed })
      (plan_with jobs)
  is-population-read now left failed lines jobs reads are within end stays =
      let many : length lines ≡ length jobs = jobs-length range.first [] lines jobs are in
      elim (cases_lt (length jobs) range.count) [
        | inl short ↦ (
            let ended = ended-lines ahead left lines
            (all-taken ahead now left lines reads (end short) (stays (end short))) in
            let all = all-lines range.first start after ahead first lines took skips ended.0 in
            let whole : lines_in range all.0 ≡ lines =
            ap (take range.count) all.1 ∙ take_all range.count lines
            (omega (arith, many, within)) in (
              (first ∷ all.0, populated range first all.0 lines head jobs is whole are, all.2),
              λ less. carried (left ≡ Some []) range.first start after ahead first took
                  skips ended.1,
            )
            )
        | inr full ↦ (
            let rest = rest-of ahead lines (begins ahead now lines reads) in
            let all = all-lines range.first start after ahead first (lines ++ rest.0) took
            skips rest.1 in
            let exact : lines_in range all.0 ≡ lines =
            ap (take range.count) all.1 ∙ take_at lines rest.0 range.count
            (omega (arith, many, within, full)) in (
              (first ∷ all.0, populated range first all.0 lines head jobs is exact are, all.2),
              λ less. absurd (omega (arith, less, full)),
            )
            )
      ]

  pub is-population : (left : Option (List ℕ)) (buffer : List ℕ) (failed : Bool)
      (lines : List (List ℕ)) (jobs : List JobRecord) → Took ahead (prepend_known buffer left) lines
      → jobs_at range.first [] lines ≡ Ok jobs → length jobs ≤ range.count
      → (length jobs < range.count → IsAtEnd (prepend_known buffer left))
      → IsPopulation range (record { before = start; left = left; failed = failed })
      (plan_with jobs)
  is-population left buffer failed lines jobs reads are within end =
      is-population-read (prepend_known buffer left) left failed lines jobs reads are within end
      (λ ended. ended-known (prepend_known buffer left) left buffer []
      (took-nothing (prepend_known buffer left)) ended)

  -- a line of the range is no job
  pub job-refused : (lines : List (List ℕ)) (refusal : RejectedLine) → BeginsWith ahead lines →
      length lines ≤ range.count → jobs_at range.first [] lines ≡ Err refusal →
      WasRefused range start refusal
  job-refused lines refusal begun within are =
      let rest = rest-of ahead lines begun in
      let all = all-lines range.first start after ahead first (lines ++ rest.0) took
      skips rest.1 in (
        first ∷ all.0,
        refused-job range first all.0 (lines ++ take (range.count - length lines) rest.0) head
            refusal is (in-range range all.0 lines rest.0 all.1 within)
            (refused-stays range.first [] lines (take (range.count - length lines) rest.0)
            refusal are),
        all.2,
      )
