-- The reports of ranges that follow each other are the report of all jobs.
use Rattle.std.proofs.Common.{◌≡◌, ◌<◌, ◌≤◌, ◌+◌, ◌^◌, ◌⊎◌, inl, inr, ℕ, List, [], ◌∷◌, ◌++◌}
use Rattle.std.proofs.Common.{length, take, drop, map, Option}
use Rattle.std.proofs.Common.{Some, None, Result, Ok, Err, codes, refl, sym, ap, ◌∙◌, append_assoc}
use Rattle.std.proofs.Common.{append-nil, arith, subst, length-take, length-take-le}
use Rattle.std.proofs.Common.{take-append-drop, take_all, drop-drop}
use Rattle.std.specs.Prelude.{decimal}
use Rattle.std.specs.List.{flat_map}
use Rattle.std.proofs.lemmas.Bool.{cases_lt}
use Rattle.std.proofs.lemmas.List.{drop_all}
use Rattle.sha2.specs.Sha256.{sha256}
use Rattle.sha2.proofs.Facts256.{length-sha256}
use Rattle.zs_term.specs.Saturating.{max_moment}
use Rattle.zs_agenda.specs.Ticks.{Ticks, horizon}
use Rattle.zs_engine.specs.Times.{ticks_of}
use Rattle.zs_drive.specs.Values.{AttemptedValue, JobRecord}
use Rattle.zs_drive.specs.declared.record.Ending.{Ending}
use Rattle.zs_run.specs.Lines.{attempts_lines}
use Rattle.zs_run.specs.declared.plan_fault.PlanFault.{PlanFault}
use Rattle.zs_run.specs.Head.{HeadRecord, head_of, job_of_bytes}
use Rattle.zs_run.specs.Plan.{PlanRecord}
use Rattle.zs_run.specs.PlanReport.{job_report, jobs_text, polls_of, with_total}
use Rattle.zs_run.specs.Report.{JobReport, end_line, ending_text, head_line, job_lines, last_moment}
use Rattle.zs_run.proofs.Parts.{polls_of_two, text_of_two}
use Rattle.zs_population.specs.Joining.{AreParts, AreRangeReports, EndsLine, PartRecord, RangesJoin}
use Rattle.zs_population.specs.Parts.{IsPartRange, IsSplit}
use Rattle.zs_population.specs.Population.{RejectedLine, all_jobs, at_line, job_at, jobs_at}
use Rattle.zs_population.specs.Population.{lines_in, max_population, population_of, ◌>>=◌}
use Rattle.zs_population.specs.Reads.{names_of}
use Rattle.zs_population.specs.Sums.{sums_of}
use Rattle.zs_population.specs.Trailer.{origin_text, trailer_of}
use Rattle.zs_population.specs.declared.lines.Sums.{Sums}
use Rattle.zs_population.specs.declared.range.JobRange.{JobRange}
use Rattle.zs_population.proofs.FewerNames.{job-fewer}
use Rattle.zs_population.proofs.JobsLemmas.{found, jobs-append, jobs-length, refused-stays}
use Rattle.zs_population.proofs.Trailers.{report-splits, split-unique, total-ends, total-tells}
use Rattle.zs_population.proofs.Trailers.{trailer-splits, trailer-tells}

-- ---- jobs after fewer names

-- what was found in a line may be found by other means
as-well : {A B : Type 0} (line : ℕ) (r s : Result A PlanFault) (f : A → Result B RejectedLine)
    (b : B) → ((a : A) → r ≡ Ok a → s ≡ Ok a)
    → at_line line r >>= f ≡ Ok b → at_line line s >>= f ≡ Ok b
as-well line (Ok a) s f b goes is = ap (λ q. at_line line q >>= f) (goes a refl) ∙ is
as-well line (Err e) s f b goes is =
    absurd (let no : Err (record { line = line; fault = e }) ≡ Ok b = is in cc)

-- one job
job-at-fewer : (number : ℕ) (front names : List (List ℕ)) (line : List ℕ) (job : JobRecord)
    → job_at number (front ++ names) line ≡ Ok job → job_at number names line ≡ Ok job
unfolding job_at
job-at-fewer number front names line job =
    as-well (number + 2) (job_of_bytes number (front ++ names) line)
    (job_of_bytes number names line) _ job (job-fewer number front names line)

-- all jobs
jobs-fewer : (number : ℕ) (front names : List (List ℕ)) (lines : List (List ℕ))
    (jobs : List JobRecord)
    → jobs_at number (front ++ names) lines ≡ Ok jobs → jobs_at number names lines ≡ Ok jobs
unfolding jobs_at
jobs-fewer number front names [] jobs are = are
jobs-fewer number front names (x ∷ xs) jobs are =
    let one = found (job_at number (front ++ names) x)
    (λ job. jobs_at (number + 1) ((front ++ names) ++ job.name ∷ []) xs
    >>= (λ more. Ok (job ∷ more))) jobs are in
    let job : JobRecord = one.0 in
    let rest = found (jobs_at (number + 1) ((front ++ names) ++ job.name ∷ []) xs)
    (λ more. Ok (job ∷ more)) jobs one.2 in
    let later : jobs_at (number + 1) (names ++ job.name ∷ []) xs ≡ Ok rest.0 =
    jobs-fewer (number + 1) front (names ++ job.name ∷ []) xs rest.0
    (ap (λ ns. jobs_at (number + 1) ns xs) (sym (append_assoc front names (job.name ∷ [])))
    ∙ rest.1) in
    ap (λ r. r >>= (λ other. jobs_at (number + 1) (names ++ other.name ∷ []) xs >>=
    (λ more. Ok (other ∷ more))))
    (job-at-fewer number front names x job one.1)
    ∙ ap (λ r. r >>= (λ more. Ok (job ∷ more))) later ∙ rest.2

-- ---- lines of jobs, divided

-- what some lines of jobs and those after them are
abbrev Divided : ℕ → List (List ℕ) → List (List ℕ) → List (List ℕ) → List JobRecord → Type 0
Divided number names xs ys all =
    (jobs : List JobRecord) × (more : List JobRecord) × (jobs_at number names xs ≡ Ok jobs)
    × (jobs_at (number + length jobs) (names ++ names_of jobs) ys ≡ Ok more) × (all ≡ jobs ++ more)

-- the same, by the result for the first lines
divided-by : (number : ℕ) (names xs ys : List (List ℕ)) (all : List JobRecord)
    (r : Result (List JobRecord) RejectedLine) → jobs_at number names xs ≡ r
    → jobs_at number names (xs ++ ys) ≡ Ok all → Divided number names xs ys all
divided-by number names xs ys all (Ok jobs) is are =
    let rest = found (jobs_at (number + length jobs) (names ++ names_of jobs) ys)
    (λ more. Ok (jobs ++ more)) all
    (sym (jobs-append number names xs ys jobs is) ∙ are) in
    let known : Ok (jobs ++ rest.0) ≡ Ok all = rest.2 in
    let same : jobs ++ rest.0 ≡ all = cc in
    (jobs, rest.0, is, rest.1, sym same)
divided-by number names xs ys all (Err e) is are =
    absurd (let no : Err e ≡ Ok all = sym (refused-stays number names xs ys e is) ∙ are in cc)

-- if all lines are jobs, the first ones are, and those after them
divided : (number : ℕ) (names xs ys : List (List ℕ)) (all : List JobRecord) →
    jobs_at number names (xs ++ ys) ≡ Ok all → Divided number names xs ys all
divided number names xs ys all are =
    divided-by number names xs ys all (jobs_at number names xs) refl are

-- the number of the first job is that of the first line, if there is one
renumbered : (m n : ℕ) (names xs : List (List ℕ)) (jobs : List JobRecord) → (xs ≡ []) ⊎ (m ≡ n) →
    jobs_at m names xs ≡ Ok jobs → jobs_at n names xs ≡ Ok jobs
unfolding jobs_at
renumbered m n names xs jobs (inl none) are =
    ap (jobs_at n names) none ∙ sym (ap (jobs_at m names) none) ∙ are
renumbered m n names xs jobs (inr same) are = ap (λ k. jobs_at k names xs) (sym same) ∙ are

-- nothing follows the first lines, or their number is the one wanted
all-or-whole : (count : ℕ) (xs : List (List ℕ)) →
    (drop count xs ≡ []) ⊎ (length (take count xs) ≡ count)
all-or-whole count xs = elim (cases_lt (length xs) count) [
  | inl short ↦ inl (drop_all count xs (omega (arith, short)))
  | inr full ↦ inr (length-take-le count xs full)
]

-- the lines that follow the first ones have the number after them
follows : (at count many : ℕ) (xs : List (List ℕ)) → length (take count xs) ≡ many
    → (drop count xs ≡ []) ⊎ (length (take count xs) ≡ count)
    → (drop count xs ≡ []) ⊎ (at + many ≡ at + count)
follows at count many xs is (inl none) = inl none
follows at count many xs is (inr whole) = inr (omega (arith, is, whole))

-- the jobs of a range come first, and then those after it
range-first : (lines : List (List ℕ)) (at count : ℕ) (names : List (List ℕ))
    (all mine : List JobRecord)
    → jobs_at at names (drop at lines) ≡ Ok all
    → jobs_at at [] (take count (drop at lines)) ≡ Ok mine
    → (later : List JobRecord) × (all ≡ mine ++ later)
    × (jobs_at (at + count) (names ++ names_of mine) (drop (at + count) lines) ≡ Ok later)
range-first lines at count names all mine are is =
    let rest : List (List ℕ) = drop at lines in
    let parts = divided at names (take count rest) (drop count rest) all
    (ap (jobs_at at names) (take-append-drop count rest) ∙ are) in
    let fewer : jobs_at at [] (take count rest) ≡ Ok parts.0 =
    jobs-fewer at names [] (take count rest) parts.0
    (ap (λ ns. jobs_at at ns (take count rest)) (append-nil names) ∙ parts.2) in
    let known : Ok parts.0 ≡ Ok mine = sym fewer ∙ is in
    let same : parts.0 ≡ mine = cc in
    let many : length (take count rest) ≡ length parts.0 =
    jobs-length at names (take count rest) parts.0 parts.2 in
    let next : jobs_at (at + count) (names ++ names_of parts.0) (drop count rest) ≡ Ok parts.1 =
    renumbered (at + length parts.0) (at + count) (names ++ names_of parts.0)
    (drop count rest) parts.1
    (follows at count (length parts.0) rest many (all-or-whole count rest)) parts.3 in (
      parts.1,
      parts.4 ∙ ap (λ js. js ++ parts.1) same,
      ap (λ js. jobs_at (at + count) (names ++ names_of js) (drop (at + count) lines)) (sym same)
          ∙ ap (jobs_at (at + count) (names ++ names_of parts.0)) (sym (drop-drop count at lines))
          ∙ next,
    )

-- ---- the lines of jobs end with a newline

-- two texts, one after the other
ends-append : (xs ys : List ℕ) → EndsLine xs → EndsLine ys → EndsLine (xs ++ ys)
ends-append xs ys p (inl none) =
    subst EndsLine (sym (append-nil xs) ∙ ap (λ (t : List ℕ). xs ++ t) (sym none)) p
ends-append xs ys p (inr (front, is)) =
    inr (xs ++ front, ap (λ (t : List ℕ). xs ++ t) is ∙ sym (append_assoc xs front (10 ∷ [])))

-- the last line of a job
end-front : (last : ℕ) (attempts : List AttemptedValue) (ending : Option Ending) (polls : ℕ) →
    (front : List ℕ) × (end_line last attempts ending polls ≡ front ++ 10 ∷ [])
end-front last attempts None polls =
    (codes "end unfinished at " ++ decimal last ++ codes " polls " ++ decimal polls, refl)
end-front last attempts (Some ending) polls = (
  codes "end " ++ ending_text attempts ending ++ codes " at " ++ decimal (last_moment attempts)
      ++ codes " polls " ++ decimal polls,
  refl,
)

-- the lines of a job
job-ends : (last : ℕ) (job : JobReport) → EndsLine (job_lines last job)
job-ends last job =
    let end = end-front last job.attempts job.ending job.polls in
    let before : List ℕ = head_line job.name job.mode ++ attempts_lines 1 job.attempts in
    inr (
      before ++ end.0,
      ap (λ (t : List ℕ). before ++ t) end.1 ∙ sym (append_assoc before end.0 (10 ∷ [])),
    )

-- the lines of reports of jobs
reports-end : (last : ℕ) (jobs : List JobReport) → EndsLine (flat_map (job_lines last) jobs)
reports-end last [] = inl refl
reports-end last (job ∷ jobs) =
    ends-append (job_lines last job) (flat_map (job_lines last) jobs) (job-ends last job)
    (reports-end last jobs)

-- lines of jobs are whole lines
jobs-end : (clock : Ticks) (jobs : List JobRecord) → EndsLine (jobs_text clock jobs)
jobs-end clock jobs = reports-end (horizon clock) (map (job_report (ticks_of clock)) jobs)

-- ---- a report has one range, and one text

-- what is found in the bytes of a report is what was written
same-report : (bytes : List ℕ) (sums : Sums) (range other : JobRange) (text more : List ℕ)
    (polls count : ℕ) → IsPartRange range → IsPartRange other
    → polls < 2 ^ 128 → count < 2 ^ 128 → EndsLine text → EndsLine more
    → bytes ≡ with_total text polls ++ trailer_of range sums (with_total text polls)
    → bytes ≡ with_total more count ++ trailer_of other sums (with_total more count)
    → (range ≡ other) × (text ≡ more) × (polls ≡ count)
same-report bytes sums range other text more polls count fits fit few fewer ends end is was =
    let one : List ℕ = with_total text polls in
    let two : List ℕ = with_total more count in
    let digest : List ℕ = sha256 (one ++ origin_text range sums) in
    let found : List ℕ = sha256 (two ++ origin_text other sums) in
    let whole = split-unique bytes one (trailer_of range sums one) two (trailer_of other sums two)
    (trailer-splits bytes one digest range sums (total-ends text polls) is)
    (trailer-splits bytes two found other sums (total-ends more count) was) in
    let mine : PartRecord = record { range = range; lines = text; polls = polls } in
    let theirs : PartRecord = record { range = other; lines = more; polls = count } in
    let other_splits : IsSplit one more (with_total [] count) =
    subst (λ (t : List ℕ). IsSplit t more (with_total [] count)) (sym whole.0)
    (report-splits theirs fewer end) in
    let parts = split-unique one text (with_total [] polls) more (with_total [] count)
    (report-splits mine few ends) other_splits in
    let long : length digest ≡ length found =
    length-sha256 (one ++ origin_text range sums)
    ∙ sym (length-sha256 (two ++ origin_text other sums)) in (
      trailer-tells range other sums digest found long fits fit whole.1,
      parts.0,
      total-tells polls count few fewer parts.1,
    )

-- ---- populations

-- the plan of a head and jobs
abbrev plan_with : HeadRecord → List JobRecord → PlanRecord
plan_with head jobs = record {
  clock = head.clock;
  workers = head.workers;
  grain = head.grain;
  jobs = jobs;
}

-- no lines are no population
no-lines : (range : JobRange) (plan : PlanRecord) → population_of range [] ≡ Ok plan → ⊥
unfolding population_of
no-lines range plan is = cc

-- the head and the jobs of a population
planned : (range : JobRange) (first : List ℕ) (lines : List (List ℕ)) (plan : PlanRecord)
    → population_of range (first ∷ lines) ≡ Ok plan
    → (head : HeadRecord) × (at_line 1 (head_of first) ≡ Ok head) × (plan.clock ≡ head.clock)
    × (jobs_at range.first [] (lines_in range lines) ≡ Ok plan.jobs)
unfolding population_of
planned range first lines plan is =
    let one = found (at_line 1 (head_of first))
    (λ head. jobs_at range.first [] (lines_in range lines)
    >>= (λ jobs. Ok (plan_with head jobs))) plan is in
    let rest = found (jobs_at range.first [] (lines_in range lines))
    (λ jobs. Ok (plan_with one.0 jobs)) plan one.2 in
    let known : Ok (plan_with one.0 rest.0) ≡ Ok plan = rest.2 in
    let same : plan_with one.0 rest.0 ≡ plan = cc in (
      one.0,
      one.1,
      ap (λ (p : PlanRecord). p.clock) (sym same),
      rest.1 ∙ ap (λ (p : PlanRecord). Ok p.jobs) same,
    )

-- parts end within the jobs that a population may have
parts-within : (lines : List (List ℕ)) (sums : Sums) (reports : List (Option (List ℕ)))
    (first end : ℕ) (text : List ℕ) (polls : ℕ)
    → AreRangeReports lines reports → AreParts sums first reports end text polls
    → first ≤ max_population → end ≤ max_population
parts-within lines sums [] first end text polls ranges parts few = omega (arith, parts.0, few)
parts-within lines sums (None ∷ reports) first end text polls ranges parts few = absurd ranges.0
parts-within lines sums (Some bytes ∷ reports) first end text polls ranges
    (part, more, count, is, begins, rest, texts, totals) few =
    parts-within lines sums reports (first + part.range.count) end more count ranges.1 rest
    (omega (arith, is.1, begins))

-- ---- the law

module _ (first : List ℕ) (lines : List (List ℕ)) (head : HeadRecord)
    (is_head : at_line 1 (head_of first) ≡ Ok head) where
  -- each range has the clock of the first line
  ranged : (range : JobRange) (plan : PlanRecord) → population_of range (first ∷ lines) ≡ Ok plan
      → (plan.clock ≡ head.clock) × (jobs_at range.first [] (lines_in range lines) ≡ Ok plan.jobs)
  ranged range plan is =
      let found_plan = planned range first lines plan is in
      let known : Ok found_plan.0 ≡ Ok head = sym found_plan.1 ∙ is_head in
      let same : found_plan.0 ≡ head = cc in
      (found_plan.2 ∙ ap (λ (h : HeadRecord). h.clock) same, found_plan.3)

  -- the jobs from a number on have the lines and the polls of the reports from there on
  joined : (reports : List (Option (List ℕ))) (at end : ℕ) (text : List ℕ) (polls : ℕ)
      (names : List (List ℕ)) (all : List JobRecord)
      → AreRangeReports (first ∷ lines) reports
      → AreParts (sums_of (first ∷ lines)) at reports end text polls
      → jobs_at at names (drop at lines) ≡ Ok all → length lines ≤ end
      → (text ≡ jobs_text head.clock all) × (polls ≡ polls_of head.clock all)
  unfolding jobs_at
  joined [] at end text polls names all ranges parts are within =
      let none : drop at lines ≡ [] = drop_all at lines (omega (arith, parts.0, within)) in
      let known : Ok [] ≡ Ok all = sym (ap (jobs_at at names) none) ∙ are in
      let empty : [] ≡ all = cc in
      (parts.1 ∙ ap (jobs_text head.clock) empty, parts.2 ∙ ap (polls_of head.clock) empty)
  joined (None ∷ reports) at end text polls names all ranges parts are within = absurd ranges.0
  joined (Some bytes ∷ reports) at end text polls names all
      ((range, plan, is_part, fits, few, is, written), ranges)
      (part, more, count, found_part, begins, rest, texts, totals) are within =
      let seen = ranged range plan is in
      let same = same-report bytes (sums_of (first ∷ lines)) range part.range
      (jobs_text plan.clock plan.jobs) part.lines
      (polls_of plan.clock plan.jobs) part.polls (is_part, fits) (found_part.0, found_part.1) few
      found_part.2 (jobs-end plan.clock plan.jobs)
      found_part.3 written found_part.4 in
      let place : range.first ≡ at = ap (λ (r : JobRange). r.first) same.0 ∙ begins in
      let size : range.count ≡ part.range.count = ap (λ (r : JobRange). r.count) same.0 in
      let mine : jobs_at at [] (take part.range.count (drop at lines)) ≡ Ok plan.jobs =
      ap (λ n. jobs_at n [] (take part.range.count (drop n lines))) (sym place)
      ∙ ap (λ n. jobs_at range.first [] (take n (drop range.first lines))) (sym size) ∙ seen.1 in
      let later = range-first lines at part.range.count names all plan.jobs are mine in
      let next = joined reports (at + part.range.count) end more count (names ++ names_of plan.jobs)
      later.0 ranges rest later.2 within in
      let line : part.lines ≡ jobs_text head.clock plan.jobs =
      sym same.1 ∙ ap (λ (c : Ticks). jobs_text c plan.jobs) seen.0 in
      let number : part.polls ≡ polls_of head.clock plan.jobs =
      sym same.2 ∙ ap (λ (c : Ticks). polls_of c plan.jobs) seen.0 in (
        texts ∙ (λ i. line i ++ next.0 i) ∙ sym (text_of_two head.clock plan.jobs later.0)
            ∙ ap (jobs_text head.clock) (sym later.1),
        totals ∙ (λ i. number i + next.1 i) ∙ sym (polls_of_two head.clock plan.jobs later.0)
            ∙ ap (polls_of head.clock) (sym later.1),
      )

-- The reports of ranges that follow each other from the first job to the last one are the report
-- of all jobs.
pub ranges-joined : RangesJoin
ranges-joined [] plan reports end text polls is ranges parts enough =
    absurd (no-lines all_jobs plan is)
ranges-joined (first ∷ lines) plan reports end text polls is ranges parts enough =
    let found_plan = planned all_jobs first lines plan is in
    let within : end ≤ max_population =
    parts-within (first ∷ lines) (sums_of (first ∷ lines)) reports 0 end text polls ranges parts
    (omega arith) in
    let many : length (take max_moment lines) ≡ length plan.jobs =
    jobs-length 0 [] (take max_moment lines) plan.jobs found_plan.3 in
    let short : length lines ≤ end =
    omega (arith, many, length-take max_moment lines, enough, within) in
    let all : take max_moment lines ≡ lines =
    take_all max_moment lines (omega (arith, short, within)) in
    let are : jobs_at 0 [] lines ≡ Ok plan.jobs = ap (jobs_at 0 []) (sym all) ∙ found_plan.3 in
    let same = joined first lines found_plan.0 found_plan.1 reports 0 end text polls [] plan.jobs
    ranges parts are short in
    let line : text ≡ jobs_text plan.clock plan.jobs =
    same.0 ∙ ap (λ (c : Ticks). jobs_text c plan.jobs) (sym found_plan.2) in
    let number : polls ≡ polls_of plan.clock plan.jobs =
    same.1 ∙ ap (λ (c : Ticks). polls_of c plan.jobs) (sym found_plan.2) in
    λ i. with_total (line i) (number i)
