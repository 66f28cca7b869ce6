-- The jobs of a block, line by line.
use Rattle.std.proofs.Common.{◌≡◌, ◌≢◌, ◌<◌, ◌+◌, ℕ, List, [], ◌∷◌, ◌++◌, length, Ok, Err, Option}
use Rattle.std.proofs.Common.{refl, sym, ap, ◌∙◌, append_assoc, append-nil, length-append, arith}
use Rattle.std.proofs.Common.{subst}
use Rattle.std.proofs.Common.{String, Global}
use Rattle.std.specs.BTreeSet.{BTreeSet}
use Rattle.std.proofs.lemmas.Bool.{lt-leb}
use Rattle.std.proofs.lemmas.List.{map-append}
use Rattle.zs_drive.specs.Values.{JobRecord}
use Rattle.zs_run.specs.Head.{head_of, job_of_bytes}
use Rattle.zs_run.specs.Plan.{max_bytes}
use Rattle.zs_run.specs.declared.plan_fault.PlanFault.{PlanFault}
use Rattle.zs_run.specs.declared.plan_fault.PlanFault.TheVariants as faults
use Rattle.zs_lines.specs.Buffers.{LineRead, Took}
use Rattle.zs_population.specs.Population.{jobs_at}
use Rattle.zs_population.specs.Reads.{AddsJob, BlockFault, BlockReads, BlockRefused, HeadFault}
use Rattle.zs_population.specs.Reads.{IsNoJob, line_fault_of, names_of}
use Rattle.zs_lines.specs.declared.buffer.LineFault.{LineFault}
use Rattle.zs_lines.specs.declared.buffer.LineFault.TheVariants as unread
use Rattle.zs_lines.proofs.LineLemmas.{begins, begins-more, took-more, took-nothing}
use Rattle.zs_population.proofs.JobsLemmas.{job-at-fault, jobs-joined, jobs-length, jobs-refused}
use Rattle.zs_population.proofs.JobsLemmas.{one-job, one-refused}
use Rattle.zs_population.proofs.RangeLemmas.{head-refused}

-- ---- lines that are too long

head-too-long : (line : List ℕ) → max_bytes < length line → head_of line ≡ Err faults.TooLong
unfolding head_of
head-too-long line long = rw (lt-leb (length line) max_bytes long) refl

job-too-long : (number : ℕ) (names : List (List ℕ)) (line : List ℕ) → max_bytes < length line →
    job_of_bytes number names line ≡ Err faults.TooLong
unfolding job_of_bytes
job-too-long number names line long = rw (lt-leb (length line) max_bytes long) refl

-- ---- the head

-- the first line can't be read
pub head-unread : (old now : Option (List ℕ)) (line : List ℕ) (fault : LineFault) →
    LineRead max_bytes (Err fault) old now line → HeadFault old (line_fault_of 1 fault)
head-unread old now line unread.Read read = tt
head-unread old now line unread.TooLong read = (
  refl,
  λ other range. head-refused range old read.0 faults.TooLong
      (head-too-long read.0 read.1) read.2,
)
head-unread old now line unread.Memory read = (refl, λ other. absurd (other refl))

-- ---- the jobs

-- no line yet
pub reads-nothing : (first : ℕ) (old : Option (List ℕ)) (known : BTreeSet (String Global)) →
    BlockReads first old old known known []
unfolding jobs_at
reads-nothing first old known earlier knows =
    ([], took-nothing old, refl, rw (append-nil earlier) knows)

-- one job more
pub reads-more : (first number : ℕ) (old mid now : Option (List ℕ))
    (known names more : BTreeSet (String Global)) (line : List ℕ) (jobs after : List JobRecord)
    → number ≡ first + length jobs → BlockReads first old mid known names jobs
    → Took mid now (line ∷ []) → AddsJob number names more line jobs after
    → BlockReads first old now known more after
reads-more first number old mid now known names more line jobs after is reads took adds
    earlier knows =
    let b = reads earlier knows in
    let a = adds (earlier ++ names_of jobs) b.3 in
    let one : jobs_at (first + length jobs) (earlier ++ names_of jobs) (line ∷ []) ≡ Ok (a.0 ∷ []) =
    one-job (first + length jobs) (earlier ++ names_of jobs) line a.0 (rw is at a.1) in
    let names_are : (earlier ++ names_of jobs) ++ a.0.name ∷ [] ≡ earlier ++ names_of after =
    append_assoc earlier (names_of jobs) (a.0.name ∷ [])
    ∙ ap (λ ns. earlier ++ ns)
    (sym (map-append (λ (job : JobRecord). job.name) jobs (a.0 ∷ [])))
    ∙ ap (λ js. earlier ++ names_of js) (sym a.2) in (
      b.0 ++ line ∷ [],
      took-more old mid now b.0 (line ∷ []) b.1 took,
      jobs-joined first earlier b.0 (line ∷ []) jobs (a.0 ∷ []) b.2 one
          ∙ ap (λ js. Ok js) (sym a.2),
      rw names_are at a.3,
    )

-- no line remains
pub reads-all : (first : ℕ) (old mid now : Option (List ℕ)) (known names : BTreeSet (String Global))
    (jobs : List JobRecord)
    → BlockReads first old mid known names jobs → Took mid now []
    → BlockReads first old now known names jobs
reads-all first old mid now known names jobs reads took earlier knows =
    let b = reads earlier knows in
    let P : List (List ℕ) → Type 0 = λ lines. Took old now lines in
    (b.0, subst P (append-nil b.0) (took-more old mid now b.0 [] b.1 took), b.2, b.3)

-- the lines of some jobs, and one more
one-more : (first k : ℕ) (earlier lines : List (List ℕ)) (line : List ℕ) (jobs : List JobRecord) →
    jobs_at first earlier lines ≡ Ok jobs → k ≡ length jobs → length (lines ++ line ∷ []) ≡ k + 1
one-more first k earlier lines line jobs are count =
    omega (arith, length-append lines (line ∷ []), jobs-length first earlier lines jobs are, count)

-- the line after some jobs can't be read
pub block-unread : (first size k number : ℕ) (old mid now : Option (List ℕ))
    (known names : BTreeSet (String Global)) (line : List ℕ) (jobs : List JobRecord)
    (fault : LineFault)
    → k ≡ length jobs → number ≡ first + k → k < size → BlockReads first old mid known names jobs
    → LineRead max_bytes (Err fault) mid now line
    → BlockFault first size old known (line_fault_of (number + 2) fault)
block-unread first size k number old mid now known names line jobs unread.Read count is few
    reads read = tt
block-unread first size k number old mid now known names line jobs unread.TooLong count is few
    reads read = (
      k,
      ap (λ n. n + 2) is,
      few,
      λ other earlier knows.
          let b = reads earlier knows in
          let place : number ≡ first + length jobs = is ∙ ap (λ n. first + n) count in
          let refused = one-refused number (earlier ++ names_of jobs) read.0 [] _
          (job-at-fault number (earlier ++ names_of jobs) read.0 faults.TooLong
          (job-too-long number (earlier ++ names_of jobs) read.0 read.1)) in (
            b.0 ++ read.0 ∷ [],
            one-more first k earlier b.0 read.0 jobs b.2 count,
            begins-more old mid b.0 (read.0 ∷ []) b.1 read.2,
            jobs-refused first earlier b.0 (read.0 ∷ []) jobs
                (record { line = number + 2; fault = faults.TooLong }) b.2
                (ap (λ n. jobs_at n (earlier ++ names_of jobs) (read.0 ∷ [])) (sym place)
                ∙ refused),
          ),
    )
block-unread first size k number old mid now known names line jobs unread.Memory count is few
    reads read =
    (k, ap (λ n. n + 2) is, few, λ other. absurd (other refl))

-- the line after some jobs is no job
pub block-refused : (first k number : ℕ) (old mid now : Option (List ℕ))
    (known names : BTreeSet (String Global)) (line : List ℕ) (jobs : List JobRecord)
    (fault : PlanFault)
    → k ≡ length jobs → number ≡ first + k → BlockReads first old mid known names jobs
    → Took mid now (line ∷ []) → IsNoJob number names line fault
    → fault ≢ faults.Memory
    → BlockRefused first (k + 1) old known (record { line = number + 2; fault = fault })
block-refused first k number old mid now known names line jobs fault count is reads took isnt other
    earlier knows =
    let b = reads earlier knows in
    let place : number ≡ first + length jobs = is ∙ ap (λ n. first + n) count in
    let refused = one-refused number (earlier ++ names_of jobs) line [] _
    (isnt other (earlier ++ names_of jobs) b.3) in (
      b.0 ++ line ∷ [],
      one-more first k earlier b.0 line jobs b.2 count,
      begins old now (b.0 ++ line ∷ []) (took-more old mid now b.0 (line ∷ []) b.1 took),
      jobs-refused first earlier b.0 (line ∷ []) jobs (record { line = number + 2; fault = fault })
          b.2
          (ap (λ n. jobs_at n (earlier ++ names_of jobs) (line ∷ [])) (sym place) ∙ refused),
    )

-- the fault of a line is a failed read only if reading failed
pub unread-read : (line : ℕ) (fault : LineFault) →
    line_fault_of line fault ≡ line_fault_of line unread.Read → fault ≡ unread.Read
unread-read line unread.Read is = refl
unread-read line unread.TooLong is =
    absurd (let no : line_fault_of line unread.TooLong ≡ line_fault_of line unread.Read = is in cc)
unread-read line unread.Memory is =
    absurd (let no : line_fault_of line unread.Memory ≡ line_fault_of line unread.Read = is in cc)
