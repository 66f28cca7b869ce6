-- The jobs of lines that are put together.
use Rattle.std.proofs.Common.{◌≡◌, ◌<◌, ◌≤◌, ◌+◌, ℕ, suc, List, [], ◌∷◌, ◌++◌, length, Result, Ok}
use Rattle.std.proofs.Common.{Err, None, refl, sym, ap, ◌∙◌, append_assoc, append-nil, arith, subst}
use Rattle.std.proofs.lemmas.Bool.{le-ltb, lt-ltb}
use Rattle.zs_drive.specs.Values.{JobRecord}
use Rattle.zs_run.specs.declared.plan_fault.PlanFault.{PlanFault}
use Rattle.zs_run.specs.declared.plan_fault.PlanFault.TheVariants as faults
use Rattle.zs_run.specs.Head.{job_of_bytes}
use Rattle.zs_population.specs.Population.{RejectedLine, job_at, jobs_at, max_population, ◌>>=◌}
use Rattle.zs_population.specs.Reads.{names_of}

abbrev Jobs : Type 0
Jobs = Result (List JobRecord) RejectedLine

-- jobs in front of what comes next
abbrev behind : List JobRecord → Jobs → Jobs
behind front rest = rest >>= (λ jobs. Ok (front ++ jobs))

behind-none : (rest : Jobs) → behind [] rest ≡ rest
behind-none (Ok jobs) = refl
behind-none (Err e) = refl

behind-one : (job : JobRecord) (front : List JobRecord) (rest : Jobs) →
    behind front rest >>= (λ jobs. Ok (job ∷ jobs)) ≡ behind (job ∷ front) rest
behind-one job front (Ok jobs) = refl
behind-one job front (Err e) = refl

-- what was found first, if all was found
pub found : {A B : Type 0} (r : Result A RejectedLine) (f : A → Result B RejectedLine) (b : B) →
    r >>= f ≡ Ok b → (a : A) × (r ≡ Ok a) × (f a ≡ Ok b)
found (Ok a) f b is = (a, refl, is)
found (Err e) f b is = absurd (let no : Err e ≡ Ok b = is in cc)

-- what comes after one job more
step-append : (number : ℕ) (names : List (List ℕ)) (x : List ℕ) (rest : List (List ℕ))
    (ys : List (List ℕ)) (job : JobRecord) (jobs : List JobRecord)
    → job_at number names x ≡ Ok job
    → jobs_at (number + 1) (names ++ job.name ∷ []) rest
    ≡ behind jobs (jobs_at (number + 1 + length jobs) ((names ++ job.name ∷ []) ++ names_of jobs)
    ys)
    → jobs_at number names (x ∷ rest) ≡ behind (job ∷ jobs) (jobs_at (number + length (job ∷ jobs))
    (names ++ names_of (job ∷ jobs)) ys)
unfolding jobs_at
step-append number names x rest ys job jobs is later =
    let place : number + 1 + length jobs ≡ number + length (job ∷ jobs) = omega arith in
    let known : (names ++ job.name ∷ []) ++ names_of jobs ≡ names ++ names_of (job ∷ jobs) =
    append_assoc names (job.name ∷ []) (names_of jobs) in
    ap (λ r. r >>= (λ one. jobs_at (number + 1) (names ++ one.name ∷ []) rest >>=
    (λ more. Ok (one ∷ more)))) is
    ∙ ap (λ r. r >>= (λ more. Ok (job ∷ more))) later
    ∙ behind-one job jobs
    (jobs_at (number + 1 + length jobs) ((names ++ job.name ∷ []) ++ names_of jobs) ys)
    ∙ ap (λ n. behind (job ∷ jobs) (jobs_at n ((names ++ job.name ∷ []) ++ names_of jobs) ys)) place
    ∙ ap (λ ns. behind (job ∷ jobs) (jobs_at (number + length (job ∷ jobs)) ns ys)) known

-- Lines after lines that are jobs.
pub jobs-append : (number : ℕ) (names : List (List ℕ)) (xs ys : List (List ℕ))
    (jobs : List JobRecord) → jobs_at number names xs ≡ Ok jobs
    → jobs_at number names (xs ++ ys)
    ≡ behind jobs (jobs_at (number + length jobs) (names ++ names_of jobs) ys)
unfolding jobs_at
jobs-append number names [] ys jobs are =
    let none : jobs ≡ [] = (let e : Ok [] ≡ Ok jobs = are in cc) in
    let place : number ≡ number + 0 = omega arith in
    sym (behind-none (jobs_at number names ys))
    ∙ ap (λ n. behind [] (jobs_at n names ys)) place
    ∙ ap (λ ns. behind [] (jobs_at (number + 0) ns ys)) (sym (append-nil names))
    ∙ ap (λ js. behind js (jobs_at (number + length js) (names ++ names_of js) ys)) (sym none)
jobs-append number names (x ∷ xs) ys jobs are =
    let one = found (job_at number names x) (λ job. jobs_at (number + 1) (names ++ job.name ∷ []) xs
    >>= (λ jobs. Ok (job ∷ jobs))) jobs are in
    let job : JobRecord = one.0 in
    let rest = found (jobs_at (number + 1) (names ++ job.name ∷ []) xs) (λ jobs. Ok (job ∷ jobs))
    jobs one.2 in
    let all : job ∷ rest.0 ≡ jobs = (let e : Ok (job ∷ rest.0) ≡ Ok jobs = rest.2 in cc) in
    let P : List JobRecord → Type 0 =
    λ js. jobs_at number names (x ∷ xs ++ ys)
    ≡ behind js (jobs_at (number + length js) (names ++ names_of js) ys) in
    subst P all (step-append number names x (xs ++ ys) ys job rest.0 one.1
    (jobs-append (number + 1) (names ++ job.name ∷ []) xs ys rest.0 rest.1))

-- more jobs
pub jobs-joined : (number : ℕ) (names : List (List ℕ)) (xs ys : List (List ℕ))
    (jobs more : List JobRecord) → jobs_at number names xs ≡ Ok jobs
    → jobs_at (number + length jobs) (names ++ names_of jobs) ys ≡ Ok more
    → jobs_at number names (xs ++ ys) ≡ Ok (jobs ++ more)
jobs-joined number names xs ys jobs more are next =
    jobs-append number names xs ys jobs are ∙ ap (behind jobs) next

-- a line that is rejected
pub jobs-refused : (number : ℕ) (names : List (List ℕ)) (xs ys : List (List ℕ))
    (jobs : List JobRecord) (refusal : RejectedLine) → jobs_at number names xs ≡ Ok jobs
    → jobs_at (number + length jobs) (names ++ names_of jobs) ys ≡ Err refusal
    → jobs_at number names (xs ++ ys) ≡ Err refusal
jobs-refused number names xs ys jobs refusal are next =
    jobs-append number names xs ys jobs are ∙ ap (behind jobs) next

-- one job
pub one-job : (number : ℕ) (names : List (List ℕ)) (line : List ℕ) (job : JobRecord)
    → job_at number names line ≡ Ok job
    → jobs_at number names (line ∷ []) ≡ Ok (job ∷ [])
unfolding jobs_at
one-job number names line job is = rw is refl

-- one line that is rejected, and any after it
pub one-refused : (number : ℕ) (names : List (List ℕ)) (line : List ℕ) (rest : List (List ℕ))
    (refusal : RejectedLine) → job_at number names line ≡ Err refusal
    → jobs_at number names (line ∷ rest) ≡ Err refusal
unfolding jobs_at
one-refused number names line rest refusal is = rw is refl

refused-on : {A B : Type 0} (r : Result A RejectedLine) (f g : A → Result B RejectedLine)
    (refusal : RejectedLine) → ((a : A) → f a ≡ Err refusal → g a ≡ Err refusal)
    → r >>= f ≡ Err refusal → r >>= g ≡ Err refusal
refused-on (Ok a) f g refusal goes is = goes a is
refused-on (Err e) f g refusal goes is = let same : Err e ≡ Err refusal = is in cc

refused-before : (job : JobRecord) (rest : Jobs) (refusal : RejectedLine) →
    rest >>= (λ jobs. Ok (job ∷ jobs)) ≡ Err refusal → rest ≡ Err refusal
refused-before job (Ok jobs) refusal is = absurd (let no : Ok (job ∷ jobs) ≡ Err refusal = is in cc)
refused-before job (Err e) refusal is = let same : Err e ≡ Err refusal = is in cc

-- What comes after a rejected line changes nothing.
pub refused-stays : (number : ℕ) (names : List (List ℕ)) (xs ys : List (List ℕ))
    (refusal : RejectedLine) → jobs_at number names xs ≡ Err refusal
    → jobs_at number names (xs ++ ys) ≡ Err refusal
unfolding jobs_at
refused-stays number names [] ys refusal is = absurd (let no : Ok [] ≡ Err refusal = is in cc)
refused-stays number names (x ∷ xs) ys refusal is =
    refused-on (job_at number names x) (λ job. jobs_at (number + 1) (names ++ job.name ∷ []) xs >>=
    (λ jobs. Ok (job ∷ jobs)))
    (λ job. jobs_at (number + 1) (names ++ job.name ∷ []) (xs ++ ys) >>= (λ jobs. Ok (job ∷ jobs)))
    refusal
    (λ job here. ap (λ r. r >>= (λ jobs. Ok (job ∷ jobs)))
    (refused-stays (number + 1) (names ++ job.name ∷ []) xs ys refusal
    (refused-before job (jobs_at (number + 1) (names ++ job.name ∷ []) xs) refusal here))) is

-- the jobs, if all lines are jobs
abbrev jobs_in : Jobs → List JobRecord
jobs_in (Ok jobs) = jobs
jobs_in (Err e) = []

-- each line has a job
pub jobs-length : (number : ℕ) (names : List (List ℕ)) (xs : List (List ℕ))
    (jobs : List JobRecord) → jobs_at number names xs ≡ Ok jobs → length xs ≡ length jobs
unfolding jobs_at
jobs-length number names [] jobs are = let none : Ok [] ≡ Ok jobs = are in
    ap (λ r. length (jobs_in r)) none
jobs-length number names (x ∷ xs) jobs are =
    let one = found (job_at number names x) (λ job. jobs_at (number + 1) (names ++ job.name ∷ []) xs
    >>= (λ jobs. Ok (job ∷ jobs))) jobs are in
    let rest = found (jobs_at (number + 1) (names ++ one.0.name ∷ []) xs)
    (λ jobs. Ok (one.0 ∷ jobs)) jobs one.2 in
    let all : Ok (one.0 ∷ rest.0) ≡ Ok jobs = rest.2 in
    ap suc (jobs-length (number + 1) (names ++ one.0.name ∷ []) xs rest.0 rest.1)
    ∙ ap (λ r. length (jobs_in r)) all

-- ---- single jobs

-- a line that is a job with a number that a population may have
pub job-at-ok : (number : ℕ) (names : List (List ℕ)) (line : List ℕ) (job : JobRecord)
    → job_of_bytes number names line ≡ Ok job
    → number < max_population → job_at number names line ≡ Ok job
unfolding job_at
job-at-ok number names line job is few = rw (is, lt-ltb number max_population few) refl

pub job-at-range : (number : ℕ) (names : List (List ℕ)) (line : List ℕ) (job : JobRecord)
    → job_of_bytes number names line ≡ Ok job
    → max_population ≤ number
    → job_at number names line ≡ Err (record { line = number + 2; fault = faults.Range None })
unfolding job_at
job-at-range number names line job is many = rw (is, le-ltb number max_population many) refl

pub job-at-fault : (number : ℕ) (names : List (List ℕ)) (line : List ℕ) (fault : PlanFault)
    → job_of_bytes number names line ≡ Err fault
    → job_at number names line ≡ Err (record { line = number + 2; fault = fault })
unfolding job_at
job-at-fault number names line fault is = rw is refl
