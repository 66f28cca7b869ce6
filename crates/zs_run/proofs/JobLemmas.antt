-- A loop over the jobs of a plan.
use Rattle.std.proofs.Common.{◌≡◌, ℕ, ◌+◌, List, [], ◌∷◌, ◌++◌, map, Result, Ok, Err, refl, sym, ap}
use Rattle.std.proofs.Common.{append_assoc, append-nil}
use Rattle.serde_json.specs.declared.value.Value.{Value}
use Rattle.zs_drive.specs.Values.{JobRecord, job_record}
use Rattle.zs_drive.specs.declared.job.Job.{Job}
use Rattle.zs_run.specs.declared.plan_fault.PlanFault.{PlanFault}
use Rattle.zs_run.specs.Refusals.{◌>>=◌}
use Rattle.zs_run.specs.Jobs.{job_of, jobs_of}
use Rattle.serde_json.specs.View.{view}

-- the names of jobs
abbrev pub names_of : List Job → List (List ℕ)
names_of jobs = map (λ job. (job_record job).name) jobs

-- the jobs so far, and then those of the rest
abbrev pub after : List JobRecord → Result (List JobRecord) PlanFault →
    Result (List JobRecord) PlanFault
after front rest = rest >>= (λ jobs. Ok (front ++ jobs))

-- no job so far
pub after_none : (rest : Result (List JobRecord) PlanFault) → after [] rest ≡ rest
after_none (Ok jobs) = refl
after_none (Err e) = refl

after_push : (front : List JobRecord) (job : JobRecord) (rest : Result (List JobRecord) PlanFault)
    → after front (rest >>= (λ jobs. Ok (job ∷ jobs))) ≡ after (front ++ job ∷ []) rest
after_push front job (Ok jobs) = ap Ok (sym (append_assoc front (job ∷ []) jobs))
after_push front job (Err e) = refl

-- one more job
pub after_step : (front : List JobRecord) (number : ℕ) (names : List (List ℕ)) (value : Value)
    (rest : List Value) (job : JobRecord)
    → job_of number names (view value) ≡ Ok job
    → after front (jobs_of number names (map view (value ∷ rest)))
    ≡ after (front ++ job ∷ []) (jobs_of (number + 1) (names ++ job.name ∷ []) (map view rest))
unfolding jobs_of
after_step front number names value rest job given = rw given (after_push front job _)

-- a fault of a job
pub after_fault : (front : List JobRecord) (number : ℕ) (names : List (List ℕ)) (value : Value)
    (rest : List Value) (fault : PlanFault)
    → job_of number names (view value) ≡ Err fault
    → after front (jobs_of number names (map view (value ∷ rest))) ≡ Err fault
unfolding jobs_of
after_fault front number names value rest fault given = rw given refl

-- no more jobs
pub after_all : (front : List JobRecord) (number : ℕ) (names : List (List ℕ)) →
    after front (jobs_of number names []) ≡ Ok front
unfolding jobs_of
after_all front number names = ap Ok (append-nil front)
