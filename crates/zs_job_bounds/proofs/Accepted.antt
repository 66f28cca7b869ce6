-- Each number of an accepted plan's scripts has 64 bits.
use Rattle.std.proofs.Common.{◌≡◌, ℕ, zero, suc, ◌+◌, ◌&&◌, List, [], ◌∷◌, ◌++◌, length, Bool, true, false, not, nat_lt, nat_le, Option, Some, None, Result, Ok, Err, if◌then◌else◌, codes, subst, arith}
use Rattle.std.specs.Prelude.{⊤, ◌==◌}
use Rattle.std.specs.List.{All, AllByRecursion, list_all, list_any}
use Rattle.serde_json.specs.Data.{Data}
use Rattle.serde_json.specs.Find.{get}
use Rattle.zs_agenda.specs.Tests.{is_clock}
use Rattle.zs_term.specs.Verdict.{verdict_of}
use Rattle.zs_effect.specs.declared.script.Beat.{Beat}
use Rattle.zs_effect.specs.declared.script.ScriptFault.{ScriptFault}
use Rattle.zs_effect.specs.declared.script.ScriptFault.TheVariants.{Empty, TooLong, ZeroMs}
use Rattle.zs_effect.specs.Scripts.{max_beats}
use Rattle.zs_drive.specs.Values.{JobRecord}
use Rattle.zs_run.specs.declared.plan_fault.PlanFault.{PlanFault}
use Rattle.zs_run.specs.declared.plan_fault.PlanFault.TheVariants as faults
use Rattle.zs_run.specs.Refusals.{◌>>=◌, demand, demand_some, passed_on}
use Rattle.zs_run.specs.Tree.{tree_of, all_of, is_one_of, has_only_keys}
use Rattle.zs_run.specs.Shapes.{beat_of, entry_keys, job_keys, job_parts, document_keys, document_parts, ticks_asked}
use Rattle.zs_run.specs.Jobs.{mode_of, is_name, script_of, job_of, jobs_of}
use Rattle.zs_run.specs.Plan.{PlanRecord, is_cut, max_bytes, max_jobs, document_of, plan_of_tree, plan_of}
use Rattle.zs_job_bounds.specs.Histories.{HasInputs}
use Rattle.zs_job_bounds.proofs.Numbers.{There, DataFits, BeatFits, EntriesFit, JobsFit, read-fits, beats-fit, parts-fit, document-fits}

-- ---- what was accepted

-- what was accepted has property P
abbrev Accepted : {A E : Type 0} → (A → Type 0) → Result A E → Type 0
Accepted P (Ok a) = P a
Accepted P (Err e) = ⊤

accepted-next : {A B : Type 0} (P : A → Type 0) (Q : B → Type 0) (f : A → Result B PlanFault) → ((a : A) → P a → Accepted Q (f a))
    → (r : Result A PlanFault) → Accepted P r → Accepted Q (r >>= f)
accepted-next P Q f k (Ok a) h = k a h
accepted-next P Q f k (Err e) h = tt

any-accepted : {A E : Type 0} (r : Result A E) → Accepted (λ _. ⊤) r
any-accepted (Ok a) = tt
any-accepted (Err e) = tt

-- a check that says nothing about numbers
accepted-after : {A B : Type 0} (Q : B → Type 0) (f : A → Result B PlanFault) → ((a : A) → Accepted Q (f a)) → (r : Result A PlanFault) → Accepted Q (r >>= f)
accepted-after Q f k r = accepted-next (λ _. ⊤) Q f (λ a x. k a) r (any-accepted r)

accepted-some : {A : Type 0} (P : A → Type 0) (fault : PlanFault) (o : Option A) → There P o → Accepted P (demand_some o fault)
accepted-some P fault None h = tt
accepted-some P fault (Some a) h = h

accepted-passed : {A E : Type 0} (P : A → Type 0) (wrap : E → PlanFault) (r : Result A E) → Accepted P r → Accepted P (passed_on wrap r)
accepted-passed P wrap (Ok a) h = h
accepted-passed P wrap (Err e) h = tt

accepted-unless : {A E : Type 0} (P : A → Type 0) (b : Bool) (e : E) (r : Result A E) → Accepted P r → Accepted P (if b then Err e else r)
accepted-unless P true e r h = tt
accepted-unless P false e r h = h

-- ---- jobs

script-fits : (beats : List Beat) → AllByRecursion BeatFits beats → Accepted (AllByRecursion BeatFits) (script_of beats)
unfolding script_of
script-fits beats h =
    let timed : Result (List Beat) ScriptFault = if list_any (λ b. b.ms == 0) beats then Err ZeroMs else Ok beats in
    let few : Result (List Beat) ScriptFault = if nat_lt max_beats (length beats) then Err TooLong else timed in
    accepted-unless (AllByRecursion BeatFits) (length beats == 0) Empty few
    (accepted-unless (AllByRecursion BeatFits) (nat_lt max_beats (length beats)) TooLong timed
    (accepted-unless (AllByRecursion BeatFits) (list_any (λ b. b.ms == 0) beats) ZeroMs (Ok beats) h))

-- the numbers of a job's script fit
abbrev ScriptFits : JobRecord → Type 0
ScriptFits job = AllByRecursion BeatFits job.script

job-fits : (n : ℕ) (names : List (List ℕ)) (d : Data) → DataFits d → Accepted ScriptFits (job_of n names d)
unfolding job_of
job-fits n names d h =
    accepted-next EntriesFit ScriptFits _
    (λ parts entries. accepted-next (AllByRecursion BeatFits) ScriptFits _
    (λ beats fit. accepted-after ScriptFits _
    (λ x. accepted-after ScriptFits _
    (λ mode. accepted-after ScriptFits _
    (λ x. accepted-after ScriptFits _
    (λ x. accepted-after ScriptFits _
    (λ schedule. accepted-next (AllByRecursion BeatFits) ScriptFits _ (λ script f. f) (passed_on (faults.Script n) (script_of beats))
    (accepted-passed (AllByRecursion BeatFits) (faults.Script n) (script_of beats) (script-fits beats fit)))
    (passed_on (faults.Schedule n) (verdict_of parts.schedule)))
    (demand (not (is_one_of names parts.name)) (faults.SameName n)))
    (demand (is_name parts.name) (faults.Name n)))
    (demand_some (mode_of parts.mode) (faults.Range (Some n))))
    (demand (has_only_keys job_keys d && list_all (has_only_keys entry_keys) parts.entries) (faults.UnknownKey (Some n))))
    (demand_some (all_of beat_of parts.entries) (faults.Shape (Some n)))
    (accepted-some (AllByRecursion BeatFits) (faults.Shape (Some n)) (all_of beat_of parts.entries) (beats-fit parts.entries entries)))
    (demand_some (job_parts d) (faults.Shape (Some n))) (accepted-some EntriesFit (faults.Shape (Some n)) (job_parts d) (parts-fit d h))

jobs-fit : (n : ℕ) (names : List (List ℕ)) (ds : List Data) → AllByRecursion DataFits ds → Accepted (AllByRecursion ScriptFits) (jobs_of n names ds)
unfolding jobs_of
jobs-fit n names [] h = tt
jobs-fit n names (d ∷ ds) h =
    accepted-next ScriptFits (AllByRecursion ScriptFits) _
    (λ job f. accepted-next (AllByRecursion ScriptFits) (AllByRecursion ScriptFits) _ (λ jobs g. (f, g)) (jobs_of (n + 1) (names ++ job.name ∷ []) ds)
    (jobs-fit (n + 1) (names ++ job.name ∷ []) ds h.1))
    (job_of n names d) (job-fits n names d h.0)

-- ---- plans

-- the numbers of a plan's scripts fit
abbrev PlanFits : PlanRecord → Type 0
PlanFits plan = AllByRecursion ScriptFits plan.jobs

tree-fits : (d : Data) → DataFits d → Accepted PlanFits (plan_of_tree d)
unfolding plan_of_tree
tree-fits d h =
    accepted-after PlanFits _
    (λ clock. accepted-next JobsFit PlanFits _
    (λ parts jobs. accepted-after PlanFits _
    (λ x. accepted-after PlanFits _
    (λ x. accepted-next (AllByRecursion ScriptFits) PlanFits _ (λ made f. f) (jobs_of 0 [] parts.jobs) (jobs-fit 0 [] parts.jobs jobs))
    (demand (is_clock clock && is_cut parts.workers parts.grain && nat_le (length parts.jobs) max_jobs) (faults.Range None)))
    (demand (has_only_keys document_keys d) (faults.UnknownKey None)))
    (demand_some (document_parts d) (faults.Shape None)) (accepted-some JobsFit (faults.Shape None) (document_parts d) (document-fits d h)))
    (demand_some (ticks_asked (get (codes "horizon") d) (get (codes "ticks") d)) (faults.Shape None))

plan-fits : (bytes : List ℕ) → Accepted PlanFits (plan_of bytes)
unfolding plan_of
plan-fits bytes =
    accepted-next DataFits PlanFits plan_of_tree tree-fits (document_of bytes)
    (accepted-after DataFits _
    (λ x. accepted-some DataFits faults.Json (tree_of bytes) (read-fits bytes))
    (demand (nat_le (length bytes) max_bytes) faults.TooLong))

-- ---- as the laws say it

all-more : {X : Type 0} (Q : X → Type 0) (y : X) (ys : List X) → Q y → All Q ys → All Q (y ∷ ys)
all-more Q y ys here rest zero d inside = here
all-more Q y ys here rest (suc k) d inside = rest k d (omega arith)

all_at : {X : Type 0} (P Q : X → Type 0) → ((x : X) → P x → Q x) → (xs : List X) → AllByRecursion P xs → All Q xs
all_at P Q f [] h = λ k d inside. absurd (omega arith)
all_at P Q f (x ∷ xs) h = all-more Q x xs (f x h.0) (all_at P Q f xs h.1)

pub plan-inputs : (bytes : List ℕ) (plan : PlanRecord) → plan_of bytes ≡ Ok plan → All (λ (job : JobRecord). HasInputs job.script) plan.jobs
plan-inputs bytes plan is =
    all_at ScriptFits (λ (job : JobRecord). HasInputs job.script) (λ job f. all_at BeatFits BeatFits (λ beat g. g) job.script f) plan.jobs (subst (Accepted PlanFits) is (plan-fits bytes))
