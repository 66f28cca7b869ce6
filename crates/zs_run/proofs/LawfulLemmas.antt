-- A plan that is accepted passed every check.
use Rattle.std.proofs.Common.{◌≡◌, ◌≤◌, ◌+◌, ◌&&◌, ◌||◌, ℕ, suc, zero, List, [], ◌∷◌, ◌++◌, length}
use Rattle.std.proofs.Common.{map, Bool, true, false, not}
use Rattle.std.proofs.Common.{nat_le, Option, Some, None, Result, Ok, Err, codes, subst, refl, sym}
use Rattle.std.proofs.Common.{ap, ◌∙◌, arith}
use Rattle.std.specs.Prelude.{⊤, MatchResult}
use Rattle.std.specs.List.{All, AllByRecursion, IsDistinct, list_all}
use Rattle.std.specs.Str.{bytes_eq}
use Rattle.std.proofs.lemmas.Bool.Decides.{nat_tests}
use Rattle.std.proofs.lemmas.List.Folds.{list_any-append}
use Rattle.serde_json.specs.Data.{Data}
use Rattle.serde_json.specs.Find.{get}
use Rattle.zs_agenda.specs.Ticks.{Ticks}
use Rattle.zs_agenda.specs.Tests.{is_clock}
use Rattle.zs_agenda.proofs.TestLemmas.{clock_passed}
use Rattle.zs_term.specs.Schedule.{Schedule}
use Rattle.zs_term.specs.Kinds.{IsSchedule}
use Rattle.zs_term.specs.Causes.{SpellsSchedule, IsCause}
use Rattle.zs_term.specs.Verdict.{verdict_of}
use Rattle.zs_term.specs.declared.fault.TermFault.{TermFault}
use Rattle.zs_term.specs.declared.fault.TermFault.TheVariants as terms
use Rattle.zs_term.proofs.Computed.{verdict_is_the_one}
use Rattle.zs_effect.specs.declared.script.Beat.{Beat}
use Rattle.zs_effect.specs.Scripts.{IsScript}
use Rattle.zs_drive.specs.Values.{JobRecord}
use Rattle.zs_drive.specs.declared.job.Mode.{Mode}
use Rattle.zs_pool.specs.Limits.{max_workers, max_tasks}
use Rattle.zs_pool.specs.Batches.{IsCut}
use Rattle.zs_run.specs.declared.plan_fault.PlanFault.{PlanFault}
use Rattle.zs_run.specs.declared.plan_fault.PlanFault.TheVariants as faults
use Rattle.zs_run.specs.Refusals.{◌>>=◌, demand, demand_some, passed_on}
use Rattle.zs_run.specs.Tree.{all_of, is_one_of, has_only_keys}
use Rattle.zs_run.specs.Shapes.{JobParts, DocumentParts, beat_of, entry_keys, job_keys, job_parts}
use Rattle.zs_run.specs.Shapes.{document_keys, document_parts, ticks_asked}
use Rattle.zs_run.specs.Jobs.{mode_of, is_name, script_of, job_of, jobs_of}
use Rattle.zs_run.specs.Plan.{PlanRecord, is_cut, max_jobs, document_of, plan_of_tree, plan_of}
use Rattle.zs_run.specs.Lawful.{IsLawfulJob, IsLawful}
use Rattle.zs_run.proofs.ScriptLemmas.{script_given}

-- ---- what a passed step implies

passed : {A B : Type 0} (r : Result A PlanFault) (f : A → Result B PlanFault) (b : B) →
    (r >>= f) ≡ Ok b → (a : A) × (r ≡ Ok a) × (f a ≡ Ok b)
passed (Ok a) f b h = (a, refl, h)
passed (Err e) f b h = absurd (let e : Err e ≡ Ok b = h in cc)

demanded : (test : Bool) (fault : PlanFault) (x : ⊤) → demand test fault ≡ Ok x → test ≡ true
demanded true fault x h = refl
demanded false fault x h = absurd (let e : Err fault ≡ Ok x = h in cc)

was_there : {A : Type 0} (o : Option A) (fault : PlanFault) (x : A) →
    demand_some o fault ≡ Ok x → o ≡ Some x
was_there None fault x h = absurd (let e : Err fault ≡ Ok x = h in cc)
was_there (Some y) fault x h = let e : Ok y ≡ Ok x = h in let same : y ≡ x = cc in ap Some same

came_on : {A E : Type 0} (wrap : E → PlanFault) (r : Result A E) (x : A) →
    passed_on wrap r ≡ Ok x → r ≡ Ok x
came_on wrap (Ok y) x h = let e : Ok y ≡ Ok x = h in let same : y ≡ x = cc in ap Ok same
came_on wrap (Err e) x h = absurd (let e : Err (wrap e) ≡ Ok x = h in cc)

-- ---- tests

and_left : (a b : Bool) → (a && b) ≡ true → a ≡ true
and_left true b h = refl
and_left false b h = h

and_right : (a b : Bool) → (a && b) ≡ true → b ≡ true
and_right true b h = h
and_right false b h = absurd (let e : false ≡ true = h in cc)

or_left : (a b : Bool) → (a || b) ≡ false → a ≡ false
or_left true b h = h
or_left false b h = refl

or_right : (a b : Bool) → (a || b) ≡ false → b ≡ false
or_right true b h = absurd (let e : true ≡ false = h in cc)
or_right false b h = h

denied : (a : Bool) → not a ≡ true → a ≡ false
denied true h = absurd (let e : false ≡ true = h in cc)
denied false h = refl

-- ---- scripts and schedules

all_at : {X : Type 0} (P : X → Type 0) (xs : List X) → AllByRecursion P xs → All P xs
all_at P [] h = λ k d inside. absurd (omega arith)
all_at P (x ∷ xs) h = at P x xs h.0 (all_at P xs h.1)
  where
    at : {X : Type 0} (P : X → Type 0) (x : X) (xs : List X) → P x → All P xs → All P (x ∷ xs)
    at P x xs here rest zero d inside = here
    at P x xs here rest (suc k) d inside = rest k d (omega arith)

-- entries that pass all tests are a script
script_is : (beats script : List Beat) → script_of beats ≡ Ok script → IsScript script
script_is beats script h = let is : (script ≡ beats) × IsScript beats =
    (script_given beats script).0 h in subst IsScript (sym is.0) is.1

-- the schedule of a text is valid
schedule_is : (text : List ℕ) (t : Schedule) → verdict_of text ≡ Ok t → IsSchedule t
schedule_is text t h = spelled (verdict_of text) h (verdict_is_the_one text)
  where
    spelled : (r : Result Schedule TermFault) → r ≡ Ok t
        → MatchResult r (λ s. SpellsSchedule text s)
        (λ fault. IsCause text fault × (fault ≡ terms.Memory → ⊥)) → IsSchedule t
    spelled (Ok s) e spells = let same : s ≡ t = cc in subst IsSchedule same spells.schedule
    spelled (Err fault) e cause = absurd cc

-- ---- one job

-- the rest of a job's steps, from each one on
abbrev made : JobParts → Mode → Schedule → List Beat → Result JobRecord PlanFault
made parts mode schedule script = Ok (record {
  name = parts.name;
  mode = mode;
  schedule = schedule;
  start = parts.start;
  script = script;
})

abbrev from_script : ℕ → JobParts → List Beat → Mode → Schedule → Result JobRecord PlanFault
from_script number parts beats mode schedule =
    passed_on (faults.Script number) (script_of beats) >>= made parts mode schedule

abbrev from_schedule : ℕ → JobParts → List Beat → Mode → ⊤ → Result JobRecord PlanFault
from_schedule number parts beats mode x =
    passed_on (faults.Schedule number) (verdict_of parts.schedule) >>= from_script number
    parts beats mode

abbrev from_used : ℕ → List (List ℕ) → JobParts → List Beat → Mode → ⊤ → Result JobRecord PlanFault
from_used number names parts beats mode x =
    demand (not (is_one_of names parts.name)) (faults.SameName number) >>= from_schedule number
    parts beats mode

abbrev from_name : ℕ → List (List ℕ) → JobParts → List Beat → Mode → Result JobRecord PlanFault
from_name number names parts beats mode =
    demand (is_name parts.name) (faults.Name number) >>= from_used number names parts beats mode

abbrev from_mode : ℕ → List (List ℕ) → JobParts → List Beat → ⊤ → Result JobRecord PlanFault
from_mode number names parts beats x =
    demand_some (mode_of parts.mode) (faults.Range (Some number)) >>= from_name number
    names parts beats

abbrev from_keys : ℕ → List (List ℕ) → Data → JobParts → List Beat → Result JobRecord PlanFault
from_keys number names d parts beats = demand (has_only_keys job_keys d
    && list_all (has_only_keys entry_keys) parts.entries) (faults.UnknownKey (Some number))
    >>= from_mode number names parts beats

abbrev from_beats : ℕ → List (List ℕ) → Data → JobParts → Result JobRecord PlanFault
from_beats number names d parts =
    demand_some (all_of beat_of parts.entries) (faults.Shape (Some number)) >>= from_keys number
    names d parts

job_is : (number : ℕ) (names : List (List ℕ)) (d : Data) (job : JobRecord)
    → job_of number names d ≡ Ok job
    → IsLawfulJob job × (is_one_of names job.name ≡ false)
unfolding job_of
job_is number names d job h =
    let a = passed (demand_some (job_parts d) (faults.Shape (Some number)))
    (from_beats number names d) job h in
    let b = passed (demand_some (all_of beat_of a.0.entries) (faults.Shape (Some number)))
    (from_keys number names d a.0) job a.2 in
    let keys : Bool = has_only_keys job_keys d && list_all (has_only_keys entry_keys) a.0.entries in
    let k = passed (demand keys (faults.UnknownKey (Some number)))
    (from_mode number names a.0 b.0) job b.2 in
    let m = passed (demand_some (mode_of a.0.mode) (faults.Range (Some number)))
    (from_name number names a.0 b.0) job k.2 in
    let n = passed (demand (is_name a.0.name) (faults.Name number))
    (from_used number names a.0 b.0 m.0) job m.2 in
    let u = passed (demand (not (is_one_of names a.0.name)) (faults.SameName number))
    (from_schedule number a.0 b.0 m.0) job n.2 in
    let s = passed (passed_on (faults.Schedule number) (verdict_of a.0.schedule))
    (from_script number a.0 b.0 m.0) job u.2 in
    let c = passed (passed_on (faults.Script number) (script_of b.0)) (made a.0 m.0 s.0) job s.2 in
    given a.0 m.0 s.0 c.0 (demanded (is_name a.0.name) (faults.Name number) n.0 n.1)
    (denied (is_one_of names a.0.name)
    (demanded (not (is_one_of names a.0.name)) (faults.SameName number) u.0 u.1))
    (schedule_is a.0.schedule s.0
    (came_on (faults.Schedule number) (verdict_of a.0.schedule) s.0 s.1))
    (script_is b.0 c.0 (came_on (faults.Script number) (script_of b.0) c.0 c.1)) c.2
  where
    given : (parts : JobParts) (mode : Mode) (schedule : Schedule) (script : List Beat)
        → is_name parts.name ≡ true → is_one_of names parts.name ≡ false
        → IsSchedule schedule → IsScript script → made parts mode schedule script ≡ Ok job
        → IsLawfulJob job × (is_one_of names job.name ≡ false)
    given parts mode schedule script name fresh lawful scripted e =
        let told : JobRecord = record {
          name = parts.name;
          mode = mode;
          schedule = schedule;
          start = parts.start;
          script = script;
        } in
        let known : Ok told ≡ Ok job = e in
        let same : told ≡ job = cc in
        subst (λ (j : JobRecord). IsLawfulJob j × (is_one_of names j.name ≡ false)) same
        (record { name = name; schedule = lawful; script = scripted }, fresh)

-- ---- all jobs

-- one job, and then the rest
abbrev with_rest : ℕ → List (List ℕ) → List Data → JobRecord → Result (List JobRecord) PlanFault
with_rest number names ds job =
    jobs_of (number + 1) (names ++ job.name ∷ []) ds >>= (λ jobs. Ok (job ∷ jobs))

-- the jobs are lawful, no name is an earlier one, and no two names are the same
abbrev AreLawful : List (List ℕ) → List JobRecord → Type 0
AreLawful names jobs =
    AllByRecursion IsLawfulJob jobs × AllByRecursion (λ job. is_one_of names job.name ≡ false) jobs
    × IsDistinct bytes_eq (map (λ job. job.name) jobs)

-- a name that isn't in a longer list isn't in its front, nor is it the last of that list
fewer : (names : List (List ℕ)) (name : List ℕ) (jobs : List JobRecord)
    → AllByRecursion (λ job. is_one_of (names ++ name ∷ []) job.name ≡ false) jobs
    → AllByRecursion (λ job. is_one_of names job.name ≡ false) jobs
    × AllByRecursion (λ other. bytes_eq name other ≡ false) (map (λ job. job.name) jobs)
fewer names name [] h = (tt, tt)
fewer names name (job ∷ jobs) h =
    let split : (is_one_of names job.name || (bytes_eq name job.name || false)) ≡ false =
    sym (list_any-append (λ k. bytes_eq k job.name) names (name ∷ [])) ∙ h.0 in
    let other : (bytes_eq name job.name || false) ≡ false =
    or_right (is_one_of names job.name) (bytes_eq name job.name || false) split in
    let rest = fewer names name jobs h.1 in (
      (or_left (is_one_of names job.name) _ split, rest.0),
      (or_left (bytes_eq name job.name) false other, rest.1),
    )

jobs_are : (number : ℕ) (names : List (List ℕ)) (ds : List Data) (jobs : List JobRecord) →
    jobs_of number names ds ≡ Ok jobs → AreLawful names jobs
unfolding jobs_of IsDistinct
jobs_are number names [] jobs h =
    let e : Ok [] ≡ Ok jobs = h in
    let none : [] ≡ jobs = cc in
    subst (AreLawful names) none (tt, tt, tt)
jobs_are number names (d ∷ ds) jobs h =
    let a = passed (job_of number names d) (with_rest number names ds) jobs h in
    let b = passed (jobs_of (number + 1) (names ++ a.0.name ∷ []) ds)
    (λ more. Ok (a.0 ∷ more)) jobs a.2 in
    let here : IsLawfulJob a.0 × (is_one_of names a.0.name ≡ false) =
    job_is number names d a.0 a.1 in
    let rest : AreLawful (names ++ a.0.name ∷ []) b.0 =
    jobs_are (number + 1) (names ++ a.0.name ∷ []) ds b.0 b.1 in
    let others = fewer names a.0.name b.0 rest.1 in
    let e : Ok (a.0 ∷ b.0) ≡ Ok jobs = b.2 in
    let same : a.0 ∷ b.0 ≡ jobs = cc in
    subst (AreLawful names) same ((here.0, rest.0), (here.1, others.0), (others.1, rest.2))

-- ---- the plan

abbrev planned : Ticks → DocumentParts → List JobRecord → Result PlanRecord PlanFault
planned clock parts jobs =
    Ok (record { clock = clock; workers = parts.workers; grain = parts.grain; jobs = jobs })

abbrev from_jobs : Ticks → DocumentParts → ⊤ → Result PlanRecord PlanFault
from_jobs clock parts x = jobs_of 0 [] parts.jobs >>= planned clock parts

abbrev in_range : Ticks → DocumentParts → Bool
in_range clock parts =
    is_clock clock && is_cut parts.workers parts.grain && nat_le (length parts.jobs) max_jobs

abbrev from_range : Ticks → DocumentParts → ⊤ → Result PlanRecord PlanFault
from_range clock parts x =
    demand (in_range clock parts) (faults.Range None) >>= from_jobs clock parts

abbrev from_document_keys : Data → Ticks → DocumentParts → Result PlanRecord PlanFault
from_document_keys d clock parts =
    demand (has_only_keys document_keys d) (faults.UnknownKey None) >>= from_range clock parts

abbrev from_parts : Data → Ticks → Result PlanRecord PlanFault
from_parts d clock =
    demand_some (document_parts d) (faults.Shape None) >>= from_document_keys d clock

-- the number of jobs is that of their documents
as_many : (number : ℕ) (names : List (List ℕ)) (ds : List Data) (jobs : List JobRecord) →
    jobs_of number names ds ≡ Ok jobs → length jobs ≡ length ds
unfolding jobs_of
as_many number names [] jobs h =
    let e : Ok [] ≡ Ok jobs = h in
    let none : [] ≡ jobs = cc in
    ap length (sym none)
as_many number names (d ∷ ds) jobs h =
    let a = passed (job_of number names d) (with_rest number names ds) jobs h in
    let b = passed (jobs_of (number + 1) (names ++ a.0.name ∷ []) ds)
    (λ more. Ok (a.0 ∷ more)) jobs a.2 in
    let rest : length b.0 ≡ length ds = as_many (number + 1) (names ++ a.0.name ∷ []) ds b.0 b.1 in
    let e : Ok (a.0 ∷ b.0) ≡ Ok jobs = b.2 in
    let same : a.0 ∷ b.0 ≡ jobs = cc in
    ap length (sym same) ∙ ap suc rest

cut_is : (workers grain : ℕ) → is_cut workers grain ≡ true → IsCut workers grain
unfolding is_cut
cut_is workers grain h =
    let a : nat_le 1 workers ≡ true = and_left _ _ (and_left _ _ (and_left _ _ h)) in
    let b : nat_le workers max_workers ≡ true =
    and_right (nat_le 1 workers) _ (and_left _ _ (and_left _ _ h)) in
    let c : nat_le 1 grain ≡ true =
    and_right (nat_le 1 workers && nat_le workers max_workers) _ (and_left _ _ h) in
    let e : nat_le grain max_tasks ≡ true =
    and_right (nat_le 1 workers && nat_le workers max_workers && nat_le 1 grain) _ h in (
      grind (arith, nat_tests, a),
      grind (arith, nat_tests, b),
      grind (arith, nat_tests, c),
      grind (arith, nat_tests, e),
    )

tree_is : (d : Data) (plan : PlanRecord) → plan_of_tree d ≡ Ok plan → IsLawful plan
unfolding plan_of_tree
tree_is d plan h =
    let a = passed (demand_some (ticks_asked (get (codes "horizon") d) (get (codes "ticks") d))
    (faults.Shape None)) (from_parts d) plan h in
    let b = passed (demand_some (document_parts d) (faults.Shape None))
    (from_document_keys d a.0) plan a.2 in
    let k = passed (demand (has_only_keys document_keys d) (faults.UnknownKey None))
    (from_range a.0 b.0) plan b.2 in
    let r = passed (demand (in_range a.0 b.0) (faults.Range None)) (from_jobs a.0 b.0) plan k.2 in
    let j = passed (jobs_of 0 [] b.0.jobs) (planned a.0 b.0) plan r.2 in
    let test : in_range a.0 b.0 ≡ true = demanded (in_range a.0 b.0) (faults.Range None) r.0 r.1 in
    given a.0 b.0 j.0 (and_left _ _ (and_left _ _ test))
    (and_right (is_clock a.0) _ (and_left _ _ test))
    (and_right (is_clock a.0 && is_cut b.0.workers b.0.grain) _ test)
    (as_many 0 [] b.0.jobs j.0 j.1) (jobs_are 0 [] b.0.jobs j.0 j.1) j.2
  where
    given : (clock : Ticks) (parts : DocumentParts) (jobs : List JobRecord) → is_clock clock ≡ true
        → is_cut parts.workers parts.grain ≡ true
        → nat_le (length parts.jobs) max_jobs ≡ true → length jobs ≡ length parts.jobs
        → AreLawful [] jobs → planned clock parts jobs ≡ Ok plan → IsLawful plan
    given clock parts jobs ticks cut few many lawful e =
        let told : PlanRecord = record {
          clock = clock;
          workers = parts.workers;
          grain = parts.grain;
          jobs = jobs;
        } in
        let known : Ok told ≡ Ok plan = e in
        let same : told ≡ plan = cc in
        let within : length parts.jobs ≤ max_jobs = grind (arith, nat_tests, few) in
        subst IsLawful same (record {
          clock = clock_passed clock ticks;
          cut = cut_is parts.workers parts.grain cut;
          few = omega arith;
          jobs = all_at IsLawfulJob jobs lawful.0;
          names = lawful.2;
        })

-- an accepted plan is lawful
pub plan_is_lawful : (bytes : List ℕ) (plan : PlanRecord) → plan_of bytes ≡ Ok plan → IsLawful plan
unfolding plan_of
plan_is_lawful bytes plan h =
    let a = passed (document_of bytes) plan_of_tree plan h in tree_is a.0 plan a.2
