-- A line that is a job after some names is the same job after fewer names.
use Rattle.std.proofs.Common.{◌≡◌, ◌&&◌, not, ℕ, List, ◌++◌, Bool, true, false, Some, Result, Ok}
use Rattle.std.proofs.Common.{Err, refl, sym, ◌∙◌}
use Rattle.std.specs.Prelude.{⊤}
use Rattle.std.specs.List.{list_all}
use Rattle.std.specs.Str.{bytes_eq}
use Rattle.std.proofs.lemmas.Bool.{or_parts}
use Rattle.std.proofs.lemmas.List.Folds.{list_any-append}
use Rattle.zs_drive.specs.Values.{JobRecord}
use Rattle.zs_run.specs.declared.plan_fault.PlanFault.{PlanFault}
use Rattle.zs_run.specs.declared.plan_fault.PlanFault.TheVariants as faults
use Rattle.zs_run.specs.Head.{job_of_bytes}
use Rattle.zs_run.specs.Jobs.{is_name, job_of, mode_of}
use Rattle.zs_run.specs.Plan.{document_of}
use Rattle.zs_run.specs.Refusals.{◌>>=◌, demand, demand_some}
use Rattle.zs_run.specs.Shapes.{beat_of, entry_keys, job_keys, job_parts}
use Rattle.zs_run.specs.Tree.{all_of, has_only_keys, is_one_of}

-- what comes next may be other checks that pass as well
keeps : {A B : Type 0} (r : Result A PlanFault) (f g : A → Result B PlanFault) (b : B)
    → ((a : A) → f a ≡ Ok b → g a ≡ Ok b) → (r >>= f) ≡ Ok b → (r >>= g) ≡ Ok b
keeps (Ok a) f g b goes is = goes a is
keeps (Err e) f g b goes is = is

-- a name that is new among others is new among fewer
stays-new : {B : Type 0} (old new : Bool) (fault : PlanFault) (f : ⊤ → Result B PlanFault) (b : B)
    → (old ≡ false → new ≡ false) → (demand (not old) fault >>= f) ≡ Ok b
    → (demand (not new) fault >>= f) ≡ Ok b
stays-new true new fault f b less is = absurd (let no : Err fault ≡ Ok b = is in cc)
stays-new false true fault f b less is = absurd (let no : true ≡ false = less refl in cc)
stays-new false false fault f b less is = is

-- a name that is none of some names is none of the last ones
none-of-fewer : (front names : List (List ℕ)) (name : List ℕ)
    → is_one_of (front ++ names) name ≡ false → is_one_of names name ≡ false
none-of-fewer front names name none =
    (or_parts _ _ (sym (list_any-append (λ k. bytes_eq k name) front names) ∙ none)).1

-- a document that is a job
tree-fewer : (number : ℕ) (front names : List (List ℕ)) (d : _) (job : JobRecord)
    → job_of number (front ++ names) d ≡ Ok job → job_of number names d ≡ Ok job
unfolding job_of
tree-fewer number front names d job =
    keeps (demand_some (job_parts d) (faults.Shape (Some number))) _ _ job (λ parts.
    keeps (demand_some (all_of beat_of parts.entries) (faults.Shape (Some number))) _ _
    job (λ beats.
    keeps (demand (has_only_keys job_keys d && list_all (has_only_keys entry_keys) parts.entries)
    (faults.UnknownKey (Some number))) _ _ job (λ keys.
    keeps (demand_some (mode_of parts.mode) (faults.Range (Some number))) _ _ job (λ mode.
    keeps (demand (is_name parts.name) (faults.Name number)) _ _ job (λ name.
    stays-new (is_one_of (front ++ names) parts.name) (is_one_of names parts.name)
    (faults.SameName number) _ job
    (none-of-fewer front names parts.name))))))

-- bytes that are a job
pub job-fewer : (number : ℕ) (front names : List (List ℕ)) (bytes : List ℕ) (job : JobRecord)
    → job_of_bytes number (front ++ names) bytes ≡ Ok job → job_of_bytes number names bytes ≡ Ok job
unfolding job_of_bytes
job-fewer number front names bytes job =
    keeps (document_of bytes) (job_of number (front ++ names)) (job_of number names) job
    (λ d. tree-fewer number front names d job)
