-- A loop that looks for something in each element of a list.
use Rattle.std.proofs.Common.{◌≡◌, ◌<◌, ◌≤◌, ℕ, ◌+◌, List, [], ◌∷◌, ◌++◌, map, drop, length, get_or}
use Rattle.std.proofs.Common.{Option, Some, None}
use Rattle.std.proofs.Common.{Ok, Err, option_map, refl, sym, ap, ◌∙◌, append_assoc, append-nil}
use Rattle.std.proofs.Common.{drop-cons, add-one}
use Rattle.std.proofs.lemmas.List.{drop_all}
use Rattle.serde_json.specs.declared.value.Value.{Value}
use Rattle.serde_json.specs.Data.{Data}
use Rattle.zs_run.specs.declared.plan_fault.PlanFault.{PlanFault}
use Rattle.zs_run.specs.Refusals.{demand_some}
use Rattle.zs_run.specs.Tree.{all_of, ◌>>=◌}
use Rattle.serde_json.specs.View.{view}

-- what was found so far, followed by what is found in the rest
abbrev pub and_then : {A : Type 0} → List A → Option (List A) → Option (List A)
and_then found rest = option_map (λ more. found ++ more) rest

-- the values before the i-th gave what was found
abbrev pub HaveGiven : {A : Type 0} → (Data → Option A) → List A → List Value → ℕ → Type 0
HaveGiven find found values i =
    and_then found (all_of find (map view (drop i values))) ≡ all_of find (map view values)

moved : {A : Type 0} (found : List A) (y : A) (rest : Option (List A))
    → and_then found (rest >>= (λ ys. Some (y ∷ ys))) ≡ and_then (found ++ y ∷ []) rest
moved found y None = refl
moved found y (Some more) = ap Some (sym (append_assoc found (y ∷ []) more))

-- something is found in one more
pub one_more : {A : Type 0} (find : Data → Option A) (found : List A) (values : List Value) (i : ℕ)
    (value : Value) (y : A)
    → i < length values → get_or values i value ≡ value → find (view value) ≡ Some y
    → HaveGiven find found values i → HaveGiven find (found ++ y ∷ []) values (i + 1)
unfolding all_of
one_more find found values i value y inside here given before =
    let step : and_then found (all_of find (map view (drop i values)))
    ≡ and_then (found ++ y ∷ []) (all_of find (map view (drop (i + 1) values))) =
    rw (add-one i, drop-cons values i value inside, here, given) (moved found y _) in
    sym step ∙ before

-- nothing is found in one
pub not_all : {A : Type 0} (find : Data → Option A) (found : List A) (values : List Value) (i : ℕ)
    (value : Value) (fault : PlanFault)
    → i < length values → get_or values i value ≡ value → find (view value) ≡ None
    → HaveGiven find found values i → demand_some (all_of find (map view values)) fault ≡ Err fault
unfolding all_of
not_all find found values i value fault inside here given before =
    let none : and_then found (all_of find (map view (drop i values))) ≡ None =
    rw (drop-cons values i value inside, here, given) refl in
    ap (λ all. demand_some all fault) (sym before ∙ none)

-- no value remains
pub all_found : {A : Type 0} (find : Data → Option A) (found : List A) (values : List Value) (i : ℕ)
    (fault : PlanFault)
    → length values ≤ i → HaveGiven find found values i
    → demand_some (all_of find (map view values)) fault ≡ Ok found
unfolding all_of
all_found find found values i fault end before =
    let all : and_then found (all_of find (map view (drop i values))) ≡ Some found =
    rw (drop_all i values end) (ap Some (append-nil found)) in
    ap (λ all. demand_some all fault) (sym before ∙ all)
