-- A set of names that represents the list of the names used so far.
use Rattle.std.specs.Prelude.{◌≡◌, ℕ, List, [], ◌∷◌, ◌++◌}
use Rattle.std.specs.BTreeSet.{BTreeSet, contains_text}
use Rattle.std.proofs.Common.{String, Global}
use Rattle.zs_run.specs.Tree.{is_one_of}

-- the set contains exactly the names of the list
abbrev pub KnowsNames : BTreeSet (String Global) → List (List ℕ) → Type 0
KnowsNames set names = (name : List ℕ) → contains_text set name ≡ is_one_of names name

-- the set knows one more name, the last
abbrev pub LearnsName : BTreeSet (String Global) → BTreeSet (String Global) → List ℕ → Type 0
LearnsName old new name = (earlier : List (List ℕ))
    → KnowsNames old earlier → KnowsNames new (earlier ++ name ∷ [])
