-- A set of names grows with the list of names that were used.
use Rattle.std.proofs.Common.{◌≡◌, ◌++◌, ◌∷◌, [], ℕ, ◌||◌, List, Bool, true, false, cond, refl, sym}
use Rattle.std.proofs.Common.{ap, ◌∙◌, String, Global, string_bytes}
use Rattle.std.specs.Str.{bytes_eq}
use Rattle.std.specs.BTreeSet.{BTreeSet, contains_text, Updates}
use Rattle.std.specs.String.{string_cmp}
use Rattle.std.proofs.lemmas.Map.Text.{btree_set_updates_text}
use Rattle.std.proofs.lemmas.List.Folds.{list_any-append}
use Rattle.zs_run.specs.Tree.{is_one_of}
use Rattle.zs_run.specs.Names.{KnowsNames}

or_last : (b x : Bool) → cond b true x ≡ (x || (b || false))
or_last true true = refl
or_last true false = refl
or_last false true = refl
or_last false false = refl

-- one more text
knows_more : (old new : BTreeSet (String Global)) (name : List ℕ)
    → ((text : List ℕ) → contains_text new text
    ≡ cond (bytes_eq name text) true (contains_text old text))
    → (earlier : List (List ℕ)) → KnowsNames old earlier → KnowsNames new (earlier ++ name ∷ [])
knows_more old new name grows earlier knows text =
    grows text ∙ ap (cond (bytes_eq name text) true) (knows text) ∙ or_last (bytes_eq name text)
    (is_one_of earlier text)
    ∙ sym (list_any-append (λ k. bytes_eq k text) earlier (name ∷ []))

-- one more name
pub knows_inserted : (old new : BTreeSet (String Global)) (key : String Global) (name : List ℕ)
    → string_bytes key ≡ name → Updates string_cmp old new key true
    → (earlier : List (List ℕ)) → KnowsNames old earlier → KnowsNames new (earlier ++ name ∷ [])
knows_inserted old new key name same updates earlier knows =
    rw (← same) (knows_more old new (string_bytes key)
    (btree_set_updates_text (string_bytes key) old new true updates) earlier knows)
