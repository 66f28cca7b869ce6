-- How the logic stores a schedule: as its postfix form, a list of leaves, operators and modifiers.
use Rattle.std.specs.Prelude.{◌≡◌, ℕ, Bool, true, false, ◌⊎◌, List, [], ◌∷◌, refl}
use Rattle.std.proofs.Common.{inl, inr, ◌∙◌}
use Rattle.std.specs.Coded.{Coded, code_by, coded_list, coded⊎, coded×, coded_ℕ, coded_bool}
use Rattle.zs_term.specs.contracts.forms.Plain as plain_row
use Rattle.zs_term.specs.contracts.forms.Counted as counted_row
use Rattle.zs_term.specs.contracts.term.Test as test_row
use Rattle.zs_term.specs.contracts.term.Pick as pick_row
use Rattle.zs_term.specs.contracts.term.Func as func_row
use Rattle.zs_term.specs.declared.forms.Plain.{Plain}
use Rattle.zs_term.specs.declared.forms.Counted.{Counted}
use Rattle.zs_term.specs.declared.term.Test.{Test}
use Rattle.zs_term.specs.declared.term.Pick.{Pick}
use Rattle.zs_term.specs.declared.term.Func.{Func}
use Rattle.zs_term.specs.Schedule.{Schedule, leaf, two, over, Leaf, plain, counted, exponential}
use Rattle.zs_term.specs.Schedule.{forever, Pairing, both, either, and_then, Modifier, while_input}
use Rattle.zs_term.specs.Schedule.{while_output, collect_all, mapped, reset_when}

-- a leaf as its word and numbers
abbrev LeafParts : Type 0
LeafParts = Plain ⊎ ((Counted × ℕ) ⊎ (ℕ × ℕ))

abbrev leaf_parts : Leaf → LeafParts
leaf_parts (plain w) = inl w
leaf_parts (counted w n) = inr (inl (w, n))
leaf_parts (exponential base factor) = inr (inr (base, factor))

abbrev leaf_of_parts : LeafParts → Leaf
leaf_of_parts (inl w) = plain w
leaf_of_parts (inr (inl p)) = counted p.0 p.1
leaf_of_parts (inr (inr p)) = exponential p.0 p.1

pub leaf_back : (l : Leaf) → leaf_of_parts (leaf_parts l) ≡ l
leaf_back (plain w) = refl
leaf_back (counted w n) = refl
leaf_back (exponential base factor) = refl

abbrev leaf_code : Coded Leaf
leaf_code = code_by LeafParts (coded⊎ plain_row.the_row.coded (coded⊎ (coded×
    counted_row.the_row.coded coded_ℕ) (coded× coded_ℕ coded_ℕ))) leaf_parts leaf_of_parts leaf_back

-- an operator as two truth values
abbrev pairing_parts : Pairing → Bool × Bool
pairing_parts both = (true, true)
pairing_parts either = (true, false)
pairing_parts and_then = (false, false)

abbrev pairing_of_parts : Bool × Bool → Pairing
pairing_of_parts (true, true) = both
pairing_of_parts (true, false) = either
pairing_of_parts (false, _) = and_then

pub pairing_back : (o : Pairing) → pairing_of_parts (pairing_parts o) ≡ o
pairing_back both = refl
pairing_back either = refl
pairing_back and_then = refl

abbrev pairing_code : Coded Pairing
pairing_code =
    code_by (Bool × Bool) (coded× coded_bool coded_bool) pairing_parts pairing_of_parts pairing_back

-- a modifier as what it reads; a truth value for two that read the same
abbrev ModifierParts : Type 0
ModifierParts = Test ⊎ ((Bool × (Pick × Test)) ⊎ (Func ⊎ Bool))

abbrev modifier_parts : Modifier → ModifierParts
modifier_parts (while_input t) = inl t
modifier_parts (while_output k t) = inr (inl (true, (k, t)))
modifier_parts (reset_when k t) = inr (inl (false, (k, t)))
modifier_parts (mapped f) = inr (inr (inl f))
modifier_parts collect_all = inr (inr (inr true))

abbrev modifier_of_parts : ModifierParts → Modifier
modifier_of_parts (inl t) = while_input t
modifier_of_parts (inr (inl (true, p))) = while_output p.0 p.1
modifier_of_parts (inr (inl (false, p))) = reset_when p.0 p.1
modifier_of_parts (inr (inr (inl f))) = mapped f
modifier_of_parts (inr (inr (inr _))) = collect_all

pub modifier_back : (m : Modifier) → modifier_of_parts (modifier_parts m) ≡ m
modifier_back (while_input t) = refl
modifier_back (while_output k t) = refl
modifier_back (reset_when k t) = refl
modifier_back (mapped f) = refl
modifier_back collect_all = refl

abbrev modifier_code : Coded Modifier
modifier_code =
    code_by ModifierParts (coded⊎ test_row.the_row.coded (coded⊎ (coded× coded_bool (coded×
    pick_row.the_row.coded test_row.the_row.coded)) (coded⊎ func_row.the_row.coded coded_bool)))
    modifier_parts modifier_of_parts modifier_back

-- a leaf, an operator or a modifier
abbrev Word : Type 0
Word = Leaf ⊎ (Pairing ⊎ Modifier)

-- the postfix form of a schedule, then more words
abbrev postfix : Schedule → List Word → List Word
postfix (leaf l) words = inl l ∷ words
postfix (two o a b) words = postfix a (postfix b (inr (inl o) ∷ words))
postfix (over s m) words = postfix s (inr (inr m) ∷ words)

-- the schedule of a postfix form, from a stack of schedules
abbrev built : List Word → List Schedule → Schedule
built [] [] = leaf forever
built [] (s ∷ stack) = s
built (inl l ∷ words) stack = built words (leaf l ∷ stack)
built (inr (inl o) ∷ words) [] = leaf forever
built (inr (inl o) ∷ words) (b ∷ []) = leaf forever
built (inr (inl o) ∷ words) (b ∷ a ∷ stack) = built words (two o a b ∷ stack)
built (inr (inr m) ∷ words) [] = leaf forever
built (inr (inr m) ∷ words) (s ∷ stack) = built words (over s m ∷ stack)

pub built-postfix : (s : Schedule) (words : List Word) (stack : List Schedule)
    → built (postfix s words) stack ≡ built words (s ∷ stack)
built-postfix (leaf l) words stack = refl
built-postfix (two o a b) words stack = built-postfix a (postfix b (inr (inl o) ∷ words)) stack
    ∙ built-postfix b (inr (inl o) ∷ words) (a ∷ stack)
built-postfix (over s m) words stack = built-postfix s (inr (inr m) ∷ words) stack

-- the code of a schedule
abbrev pub schedule_code : Coded Schedule
schedule_code =
    code_by (List Word) (coded_list (coded⊎ leaf_code (coded⊎ pairing_code modifier_code)))
    (λ s. postfix s []) (λ words. built words []) (λ s. built-postfix s [] [])
