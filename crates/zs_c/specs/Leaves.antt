-- Leaves of a program as `zs_step::Leaf`: for private contracts alone. `proofs/Leaves.antt` proves
-- that the words of a leaf's state, loaded and stored, are those of its history.
use Rattle.std.specs.Prelude.{◌≡◌, ℕ, ◌≤◌, ◌==◌, if◌then◌else◌, Option, Some, None, List, [], ◌∷◌}
use Rattle.std.specs.Prelude.{◌++◌, length, drop, slice_index_or}
use Rattle.zs_term.specs.Schedule.{Leaf as LeafRule, plain, counted, exponential, forever, identity}
use Rattle.zs_term.specs.Schedule.{elapsed, recurs, spaced, fixed, fibonacci, linear, windowed}
use Rattle.zs_term.specs.declared.forms.Plain.TheVariants.{Forever as PlainForever}
use Rattle.zs_term.specs.declared.forms.Plain.TheVariants.{Identity as PlainIdentity}
use Rattle.zs_term.specs.declared.forms.Plain.TheVariants.{Elapsed as PlainElapsed}
use Rattle.zs_term.specs.declared.forms.Counted.TheVariants.{Recurs as CountedRecurs}
use Rattle.zs_term.specs.declared.forms.Counted.TheVariants.{Spaced as CountedSpaced}
use Rattle.zs_term.specs.declared.forms.Counted.TheVariants.{Fixed as CountedFixed}
use Rattle.zs_term.specs.declared.forms.Counted.TheVariants.{Fibonacci as CountedFibonacci}
use Rattle.zs_term.specs.declared.forms.Counted.TheVariants.{Linear as CountedLinear}
use Rattle.zs_term.specs.declared.forms.Counted.TheVariants.{Windowed as CountedWindowed}
use Rattle.zs_step.specs.declared.leaf.Past.{Past}
use Rattle.zs_step.specs.declared.leaf.Leaf.{Leaf}
use Rattle.zs_step.specs.declared.leaf.Leaf.TheVariants.{Forever, Recurs, Spaced, Fixed}
use Rattle.zs_step.specs.declared.leaf.Leaf.TheVariants.{Exponential, Fibonacci, Identity, Elapsed}
use Rattle.zs_step.specs.declared.leaf.Leaf.TheVariants.{Linear, Windowed}
use Rattle.zs_step.specs.declared.decision.Decision.{Decision}
use Rattle.zs_step.specs.History.{History}
use Rattle.zs_step.specs.Answer.{leaf_answer}
use Rattle.zs_step.specs.LeafState.{leaf_output, or_zero, state_leaf}
use Rattle.zs_c.specs.declared.program.leaf.Step.{Step}
use Rattle.zs_c.specs.Code.{leaf_held}

-- a word, or 0 past the end
abbrev pub word_at : List ℕ → ℕ → ℕ
word_at words at = slice_index_or words at 0

-- the leaf of a tag and the words after it
abbrev pub rule_at : List ℕ → LeafRule
rule_at code =
    let w = word_at code 0 in
    if w == 2 then identity
    else (if w == 3 then elapsed else (if w == 4 then recurs (word_at code 1) else
    (if w == 5 then spaced (word_at code 1) else (if w == 6 then fixed (word_at code 1) else
    (if w == 7 then fibonacci (word_at code 1) else (if w == 8 then linear (word_at code 1) else
    (if w == 9 then windowed (word_at code 1)
    else (if w == 10 then exponential (word_at code 1) (word_at code 2) else forever))))))))

-- a leaf before any step
abbrev pub new_leaf : LeafRule → Leaf
new_leaf (plain PlainForever) = Forever None
new_leaf (plain PlainIdentity) = Identity 0
new_leaf (plain PlainElapsed) = Elapsed None 0
new_leaf (counted CountedRecurs k) = Recurs k None
new_leaf (counted CountedSpaced d) = Spaced d None
new_leaf (counted CountedFixed p) = Fixed p None 0
new_leaf (counted CountedFibonacci o) = Fibonacci o 0 o
new_leaf (counted CountedLinear n) = Linear n 0
new_leaf (counted CountedWindowed n) = Windowed n None
new_leaf (exponential b f) = Exponential b f b b

-- the word at an index, if a step was counted
abbrev pub if_begun : List ℕ → ℕ → Option ℕ
if_begun words at = if word_at words 1 == 0 then None else Some (word_at words at)

-- the first moment and the number of steps before the last one, if a step was counted
abbrev pub past_in : List ℕ → Option Past
past_in words =
    if word_at words 1 == 0 then None
    else Some (record { first = word_at words 2; before = word_at words 0 })

-- a leaf with what its words say
abbrev pub loaded : Leaf → List ℕ → Leaf
loaded (Forever b) words = Forever (if_begun words 0)
loaded (Recurs k b) words = Recurs k (if_begun words 0)
loaded (Spaced d b) words = Spaced d (if_begun words 0)
loaded (Fixed p past run) words = Fixed p (past_in words) (word_at words 3)
loaded (Exponential b f x y) words = Exponential b f x (word_at words 1)
loaded (Fibonacci o x y) words = Fibonacci o (word_at words 1) (word_at words 2)
loaded (Identity x) words = Identity x
loaded (Elapsed m x) words = Elapsed (if_begun words 2) x
loaded (Linear n x) words = Linear n (word_at words 1)
loaded (Windowed n past) words = Windowed n (past_in words)

-- the moment of the first step, or 0
abbrev pub first_in : Option Past → ℕ
first_in None = 0
first_in (Some past) = past.first

-- the words of a leaf after its output, with the number of steps
abbrev pub rest_stored : Leaf → ℕ → List ℕ
rest_stored (Forever b) n = n ∷ []
rest_stored (Recurs k b) n = n ∷ []
rest_stored (Spaced d b) n = n ∷ []
rest_stored (Fixed p past run) n = n ∷ (first_in past ∷ (run ∷ []))
rest_stored (Exponential b f x y) n = y ∷ []
rest_stored (Fibonacci o x y) n = x ∷ (y ∷ [])
rest_stored (Identity x) n = []
rest_stored (Elapsed m x) n = n ∷ (or_zero m ∷ [])
rest_stored (Linear k x) n = x ∷ []
rest_stored (Windowed k past) n = n ∷ (first_in past ∷ [])

-- the words of a leaf
abbrev pub stored : Leaf → ℕ → List ℕ
stored l n = leaf_output l ∷ rest_stored l n

-- words begin with those of a leaf, if there is room for them
abbrev pub Stores : Leaf → ℕ → List ℕ → List ℕ → Type 0
Stores l n old new =
    length (stored l n) ≤ length old → new ≡ stored l n ++ drop (length (stored l n)) old

-- the words of a leaf become those before any step
abbrev pub ClearsLeaf : Leaf → List ℕ → List ℕ → Type 0
ClearsLeaf l old new =
    l ≡ new_leaf (state_leaf l) → length old ≡ length (leaf_held (state_leaf l) [])
    → new ≡ leaf_held (state_leaf l) []

-- what a leaf decides at a step, after every history that its words may have
abbrev pub DecidesLeaf : Leaf → List ℕ → Step → Decision → Type 0
DecidesLeaf l words step d =
    (h : History) → words ≡ leaf_held (state_leaf l) h
    → d ≡ (leaf_answer (state_leaf l) ((step.moment, step.input) ∷ h)).decision
