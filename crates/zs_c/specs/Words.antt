-- The words of a leaf in a program and in its state, and those of an `andThenEither` in a state.
use Rattle.std.specs.Prelude.{ℕ, suc, ◌*◌, ◌^◌, Option, Some, None, List, [], ◌∷◌, ◌++◌, length}
use Rattle.zs_term.specs.Saturating.{saturated}
use Rattle.zs_term.specs.Schedule.{Leaf, plain, counted, exponential}
use Rattle.zs_term.specs.declared.forms.Plain.TheVariants.{Forever, Identity, Elapsed}
use Rattle.zs_term.specs.declared.forms.Counted.TheVariants.{Recurs, Spaced, Fixed, Fibonacci}
use Rattle.zs_term.specs.declared.forms.Counted.TheVariants.{Linear, Windowed}
use Rattle.zs_step.specs.History.{History, first_moment}
use Rattle.zs_step.specs.Answer.{fibonacci_number, next_run}

-- the words of a leaf in a program: its tag and its numbers
abbrev pub leaf_code : Leaf → List ℕ
leaf_code (plain Forever) = 1 ∷ []
leaf_code (plain Identity) = 2 ∷ []
leaf_code (plain Elapsed) = 3 ∷ []
leaf_code (counted Recurs k) = 4 ∷ (k ∷ [])
leaf_code (counted Spaced d) = 5 ∷ (d ∷ [])
leaf_code (counted Fixed p) = 6 ∷ (p ∷ [])
leaf_code (counted Fibonacci o) = 7 ∷ (o ∷ [])
leaf_code (counted Linear n) = 8 ∷ (n ∷ [])
leaf_code (counted Windowed n) = 9 ∷ (n ∷ [])
leaf_code (exponential b f) = 10 ∷ (b ∷ (f ∷ []))

-- the words of a leaf in a state
abbrev pub leaf_words : Leaf → History → List ℕ
leaf_words (plain Forever) h = saturated (length h) ∷ []
leaf_words (counted Recurs k) h = saturated (length h) ∷ []
leaf_words (counted Spaced d) h = saturated (length h) ∷ []
leaf_words (counted Fixed p) h = saturated (length h) ∷ (first_moment h ∷ (next_run p h ∷ []))
leaf_words (exponential b f) h = saturated (b * f ^ length h) ∷ []
leaf_words (counted Fibonacci o) h =
    saturated (o * fibonacci_number (length h))
    ∷ (saturated (o * fibonacci_number (suc (length h))) ∷ [])
leaf_words (plain Identity) h = []
leaf_words (plain Elapsed) h = saturated (length h) ∷ (first_moment h ∷ [])
leaf_words (counted Linear n) h = saturated (n * length h) ∷ []
leaf_words (counted Windowed n) h = saturated (length h) ∷ (first_moment h ∷ [])

-- The words of `andThenEither`: whether the first part is done, and both parts. The first part is
-- as new once it is done, the second until then.
abbrev pub sequel_words : Option History → (History → List ℕ) → (History → List ℕ) → History
    → List ℕ
sequel_words None a b h = 0 ∷ (a h ++ b [])
sequel_words (Some g) a b h = 1 ∷ (a [] ++ b g)
