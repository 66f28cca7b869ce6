use Rattle.std.proofs.Common.{◌≡◌, ◌∷◌, [], Option, length, refl, ap, ◌∙◌, arith}
use Rattle.zs_term.specs.Saturating.{saturated}
use Rattle.zs_step.specs.declared.leaf.Past.{Past}
use Rattle.zs_step.specs.declared.leaf.Leaf.{Leaf}
use Rattle.zs_step.specs.declared.leaf.Leaf.TheVariants.{Forever, Recurs, Spaced, Fixed}
use Rattle.zs_step.specs.declared.leaf.Leaf.TheVariants.{Exponential, Fibonacci, Identity, Elapsed}
use Rattle.zs_step.specs.declared.leaf.Leaf.TheVariants.{Linear, Windowed}
use Rattle.zs_step.specs.History.{History}
use Rattle.zs_step.specs.LeafState.{next_count, past_of}
use Rattle.zs_step.specs.Laws.{before_at, HasCounted}
use Rattle.zs_step.proofs.Steps.{next_count-is}
use Rattle.zs_step.proofs.laws.a_leaf_counts_its_steps.Goals as goal

-- the number of steps of a past
past-counted : (h : History) → next_count (before_at (past_of h)) ≡ saturated (length h)
past-counted [] = omega arith
past-counted (p ∷ h) = omega arith

-- the number of steps that is read from each leaf
leaf-counted : (l : Leaf) (h : History) → HasCounted l h
leaf-counted (Forever b) h = λ is. ap next_count is ∙ next_count-is h
leaf-counted (Recurs k b) h = λ is. ap next_count is ∙ next_count-is h
leaf-counted (Spaced d b) h = λ is. ap next_count is ∙ next_count-is h
leaf-counted (Fixed p past run) h =
    λ is. ap (λ (q : Option Past). next_count (before_at q)) is.0 ∙ past-counted h
leaf-counted (Exponential b f x y) h = λ _. tt
leaf-counted (Fibonacci o x y) h = λ _. tt
leaf-counted (Identity x) h = λ _. tt
leaf-counted (Elapsed m x) h = λ _. tt
leaf-counted (Linear n x) h = λ _. tt
leaf-counted (Windowed p past) h =
    λ is. ap (λ (q : Option Past). next_count (before_at q)) is ∙ past-counted h

pub returns : goal.returns
returns c = record { value = next_count-is; past = λ p h. refl; counted = leaf-counted }
