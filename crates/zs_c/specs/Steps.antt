-- What a step of a code does to the words of its state: for private contracts alone.
use Rattle.std.specs.Prelude.{◌≡◌, ℕ, suc, ◌+◌, ◌≤◌, List, [], ◌∷◌, ◌++◌, length}
use Rattle.zs_term.specs.Schedule.{Schedule, weight, max_weight, two, and_then}
use Rattle.zs_term.specs.Saturating.{saturated}
use Rattle.zs_step.specs.declared.decision.Decision.{Decision}
use Rattle.zs_step.specs.declared.decision.Decision.TheVariants.{Stop, Next}
use Rattle.zs_step.specs.History.{History}
use Rattle.zs_step.specs.Answer.{answer_of}
use Rattle.zs_step.specs.Visits.{visits}
use Rattle.zs_c.specs.declared.program.leaf.Step.{Step}
use Rattle.zs_c.specs.declared.program.node.Sizes.{Sizes}
use Rattle.zs_c.specs.Code.{IsCode, held_of, held_size}
use Rattle.zs_c.specs.Form.{IsParts}
use Rattle.zs_c.specs.Shown.{IsCountable}

-- a step after a history: the new words, the decision, and the visits before and after it
pub record StepsCode (t : Schedule) (h : History) (words : List ℕ) (now input : ℕ) (d : Decision)
    (before after : ℕ) : Type 0 where
  pub held : words ≡ held_of t ((now, input) ∷ h)
  pub decides : d ≡ (answer_of t ((now, input) ∷ h)).decision
  pub visited : after ≡ before + visits t ((now, input) ∷ h)

-- a step of two parts after a history: their new words, their decisions, and the visits
pub record StepsBoth (a b : Schedule) (h : History) (words : List ℕ) (now input : ℕ)
    (d e : Decision) (before after : ℕ) : Type 0 where
  pub held : words ≡ held_of a ((now, input) ∷ h) ++ held_of b ((now, input) ∷ h)
  pub first : d ≡ (answer_of a ((now, input) ∷ h)).decision
  pub second : e ≡ (answer_of b ((now, input) ∷ h)).decision
  pub visited : after ≡ before + visits a ((now, input) ∷ h) + visits b ((now, input) ∷ h)

-- a step of the parts of `andThenEither` after a history; the operator's visit was counted before
pub record StepsThen (a b : Schedule) (h : History) (words : List ℕ) (now input : ℕ) (d : Decision)
    (before after : ℕ) : Type 0 where
  pub held : words ≡ held_of (two and_then a b) ((now, input) ∷ h)
  pub decides : d ≡ (answer_of (two and_then a b) ((now, input) ∷ h)).decision
  pub visited : suc after ≡ before + visits (two and_then a b) ((now, input) ∷ h)

-- the size of a list after a step with a decision
abbrev pub size_after : ℕ → Decision → ℕ
size_after n Stop = n
size_after n (Next moment) = saturated (n + 1)

-- ---- for every schedule and history that a code and its words may have

-- the words become those before any step
abbrev pub ClearsParts : Sizes → List ℕ → ℕ → List ℕ → List ℕ → Type 0
ClearsParts sizes code levels old new =
    (a b : Schedule) → IsParts a b sizes code levels → length old ≡ held_size a + held_size b
    → new ≡ held_of a [] ++ held_of b []

-- the words become those after a step
abbrev pub StepsWords : List ℕ → ℕ → List ℕ → List ℕ → Step → ℕ → ℕ → Decision → Type 0
StepsWords code levels old new step before after d =
    (t : Schedule) (h : History) → IsCode t code levels → before + weight t ≤ max_weight
    → IsCountable t h → old ≡ held_of t h
    → StepsCode t h new step.moment step.input d before after

-- both parts are stepped
abbrev pub StepsParts : Sizes → List ℕ → ℕ → List ℕ → List ℕ → Step → ℕ → ℕ → Decision × Decision
    → Type 0
StepsParts sizes code levels old new step before after d =
    (a b : Schedule) (h : History) → IsParts a b sizes code levels
    → before + weight a + weight b ≤ max_weight → IsCountable a h → IsCountable b h
    → old ≡ held_of a h ++ held_of b h
    → StepsBoth a b h new step.moment step.input d.0 d.1 before after

-- the parts of `andThenEither` are stepped
abbrev pub StepsInTurn : Sizes → List ℕ → ℕ → List ℕ → List ℕ → Step → ℕ → ℕ → Decision → Type 0
StepsInTurn sizes code levels old new step before after d =
    (a b : Schedule) (h : History) → IsParts a b sizes code levels
    → before + weight a + weight b ≤ max_weight → IsCountable a h → IsCountable b h
    → old ≡ held_of (two and_then a b) h → StepsThen a b h new step.moment step.input d before after
