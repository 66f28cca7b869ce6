-- The output of a leaf's last step, and which histories it represents: what its next step needs to
-- know of them. `a_leaf_counts_its_steps` of `src/laws.rt` reads the number of steps from it.
use Rattle.std.specs.Prelude.{◌≡◌, ℕ, suc, ◌+◌, ◌*◌, ◌^◌, Option, Some, None, [], ◌∷◌, length}
use Rattle.zs_term.specs.Saturating.{saturated}
use Rattle.zs_term.specs.Output.{number}
use Rattle.zs_term.specs.Schedule.{Leaf as LeafRule, forever, recurs, spaced, fixed, exponential}
use Rattle.zs_term.specs.Schedule.{fibonacci, identity, elapsed, linear, windowed}
use Rattle.zs_step.specs.declared.decision.Decision.{Decision}
use Rattle.zs_step.specs.declared.leaf.Past.{Past}
use Rattle.zs_step.specs.declared.leaf.Leaf.{Leaf}
use Rattle.zs_step.specs.declared.leaf.Leaf.TheVariants.{Forever, Recurs, Spaced, Fixed}
use Rattle.zs_step.specs.declared.leaf.Leaf.TheVariants.{Exponential, Fibonacci, Identity, Elapsed}
use Rattle.zs_step.specs.declared.leaf.Leaf.TheVariants.{Linear, Windowed}
use Rattle.zs_step.specs.History.{History, first_moment}
use Rattle.zs_step.specs.Answer.{answer, leaf_answer, fibonacci_number, next_run}

-- the rule of a leaf
abbrev pub state_leaf : Leaf → LeafRule
state_leaf (Forever b) = forever
state_leaf (Recurs k b) = recurs k
state_leaf (Spaced d b) = spaced d
state_leaf (Fixed p past run) = fixed p
state_leaf (Exponential b f x y) = exponential b f
state_leaf (Fibonacci o x y) = fibonacci o
state_leaf (Identity x) = identity
state_leaf (Elapsed m x) = elapsed
state_leaf (Linear n x) = linear n
state_leaf (Windowed p past) = windowed p

-- a number, or 0
abbrev pub or_zero : Option ℕ → ℕ
or_zero None = 0
or_zero (Some n) = n

-- the number of steps before the last one, or 0
abbrev pub before_in : Option Past → ℕ
before_in None = 0
before_in (Some past) = past.before

-- the output of the last step
abbrev pub leaf_output : Leaf → ℕ
leaf_output (Forever b) = or_zero b
leaf_output (Recurs k b) = or_zero b
leaf_output (Spaced d b) = or_zero b
leaf_output (Fixed p past run) = before_in past
leaf_output (Exponential b f x y) = x
leaf_output (Fibonacci o x y) = x
leaf_output (Identity x) = x
leaf_output (Elapsed m x) = x
leaf_output (Linear n x) = x
leaf_output (Windowed p past) = before_in past

-- the number of steps, given that before the last one
abbrev pub next_count : Option ℕ → ℕ
next_count None = 0
next_count (Some n) = saturated (n + 1)

-- the past after one more step
abbrev pub next_past : Option Past → ℕ → Past
next_past None now = record { first = now; before = 0 }
next_past (Some past) now = record { first = past.first; before = saturated (past.before + 1) }

-- the number of steps before the last one, if there is one
abbrev pub before_of : History → Option ℕ
before_of [] = None
before_of (p ∷ h) = Some (saturated (length h))

-- the moment of the first step, if there is one
abbrev pub start_of : History → Option ℕ
start_of [] = None
start_of (p ∷ h) = Some (first_moment (p ∷ h))

-- both, if there is a step
abbrev pub past_of : History → Option Past
past_of [] = None
past_of (p ∷ h) = Some (record { first = first_moment (p ∷ h); before = saturated (length h) })

-- a leaf represents a history
abbrev pub LeafRepresents : Leaf → History → Type 0
LeafRepresents (Forever b) h = b ≡ before_of h
LeafRepresents (Recurs k b) h = b ≡ before_of h
LeafRepresents (Spaced d b) h = b ≡ before_of h
LeafRepresents (Fixed p past run) h = (past ≡ past_of h) × (run ≡ next_run p h)
LeafRepresents (Exponential b f x y) h = y ≡ saturated (b * f ^ length h)
LeafRepresents (Fibonacci o x y) h = (x ≡ saturated (o * fibonacci_number (length h)))
    × (y ≡ saturated (o * fibonacci_number (suc (length h))))
LeafRepresents (Identity x) h = Unit {0}
LeafRepresents (Elapsed m x) h = m ≡ start_of h
LeafRepresents (Linear n x) h = x ≡ saturated (n * length h)
LeafRepresents (Windowed p past) h = past ≡ past_of h

-- the output of a leaf, with a decision, is the result of a rule at the last step of a history
abbrev pub LeafAnswers : Leaf → LeafRule → History → Decision → Type 0
LeafAnswers l rule h d = answer (number (leaf_output l)) d ≡ leaf_answer rule h

-- the output of a leaf is that of a rule at the last step of a history
abbrev pub HasOutput : Leaf → LeafRule → History → Type 0
HasOutput l rule h = number (leaf_output l) ≡ (leaf_answer rule h).output

-- a leaf with the rule's output has the rule's decision
abbrev pub HasDecision : Leaf → LeafRule → History → Decision → Type 0
HasDecision l rule h d = HasOutput l rule h → d ≡ (leaf_answer rule h).decision
