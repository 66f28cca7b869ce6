-- Words for the laws of schedules. Each states over a whole history what `Answer` defines step by
-- step. The functions of `src/laws.rt` prove the laws for every schedule and every history.
use Rattle.std.specs.Prelude.{◌≡◌, ℕ, ◌+◌, ◌*◌, ◌<◌, ◌≤◌, Bool, true, false, [], ◌∷◌, ◌++◌, length}
use Rattle.std.specs.Prelude.{Option, Some, None, IfSome}
use Rattle.zs_term.specs.Saturating.{saturated}
use Rattle.zs_term.specs.Output.{left, right, passes, picked}
use Rattle.zs_term.specs.Schedule.{Schedule}
use Rattle.zs_term.specs.declared.term.Test.{Test}
use Rattle.zs_term.specs.declared.term.Pick.{Pick}
use Rattle.zs_term.specs.declared.term.Cmp.TheVariants.{Lt}
use Rattle.zs_step.specs.declared.decision.Decision.{Decision}
use Rattle.zs_step.specs.declared.decision.Decision.TheVariants.{Stop, Next}
use Rattle.zs_step.specs.declared.leaf.Past.{Past}
use Rattle.zs_step.specs.declared.leaf.Leaf.{Leaf}
use Rattle.zs_step.specs.declared.leaf.Leaf.TheVariants.{Forever, Recurs, Spaced, Fixed}
use Rattle.zs_step.specs.declared.leaf.Leaf.TheVariants.{Exponential, Fibonacci, Identity, Elapsed}
use Rattle.zs_step.specs.declared.leaf.Leaf.TheVariants.{Linear, Windowed}
use Rattle.zs_step.specs.History.{History, first_moment, last_moment, earlier, IsInOrder}
use Rattle.zs_step.specs.LeafState.{LeafRepresents, next_count}
use Rattle.zs_step.specs.Answer.{Answer, answer, answer_of, is_next, since_reset, next_run}

-- a schedule continues at every step of a history
abbrev pub GoesOnThroughout : (History → Answer) → History → Type 0
GoesOnThroughout a h = (later before : History) (p : ℕ × ℕ)
    → h ≡ later ++ p ∷ before → is_next (a (p ∷ before)).decision ≡ true

-- a part of a history: from the least step at which a schedule is done, up to the last step
pub record IsFromFirstDone (a : History → Answer) (h part : History) : Type 0 where
  pub before : History
  pub first : ℕ × ℕ
  pub later : History
  pub whole : h ≡ later ++ first ∷ before
  pub is : part ≡ later ++ first ∷ []
  pub done : is_next (a (first ∷ before)).decision ≡ false
  pub least : GoesOnThroughout a before

-- the result with its output as the first side of a choice
abbrev pub in_left : Answer → Answer
in_left a = answer (left a.output) a.decision

-- the result with its output as the second side of a choice
abbrev pub in_right : Answer → Answer
in_right a = answer (right a.output) a.decision

-- the test that a number is below another
abbrev pub below : ℕ → Test
below k = record { cmp = Lt; than = k }

-- a decision to continue isn't for an earlier moment
abbrev pub IsNotBefore : ℕ → Decision → Type 0
IsNotBefore moment Stop = Unit {0}
IsNotBefore moment (Next x) = moment ≤ x

-- whether the last step of a history resets a schedule: its output so far passes the test
abbrev pub resets_at : (History → Answer) → Pick → Test → History → Bool
resets_at a k t [] = false
resets_at a k t (p ∷ h) = passes t (picked k (a (p ∷ since_reset a k t h)).output)

-- no step of the history `h`, which follows `before`, resets a schedule
abbrev pub IsWithoutReset : (History → Answer) → Pick → Test → History → History → Type 0
IsWithoutReset a k t h before = (later earlier : History) (p : ℕ × ℕ)
    → h ≡ later ++ p ∷ earlier → resets_at a k t (p ∷ (earlier ++ before)) ≡ false

-- A part of a history: from the last step that resets a schedule on. That step begins it anew, so
-- what the part counts there is the step alone.
pub record IsFromLastReset (a : History → Answer)
    (k : Pick) (t : Test) (h part : History) : Type 0 where
  pub before : History
  pub first : ℕ × ℕ
  pub later : History
  pub whole : h ≡ later ++ first ∷ before
  pub is : part ≡ later ++ first ∷ []
  pub resets : resets_at a k t (first ∷ before) ≡ true
  pub none : IsWithoutReset a k t later (first ∷ before)

-- a moment is a boundary of a period: the first moment plus a whole number of periods
pub record IsBoundary (period first moment : ℕ) : Type 0 where
  pub periods : ℕ
  pub is : moment ≡ first + period * periods

-- the least boundary after a moment
pub record IsNextBoundary (period first now moment : ℕ) : Type 0 where
  pub boundary : IsBoundary period first moment
  pub later : now < moment
  pub least : (m : ℕ) → IsBoundary period first m → now < m → moment ≤ m

-- the least boundary after the last step, counted from the first step
abbrev pub IsBoundaryAfter : ℕ → History → ℕ → Type 0
IsBoundaryAfter period h moment = IsNextBoundary period (first_moment h) (last_moment h) moment

-- The moments don't fall, and the last step is at most a period after the run before it.
pub record IsInTime (period : ℕ) (h : History) : Type 0 where
  pub order : IsInOrder h
  pub timely : last_moment h ≤ next_run period (earlier h) + period

-- a schedule continues at this moment after the last step
abbrev pub ContinuesAt : Schedule → History → ℕ → Type 0
ContinuesAt t h moment = (answer_of t h).decision ≡ Next moment

-- the number of steps before the last one, if there was a step
abbrev pub before_at : Option Past → Option ℕ
before_at None = None
before_at (Some past) = Some past.before

-- The number of steps, as a leaf that counts them has it: one more than it stores, or 0 if it
-- stores none.
abbrev pub steps_at : Leaf → Option ℕ
steps_at (Forever b) = Some (next_count b)
steps_at (Recurs k b) = Some (next_count b)
steps_at (Spaced d b) = Some (next_count b)
steps_at (Fixed p past run) = Some (next_count (before_at past))
steps_at (Exponential b f x y) = None
steps_at (Fibonacci o x y) = None
steps_at (Identity x) = None
steps_at (Elapsed m x) = None
steps_at (Linear n x) = None
steps_at (Windowed p past) = Some (next_count (before_at past))

-- a leaf that represents a history has counted its steps, up to 2^64 - 1
abbrev pub HasCounted : Leaf → History → Type 0
HasCounted l h = LeafRepresents l h → IfSome (steps_at l) (λ n. n ≡ saturated (length h))
