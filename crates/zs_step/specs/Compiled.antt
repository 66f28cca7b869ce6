-- What callers know about a compiled schedule.
use Rattle.std.specs.Prelude.{◌≡◌, ◌≤◌, ◌<◌, ◌+◌, ℕ, Bool, true, false, List, ◌∷◌, length, take}
use Rattle.std.specs.Prelude.{slice_index_or, Some, Result, IfOk, OnOk, IsOk, is_err, IsTrue}
use Rattle.zs_term.specs.declared.term.Term.{Term}
use Rattle.zs_term.specs.Schedule.{Schedule, schedule_of, weight}
use Rattle.zs_term.specs.Output.{Output, output_of}
use Rattle.zs_term.specs.OutputKind.{OutputKind, HasKind}
use Rattle.zs_term.specs.Kinds.{kind_of}
use Rattle.zs_step.specs.declared.compiled.Compiled.{Compiled}
use Rattle.zs_step.specs.declared.decision.Decision.{Decision}
use Rattle.zs_step.specs.declared.fault.StepFault.{StepFault}
use Rattle.zs_step.specs.declared.stepped.Stepped.{Stepped}
use Rattle.zs_step.specs.History.{History, history_of, last_moment}
use Rattle.zs_step.specs.Memory.{is_bare, keeps_no_list}
use Rattle.zs_step.specs.Answer.{answer, answer_of}
use Rattle.zs_step.specs.Visits.{visits}
use Rattle.zs_step.specs.State.{state_schedule, last_output, Represents}

-- the term that was compiled
abbrev pub compiled_term : Compiled → Term
compiled_term c = c.checked

-- the schedule that was compiled
abbrev pub compiled_schedule : Compiled → Schedule
compiled_schedule c = schedule_of c.checked

-- the output of the last step
abbrev pub compiled_output : Compiled → Output
compiled_output c = last_output c.state

-- whether a step of it ran out of memory
abbrev pub is_broken : Compiled → Bool
is_broken c = c.broken

-- the last moment that it was stepped with, or 0
abbrev pub last_seen : Compiled → ℕ
last_seen c = c.last

-- it isn't broken, and its state represents this history
pub record StandsFor (c : Compiled) (h : History) : Type 0 where
  pub whole : c.broken ≡ false
  pub made_of : state_schedule c.state ≡ compiled_schedule c
  pub state : Represents c.state h
  pub last : c.last ≡ last_moment h

-- an output, a decision and a number of visits are those of the schedule at the last step of the
-- history
pub record IsResult (t : Schedule) (h : History) (o : Output) (d : Decision) (n : ℕ) : Type 0 where
  pub answered : answer o d ≡ answer_of t h
  pub visited : n ≡ visits t h
  pub bound : n ≤ weight t
  pub kinded : (a : OutputKind) → kind_of t ≡ Some a → HasKind o a

-- the same for what a step returns
abbrev pub IsAnswer : Schedule → History → Stepped → Type 0
IsAnswer t h r = IsResult t h (output_of r.out) r.decision r.visits

-- each of a list of results is that of a list of pairs up to the pair with its index
abbrev pub AreAnswers : Schedule → List (ℕ × ℕ) → List Stepped → Type 0
AreAnswers t pairs results = (j : ℕ) (d : Stepped) → j < length pairs →
    IsAnswer t (history_of (take (j + 1) pairs)) (slice_index_or results j d)

-- One step of a schedule with a moment and an input, which returns a decision and its visits.
pub record Advances (old new : Compiled) (now input : ℕ)
    (result : Result (Decision × ℕ) StepFault) : Type 0 where
  -- The output that it then has, the decision and the visits are those of every history that it
  -- represented, with this step.
  pub answered : IfOk result (λ r. (h : History) → StandsFor old h →
      IsResult (compiled_schedule old) ((now, input) ∷ h) (compiled_output new) r.0 r.1)
  -- It then represents that history with this step.
  pub stands : OnOk result ((h : History) → StandsFor old h → StandsFor new ((now, input) ∷ h))
  -- A schedule that collects no outputs needs no memory.
  pub succeeds : (h : History) → StandsFor old h
      → keeps_no_list (compiled_schedule old) ≡ true → IsOk result
  pub seen : last_seen new ≤ now
  -- A step that fails breaks the schedule, and a broken one never changes.
  pub breaks : is_broken new ≡ is_err result
  pub stays : IsTrue (is_broken old) → new ≡ old

-- the same with the output made
pub record Steps (old new : Compiled) (now input : ℕ)
    (result : Result Stepped StepFault) : Type 0 where
  pub answered : IfOk result (λ r. (h : History) → StandsFor old h →
      IsAnswer (compiled_schedule old) ((now, input) ∷ h) r)
  pub stands : OnOk result ((h : History) → StandsFor old h → StandsFor new ((now, input) ∷ h))
  -- A schedule that makes no pair, no side of a choice and no list needs no memory.
  pub succeeds : (h : History) → StandsFor old h
      → is_bare (compiled_schedule old) ≡ true → IsOk result
  pub seen : last_seen new ≤ now
  pub breaks : is_broken new ≡ is_err result
  pub stays : IsTrue (is_broken old) → new ≡ old
