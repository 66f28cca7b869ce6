-- The contract of a step for each node of two parts, and for one that is reset, from its parts' old
-- states to their new ones: for private contracts alone. `p` is the box that stores the parts.
use Rattle.std.specs.Prelude.{ℕ, Bool}
use Rattle.zs_term.specs.declared.term.Test.{Test}
use Rattle.zs_term.specs.declared.term.Pick.{Pick}
use Rattle.zs_step.specs.declared.decision.Decision.{Decision}
use Rattle.zs_step.specs.declared.state.State.{State}
use Rattle.zs_step.specs.declared.state.State.TheVariants.{Both', Either', AndThen', ResetWhen'}
use Rattle.zs_step.specs.State.{Answers, CountsOn}

-- what a step decides, with the output that a `&&` then has, is its result
abbrev pub BothAnswers : State × State → State × State → ℕ → ℕ → Decision → Type 0
BothAnswers old new now input d =
    (p : _) → Answers (Both' p old.0 old.1) (Both' p new.0 new.1) now input d

-- a step of a `&&` counts its visits
abbrev pub BothCounts : State × State → State × State → ℕ → ℕ → ℕ → ℕ → Type 0
BothCounts old new now input before after =
    (p : _) → CountsOn (Both' p old.0 old.1) (Both' p new.0 new.1) now input before after

-- the same of a `||`
abbrev pub EitherAnswers : State × State → State × State → ℕ → ℕ → Decision → Type 0
EitherAnswers old new now input d =
    (p : _) → Answers (Either' p old.0 old.1) (Either' p new.0 new.1) now input d

-- a step of a `||` counts its visits
abbrev pub EitherCounts : State × State → State × State → ℕ → ℕ → ℕ → ℕ → Type 0
EitherCounts old new now input before after =
    (p : _) → CountsOn (Either' p old.0 old.1) (Either' p new.0 new.1) now input before after

-- the same of an `andThenEither`, with whether its first part was done and is done
abbrev pub AndThenAnswers : Bool → Bool → State × State → State × State → ℕ → ℕ → Decision → Type 0
AndThenAnswers was is old new now input d =
    (p : _) → Answers (AndThen' was p old.0 old.1) (AndThen' is p new.0 new.1) now input d

-- a step of an `andThenEither` counts its visits
abbrev pub AndThenCounts : Bool → Bool → State × State → State × State → ℕ → ℕ → ℕ → ℕ → Type 0
AndThenCounts was is old new now input n m =
    (p : _) → CountsOn (AndThen' was p old.0 old.1) (AndThen' is p new.0 new.1) now input n m

-- the same of a `resetWhen`
abbrev pub ResetAnswers : Pick → Test → State → State → ℕ → ℕ → Decision → Type 0
ResetAnswers k t old new now input d =
    (p : _) → Answers (ResetWhen' p old k t) (ResetWhen' p new k t) now input d

-- a step of a `resetWhen` counts its visits
abbrev pub ResetCounts : Pick → Test → State → State → ℕ → ℕ → ℕ → ℕ → Type 0
ResetCounts k t old new now input before after =
    (p : _) → CountsOn (ResetWhen' p old k t) (ResetWhen' p new k t) now input before after
