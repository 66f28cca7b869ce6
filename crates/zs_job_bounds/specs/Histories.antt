-- The histories of a job's timeline. Readers of the laws trust this file and `JobBounds`.
use Rattle.std.specs.Prelude.{◌≡◌, ℕ, ◌≤◌, List, ◌∷◌, ◌++◌, Some}
use Rattle.std.specs.List.{All}
use Rattle.zs_term.specs.Saturating.{max_moment}
use Rattle.zs_effect.specs.declared.script.Beat.{Beat}
use Rattle.zs_step.specs.History.{History}
use Rattle.zs_drive.specs.Values.{JobRecord, AttemptedValue, EndedValue}
use Rattle.zs_drive.specs.Timeline.{timeline_of, number_of}
use Rattle.zs_drive.specs.DriverRules.{pair_of, history_after}

-- Each value and each error code of a script has 64 bits. Those of a program do: they are `u64`.
abbrev pub HasInputs : List Beat → Type 0
HasInputs beats = All (λ beat. number_of beat.outcome ≤ max_moment) beats

-- one of the attempts has this end, and these are the earlier ones
pub record IsEndAfter (attempts earlier : List AttemptedValue) (end : EndedValue) : Type 0 where
  pub begun : ℕ
  pub later : List AttemptedValue
  pub split : attempts ≡ earlier ++ record { begun = begun; ended = Some end } ∷ later

-- the history on which the schedule is evaluated at this end, unless the outcome itself ends the
-- job
abbrev pub history_at : List AttemptedValue → EndedValue → History
history_at earlier end = pair_of end ∷ history_after earlier

-- the history at one of the ends of a job's timeline
pub record IsHistoryOf (job : JobRecord) (ticks : List ℕ) (h : History) : Type 0 where
  pub earlier : List AttemptedValue
  pub end : EndedValue
  pub ends : IsEndAfter (timeline_of job ticks).attempts earlier end
  pub is : h ≡ history_at earlier end
