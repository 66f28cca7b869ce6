-- The invariant of a task's attempts, over plain values.
use Rattle.std.specs.Prelude.{◌≡◌, ℕ, ◌≤◌, Bool, true, false, List, [], ◌∷◌, ◌++◌, length}
use Rattle.std.specs.Prelude.{Option, Some, None}
use Rattle.zs_effect.specs.Attempts.{AttemptValue}
use Rattle.zs_step.specs.declared.compiled.Compiled.{Compiled}
use Rattle.zs_step.specs.Answer.{Answer, is_next}
use Rattle.zs_step.specs.Compiled.{StandsFor, last_seen}
use Rattle.zs_drive.specs.Clocks.{AreTicks}
use Rattle.zs_drive.specs.Values.{JobRecord, AttemptedValue, EndedValue}
use Rattle.zs_drive.specs.Timeline.{Timeline, timeline_of, poll_moments, beat_after}
use Rattle.zs_drive.specs.DriverRules.{history_after}

-- whether the schedule continued at a step, if there was one
abbrev pub step_continued : Option Answer → Bool
step_continued None = false
step_continued (Some step) = is_next step.decision

-- the same for the end of an attempt, if it has one
abbrev pub end_continued : Option EndedValue → Bool
end_continued None = false
end_continued (Some ended) = step_continued ended.step

-- whether the schedule was stepped after the attempt, and continued
abbrev pub continued : AttemptedValue → Bool
continued attempt = end_continued attempt.ended

-- the schedule continued after each attempt
unfoldable pub AllContinued : List AttemptedValue → Type 0
AllContinued [] = Unit {0}
AllContinued (attempt ∷ attempts) = (continued attempt ≡ true) × AllContinued attempts

-- an attempt that began at s and is running
abbrev pub runs : ℕ → AttemptedValue
runs s = record { begun = s; ended = None }

-- the timeline is that of the job on the clock of its poll moments; `polls` is their number
pub record IsOnTimeline (job : JobRecord) (timeline : Timeline) (polls : ℕ) : Type 0 where
  pub same : timeline ≡ timeline_of job (poll_moments timeline.attempts)
  pub clock : AreTicks (poll_moments timeline.attempts)
  pub counted : polls ≡ length (poll_moments timeline.attempts)
  pub few : length timeline.attempts ≤ polls

-- the schedule's state represents the attempts, and was stepped at `seen` at the latest
pub record IsStepped (attempts : List AttemptedValue)
    (schedule : Compiled) (seen : ℕ) : Type 0 where
  pub stands : StandsFor schedule (history_after attempts)
  pub past : last_seen schedule ≤ seen

-- the last attempt runs: it began at s, after others after which the schedule continued
pub record IsRunning (job : JobRecord) (attempts : List AttemptedValue)
    (attempt : AttemptValue) (seen : ℕ) (others : List AttemptedValue) (s : ℕ) : Type 0 where
  pub last : attempts ≡ others ++ runs s ∷ []
  pub continued : AllContinued others
  pub outcome : attempt.outcome ≡ (beat_after job (history_after others)).outcome
  pub saw : attempt.seen ≤ seen
