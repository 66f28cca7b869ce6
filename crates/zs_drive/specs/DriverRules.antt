-- The rules of ZIO's `retry` and `repeat` on a clock, for each place in the list of attempts. None
-- of them is recursive. A reader of `Timeline` need not follow its recursion: by the law
-- `one_timeline` it is the only list that satisfies these rules.
use Rattle.std.specs.Prelude.{◌≡◌, ℕ, ◌+◌, ◌≤◌, ◌<◌, List, [], ◌∷◌, ◌++◌, length, fold, Option}
use Rattle.std.specs.Prelude.{Some, None}
use Rattle.zs_term.specs.Saturating.{saturated}
use Rattle.zs_effect.specs.Scripts.{IsScript, entry_at}
use Rattle.zs_step.specs.declared.decision.Decision.{Decision}
use Rattle.zs_step.specs.declared.decision.Decision.TheVariants.{Stop, Next}
use Rattle.zs_step.specs.History.{History}
use Rattle.zs_step.specs.Answer.{Answer, answer_of}
use Rattle.zs_drive.specs.declared.record.Ending.{Ending}
use Rattle.zs_drive.specs.Clocks.{first_tick_from, AreTicks}
use Rattle.zs_drive.specs.Values.{JobRecord, AttemptedValue, EndedValue}
use Rattle.zs_drive.specs.Timeline.{Timeline, from, timeline_of, number_of, ending_by_outcome}
use Rattle.zs_drive.specs.Timeline.{ending_by_schedule}

-- the pair that the end of an attempt adds to the schedule's history
abbrev pub pair_of : EndedValue → ℕ × ℕ
pair_of ended = (ended.at, number_of ended.outcome)

-- a running attempt adds nothing
abbrev pub longer_by : History → Option EndedValue → History
longer_by h None = h
longer_by h (Some ended) = pair_of ended ∷ h

-- a history extended by the ends of these attempts, newest first
abbrev pub history_from : History → List AttemptedValue → History
history_from h attempts = fold (λ g attempt. longer_by g attempt.ended) h attempts

-- the history on which the schedule is evaluated after these attempts
abbrev pub history_after : List AttemptedValue → History
history_after attempts = history_from [] attempts

module _ (job : JobRecord) (ticks : List ℕ) where
  -- the due moment of an attempt that began at s, after these attempts
  abbrev pub end_due : List AttemptedValue → ℕ → ℕ
  end_due earlier s = saturated (s + (entry_at job.script (length earlier + 1)).ms)

  -- the schedule is stepped, unless the outcome itself ends the job
  abbrev pub asked_unless : Option Ending → Answer → Option Answer
  asked_unless (Some ending) answered = None
  asked_unless None answered = Some answered

  -- an attempt that began at s, after these attempts, has this end
  pub record EndsBy (earlier : List AttemptedValue) (s : ℕ) (end : EndedValue) : Type 0 where
    pub at : first_tick_from ticks (end_due earlier s) ≡ Some end.at
    pub outcome : end.outcome ≡ (entry_at job.script (length earlier + 1)).outcome
    pub step : end.step ≡ asked_unless (ending_by_outcome job.mode end.outcome)
        (answer_of job.schedule ((end.at, number_of end.outcome) ∷ history_after earlier))

  -- the attempt is running if there is no tick for its end
  abbrev pub IsEnd : List AttemptedValue → ℕ → Option EndedValue → Type 0
  IsEnd earlier s None = first_tick_from ticks (end_due earlier s) ≡ None
  IsEnd earlier s (Some end) = EndsBy earlier s end

  -- after an attempt that ended at e, and a decision, the next attempt begins at s
  abbrev pub BeginsOn : ℕ → ℕ → Decision → Type 0
  BeginsOn e s Stop = ⊥
  BeginsOn e s (Next x) = (x ≤ e → s ≡ e) × (e < x → first_tick_from ticks x ≡ Some s)

  -- the same after an attempt, by the schedule's result
  abbrev pub BeginsBy : ℕ → ℕ → Option Answer → Type 0
  BeginsBy e s None = ⊥
  BeginsBy e s (Some answered) = BeginsOn e s answered.decision

  -- the same after an attempt, by how it ended
  abbrev pub BeginsAfter : ℕ → Option EndedValue → Type 0
  BeginsAfter s None = ⊥
  BeginsAfter s (Some end) = BeginsBy end.at s end.step

  -- after a last attempt with this end and decision, these are the due moment and the ending
  abbrev pub StopsOn : EndedValue → Option ℕ → Option Ending → Decision → Type 0
  StopsOn end due ending Stop =
      (due ≡ None) × (ending ≡ Some (ending_by_schedule job.mode end.outcome))
  StopsOn end due ending (Next x) =
      (end.at < x) × (first_tick_from ticks x ≡ None) × (due ≡ Some x) × (ending ≡ None)

  -- the same, by the ending that the outcome itself gives
  abbrev pub StopsBy : EndedValue → Option ℕ → Option Ending
      → Option Ending → Option Answer → Type 0
  StopsBy end due ending (Some x) step = (due ≡ None) × (ending ≡ Some x)
  StopsBy end due ending None None = ⊥
  StopsBy end due ending None (Some answered) = StopsOn end due ending answered.decision

  -- nothing follows the last attempt: it runs, it ended the job, or the next one has no tick
  abbrev pub IsLast : List AttemptedValue → ℕ → Option ℕ
      → Option Ending → Option EndedValue → Type 0
  IsLast earlier s due ending None = (due ≡ Some (end_due earlier s)) × (ending ≡ None)
  IsLast earlier s due ending (Some end) =
      StopsBy end due ending (ending_by_outcome job.mode end.outcome) end.step

  -- the rules, for each place of the list
  pub record IsTimeline (timeline : Timeline) : Type 0 where
    pub none : timeline.attempts ≡ [] → (first_tick_from ticks job.start ≡ None)
        × (timeline.due ≡ Some job.start) × (timeline.ending ≡ None)
    pub first : (a : AttemptedValue) (later : List AttemptedValue)
        → timeline.attempts ≡ a ∷ later → first_tick_from ticks job.start ≡ Some a.begun
    pub ends : (earlier later : List AttemptedValue) (a : AttemptedValue)
        → timeline.attempts ≡ earlier ++ a ∷ later → IsEnd earlier a.begun a.ended
    pub next : (earlier later : List AttemptedValue) (a b : AttemptedValue)
        → timeline.attempts ≡ earlier ++ a ∷ b ∷ later → BeginsAfter b.begun a.ended
    pub last : (earlier : List AttemptedValue) (a : AttemptedValue) → timeline.attempts
        ≡ earlier ++ a ∷ [] → IsLast earlier a.begun timeline.due timeline.ending a.ended

-- On every clock the timeline of a job satisfies the rules, and no other list does.
abbrev pub OneTimeline : Type 0
OneTimeline = (job : JobRecord) (ticks : List ℕ) → IsScript job.script → AreTicks ticks
    → IsTimeline job ticks (timeline_of job ticks)
    × ((timeline : Timeline) → IsTimeline job ticks timeline → timeline ≡ timeline_of job ticks)

-- The number of ticks as a bound on attempts loses none: any greater bound gives the same timeline.
abbrev pub BoundIsNeverMet : Type 0
BoundIsNeverMet = (job : JobRecord) (ticks : List ℕ) → IsScript job.script → AreTicks ticks
    → (n : ℕ) → length ticks ≤ n → from job ticks n [] job.start ≡ timeline_of job ticks
