-- What readers of a timeline may rely on, on every clock. `src/laws.rt` states it, and
-- `proofs/Polling.antt` proves it.
use Rattle.std.specs.Prelude.{◌≡◌, ℕ, ◌≤◌, ◌<◌, List, ◌∷◌, ◌++◌, Some, None, IfSome, is_some, not}
use Rattle.std.specs.List.{All}
use Rattle.zs_effect.specs.Scripts.{IsScript}
use Rattle.zs_drive.specs.Clocks.{first_tick_from, AreTicks}
use Rattle.zs_drive.specs.Values.{JobRecord, AttemptedValue}
use Rattle.zs_drive.specs.Timeline.{timeline_of, poll_moments}
use Rattle.zs_drive.specs.Tasks.{timeline_at}

-- a law that is true of every job and every clock
abbrev pub OnEachClock : (JobRecord → List ℕ → Type 0) → Type 0
OnEachClock Law = (job : JobRecord) (ticks : List ℕ)
    → IsScript job.script → AreTicks ticks → Law job ticks

-- the moments at which a job is polled on a clock
abbrev pub polls_on : JobRecord → List ℕ → List ℕ
polls_on job ticks = poll_moments (timeline_of job ticks).attempts

-- The clock has no tick at or after the due moment, so nothing more can happen.
abbrev pub WaitsForNoTick : JobRecord → List ℕ → Type 0
WaitsForNoTick job ticks =
    IfSome (timeline_of job ticks).due (λ due. first_tick_from ticks due ≡ None)

-- The job has a due moment exactly while it has no ending.
abbrev pub WaitsOrEnded : JobRecord → List ℕ → Type 0
WaitsOrEnded job ticks =
    is_some (timeline_of job ticks).due ≡ not (is_some (timeline_of job ticks).ending)

-- An attempt ends later than it began.
abbrev pub EndsLater : JobRecord → List ℕ → Type 0
EndsLater job ticks = (earlier later : List AttemptedValue) (attempt : AttemptedValue)
    → (timeline_of job ticks).attempts ≡ earlier ++ attempt ∷ later
    → IfSome attempt.ended (λ end. attempt.begun < end.at)

-- The next attempt begins when the one before it ended, or later.
abbrev pub BeginsLater : JobRecord → List ℕ → Type 0
BeginsLater job ticks = (earlier later : List AttemptedValue) (attempt next : AttemptedValue)
    → (timeline_of job ticks).attempts ≡ earlier ++ attempt ∷ next ∷ later
    → IfSome attempt.ended (λ end. end.at ≤ next.begun)

-- The polls are at ticks.
abbrev pub PollsAtTicks : JobRecord → List ℕ → Type 0
PollsAtTicks job ticks =
    All (λ moment. first_tick_from ticks moment ≡ Some moment) (polls_on job ticks)

-- The polls rise strictly, so no moment has two of them.
abbrev pub PollsRise : JobRecord → List ℕ → Type 0
PollsRise job ticks = AreTicks (polls_on job ticks)

-- A job that is polled only at these moments has the timeline that it has on the whole clock.
abbrev pub PollsSuffice : JobRecord → List ℕ → Type 0
PollsSuffice job ticks = timeline_at job (polls_on job ticks) ≡ timeline_of job ticks

-- These polls are those of a first part of the clock, and give the timeline of that part.
pub record IsReached (job : JobRecord) (ticks first : List ℕ) : Type 0 where
  pub past : List ℕ
  pub later : List ℕ
  pub split : ticks ≡ past ++ later
  pub polls : polls_on job past ≡ first
  pub same : timeline_at job first ≡ timeline_of job past

-- After any number of its first polls, a job has its timeline on the clock up to then.
abbrev pub FirstPollsSuffice : JobRecord → List ℕ → Type 0
FirstPollsSuffice job ticks = (first rest : List ℕ)
    → polls_on job ticks ≡ first ++ rest → IsReached job ticks first
