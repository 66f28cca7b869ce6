-- What the bounds of a schedule say about a job with this schedule, in words of its timeline.
use Rattle.std.specs.Prelude.{◌≡◌, ℕ, ◌+◌, ◌≤◌, true, List, [], ◌∷◌, length, Option, Some, None}
use Rattle.std.specs.List.{All}
use Rattle.zs_effect.specs.Scripts.{IsScript}
use Rattle.zs_term.specs.Output.{Output}
use Rattle.zs_term.specs.Schedule.{has_factors}
use Rattle.zs_step.specs.declared.decision.Decision.TheVariants.{Stop, Next}
use Rattle.zs_step.specs.History.{History}
use Rattle.zs_step.specs.Answer.{Answer, answer, answer_of}
use Rattle.zs_drive.specs.declared.record.Ending.{Ending}
use Rattle.zs_drive.specs.Clocks as clocks
use Rattle.zs_drive.specs.Clocks.{first_tick_from, AreTicks}
use Rattle.zs_drive.specs.Values.{JobRecord, AttemptedValue, EndedValue}
use Rattle.zs_drive.specs.Timeline.{timeline_of}
use Rattle.zs_bounds.specs.declared.driver.Driver.{Driver}
use Rattle.zs_bounds.specs.declared.told.Bounds.{Bounds}
use Rattle.zs_bounds.specs.Driven.{exact_driver, exact_waits, shortest, max_tick}
use Rattle.zs_bounds.specs.Driven.{IsNeverEarly, IsDriven}
use Rattle.zs_bounds.specs.Bounds.{wait_of, Promises}
use Rattle.zs_bounds.specs.BoundsOf.{bounds_of}
use Rattle.zs_job_bounds.specs.Histories.{HasInputs, IsEndAfter, history_at, IsHistoryOf}

-- a law that is true of every job with a valid script, and of every clock
abbrev pub OnEachClock : (JobRecord → List ℕ → Type 0) → Type 0
OnEachClock Law = (job : JobRecord) (ticks : List ℕ) → IsScript job.script
    → HasInputs job.script → AreTicks ticks → Law job ticks

-- The greatest moment of a driver is that of a job.
abbrev pub SameLimit : Type 0
SameLimit = max_tick ≡ clocks.max_tick

-- What a step at an end returns is the schedule's result on the history there.
abbrev pub StepsOnHistories : JobRecord → List ℕ → Type 0
StepsOnHistories job ticks = (earlier : List AttemptedValue) (end : EndedValue) (step : Answer)
    → IsEndAfter (timeline_of job ticks).attempts earlier end
    → end.step ≡ Some step → step ≡ answer_of job.schedule (history_at earlier end)

-- ---- what a job does on a clock

-- The clock ticks each millisecond, up to its last tick.
abbrev pub TicksEachMs : List ℕ → Type 0
TicksEachMs ticks = (x t : ℕ) → first_tick_from ticks x ≡ Some t → t ≡ x

-- From a moment on, the next tick is at most `gap` later, up to the last tick.
abbrev pub TicksWithin : ℕ → ℕ → List ℕ → Type 0
TicksWithin gap start ticks =
    (x t : ℕ) → start ≤ x → first_tick_from ticks x ≡ Some t → t ≤ x + gap

-- The first tick is at most `gap` after a moment, and each other one at most `gap` + 1 after the
-- one before.
abbrev pub AreApart : ℕ → ℕ → List ℕ → Type 0
AreApart gap start [] = Unit {0}
AreApart gap start (t ∷ ticks) = (t ≤ start + gap) × AreApart gap (t + 1) ticks

-- such ticks are within the gap
abbrev pub ApartAreWithin : Type 0
ApartAreWithin =
    (gap start : ℕ) (ticks : List ℕ) → AreApart gap start ticks → TicksWithin gap start ticks

-- A job does on a clock what a driver d may do. No entry of its script is shorter than the
-- least attempt. With a most, ticks are at most `late` + 1 ms apart from the job's start on. So an
-- attempt begins at most `late` after its wait, and is seen to end at most `late` after its entry
-- says.
pub record Takes (d : Driver) (job : JobRecord) (ticks : List ℕ) : Type 0 where
  pub least : All (λ beat. shortest d ≤ beat.ms) job.script
  pub most : (k : ℕ) → d.most ≡ Some k
      → All (λ beat. beat.ms + d.waits.late ≤ k) job.script
      × TicksWithin d.waits.late job.start ticks
  -- a job waits as its schedule says, until the next tick
  pub waits : IsNeverEarly d.waits

-- The attempts of a job take as long as d says, on a clock that ticks each millisecond if d has a
-- most, and waits are exact.
pub record TakesEachMs (d : Driver) (job : JobRecord) (ticks : List ℕ) : Type 0 where
  pub least : All (λ beat. shortest d ≤ beat.ms) job.script
  pub most : (k : ℕ) → d.most ≡ Some k → All (λ beat. beat.ms ≤ k) job.script × TicksEachMs ticks
  pub waits : d.waits ≡ exact_waits

-- then the job does what d may do, and is never late
abbrev pub EachMsTakes : JobRecord → List ℕ → Type 0
EachMsTakes job ticks =
    (d : Driver) → TakesEachMs d job ticks → Takes d job ticks × (d.waits.late ≡ 0)

-- Each job does on each clock what `exact_driver` may do.
abbrev pub TakesAnyDuration : JobRecord → List ℕ → Type 0
TakesAnyDuration job ticks = Takes exact_driver job ticks

-- a law that is true of a job and a clock if the job does there what d may do
abbrev pub ForDriver : (Driver → JobRecord → List ℕ → Type 0) → JobRecord → List ℕ → Type 0
ForDriver Law job ticks = (d : Driver) → Takes d job ticks → Law d job ticks

-- ---- histories

-- A driver can make each history of the timeline.
abbrev pub HistoriesAreDriven : Driver → JobRecord → List ℕ → Type 0
HistoriesAreDriven d job ticks = (h : History) → IsHistoryOf job ticks h → IsDriven job.schedule d h

-- ---- attempts and bounds

-- how long the step at an end waits: not at all if it stops, or if there was no step
abbrev pub step_wait : ℕ → Option Answer → ℕ
step_wait at None = 0
step_wait at (Some step) = wait_of at step.decision

-- the same of an attempt, which may be running
abbrev pub end_wait : Option EndedValue → ℕ
end_wait None = 0
end_wait (Some end) = step_wait end.at end.step

-- the waits after all attempts, together
abbrev pub all_waits : List AttemptedValue → ℕ
all_waits [] = 0
all_waits (attempt ∷ later) = end_wait attempt.ended + all_waits later

-- These attempts are within these bounds.
pub record IsWithin (b : Bounds) (attempts : List AttemptedValue) : Type 0 where
  -- with a most, there are no more attempts
  pub most : (k : ℕ) → b.most ≡ Some k → length attempts ≤ k
  -- the schedule stops at the end of the attempt `least`, or of a later one
  pub least : (earlier : List AttemptedValue) (end : EndedValue) (output : Output)
      → IsEndAfter attempts earlier end
      → end.step ≡ Some (answer output Stop) → b.least ≤ length earlier + 1
  -- after each of the first `seen` attempts, the next one is due at most `longest` later
  pub longest : (earlier : List AttemptedValue) (end : EndedValue) (output : Output) (x : ℕ)
      → IsEndAfter attempts earlier end → end.step ≡ Some (answer output (Next x))
      → length earlier + 1 ≤ b.seen → x ≤ end.at + b.longest
  -- with a total, all waits are no longer in all
  pub total : (t : ℕ) → b.total ≡ Some t → all_waits attempts ≤ t

-- These attempts of a job that begins at `start` at the latest are over in time, if there is a
-- longest run.
pub record EndsInTime (b : Bounds) (ticks : List ℕ) (start : ℕ)
    (attempts : List AttemptedValue) (ending : Option Ending) : Type 0 where
  -- no attempt ends later than the longest run after the start
  pub ends : (r : ℕ) → b.longest_run ≡ Some r → (earlier : List AttemptedValue) (end : EndedValue)
      → IsEndAfter attempts earlier end → end.at ≤ start + r
  -- and if the clock has a tick at that moment or later, the job has ended
  pub over : (r t : ℕ) → b.longest_run ≡ Some r
      → first_tick_from ticks (start + r) ≡ Some t → (e : Ending) × (ending ≡ Some e)

-- A job's attempts are within all bounds that hold for its schedule.
abbrev pub PromisedBoundsHold : Driver → JobRecord → List ℕ → Type 0
PromisedBoundsHold d job ticks = (b : Bounds) → Promises job.schedule d b
    → IsWithin b (timeline_of job ticks).attempts

-- They are within the bounds that `zs_bounds::bounds` computes for its schedule, from any number of
-- steps. The factors of a `Checked` schedule are at least 1.
abbrev pub ComputedBoundsHold : Driver → JobRecord → List ℕ → Type 0
ComputedBoundsHold d job ticks = (steps : ℕ) → has_factors job.schedule ≡ true
    → IsWithin (bounds_of job.schedule d steps) (timeline_of job ticks).attempts

-- A job ends in time, by all bounds that hold for its schedule. Its first attempt may begin late
-- too.
abbrev pub PromisedRunHolds : Driver → JobRecord → List ℕ → Type 0
PromisedRunHolds d job ticks =
    (b : Bounds) → Promises job.schedule d b
    → EndsInTime b ticks (job.start + d.waits.late)
    (timeline_of job ticks).attempts (timeline_of job ticks).ending

-- It does so by the bounds that `zs_bounds::bounds` computes.
abbrev pub ComputedRunHolds : Driver → JobRecord → List ℕ → Type 0
ComputedRunHolds d job ticks =
    (steps : ℕ) → has_factors job.schedule ≡ true
    → EndsInTime (bounds_of job.schedule d steps) ticks (job.start + d.waits.late)
    (timeline_of job ticks).attempts (timeline_of job ticks).ending
