-- The attempts of one job on a clock, as mathematics over the least tick from a moment on. It has
-- no polls, timers or threads. Readers of the contracts trust this file. `DriverRules` states its
-- rules place by place, and `src/laws.rt` proves that only this list satisfies them.
use Rattle.std.specs.Prelude.{ℕ, zero, suc, ◌+◌, max, List, [], ◌∷◌, length, Option, Some, None}
use Rattle.zs_term.specs.Saturating.{saturated}
use Rattle.zs_term.specs.Output.{Output}
use Rattle.zs_effect.specs.Scripts.{entry_at}
use Rattle.zs_effect.specs.declared.script.Beat.{Beat}
use Rattle.zs_effect.specs.declared.script.Outcome.{Outcome}
use Rattle.zs_step.specs.declared.decision.Decision.{Decision}
use Rattle.zs_step.specs.declared.decision.Decision.TheVariants.{Stop, Next}
use Rattle.zs_step.specs.History.{History}
use Rattle.zs_step.specs.Answer.{Answer, answer, answer_of}
use Rattle.zs_drive.specs.declared.record.Ending.{Ending}
use Rattle.zs_drive.specs.Clocks.{first_tick_from}
use Rattle.zs_drive.specs.Values.{JobRecord, AttemptedValue}
pub use Rattle.zs_drive.specs.Endings.{number_of, ending_by_outcome, ending_by_schedule}
pub use Rattle.zs_drive.specs.PollMoments.{moments_of, with_moment}
unfoldable pub use Rattle.zs_drive.specs.PollMoments.{poll_moments}

-- the attempts, the due moment, and how the job ended
pub record Timeline : Type 0 where
  pub attempts : List AttemptedValue
  pub due : Option ℕ
  pub ending : Option Ending

-- an attempt that ended
abbrev pub ended_attempt : ℕ → ℕ → Outcome → Option Answer → AttemptedValue
ended_attempt s e outcome step =
    record { begun = s; ended = Some (record { at = e; outcome = outcome; step = step }) }

-- no attempt yet; x is the due moment
abbrev pub wait_until : ℕ → Timeline
wait_until x = record { attempts = []; due = Some x; ending = None }

-- an attempt that began at s is running; w, its end, is the due moment
abbrev pub run_from : ℕ → ℕ → Timeline
run_from s w =
    record { attempts = record { begun = s; ended = None } ∷ []; due = Some w; ending = None }

-- the last attempt, with the ending
abbrev pub over : AttemptedValue → Ending → Timeline
over attempt ending = record { attempts = attempt ∷ []; due = None; ending = Some ending }

-- one attempt, and then the rest
abbrev pub before : AttemptedValue → Timeline → Timeline
before attempt rest =
    record { attempts = attempt ∷ rest.attempts; due = rest.due; ending = rest.ending }

module _ (job : JobRecord) where
  -- the script's entry for the attempt after history h
  abbrev pub beat_after : History → Beat
  beat_after h = entry_at job.script (length h + 1)

  -- In the next four, `rest h x` is the timeline from the next attempt on: the one after history h,
  -- which is due at x. The current attempt began at s and ended at e.

  -- The schedule returned this for history h. The next attempt begins at the first tick at or after
  -- both x and e. That is e itself if x <= e, since e is a tick. (`BeginsOn` of `DriverRules` has
  -- the two cases separately.)
  unfoldable pub by_answer : (History → ℕ → Timeline) → History
      → ℕ → ℕ → Outcome → Output → Decision → Timeline
  by_answer rest h s e outcome output Stop = over
      (ended_attempt s e outcome (Some (answer output Stop))) (ending_by_schedule job.mode outcome)
  by_answer rest h s e outcome output (Next x) =
      before (ended_attempt s e outcome (Some (answer output (Next x)))) (rest h (max x e))

  -- the attempt after history h ended with this outcome, which may itself end the job
  unfoldable pub by_outcome : (History → ℕ → Timeline)
      → History → ℕ → ℕ → Outcome → Option Ending → Timeline
  by_outcome rest h s e outcome (Some ending) = over (ended_attempt s e outcome None) ending
  by_outcome rest h s e outcome None =
      let longer = (e, number_of outcome) ∷ h in
      let answered = answer_of job.schedule longer in
      by_answer rest longer s e outcome answered.output answered.decision

  -- the attempt after history h is due to end at w; the option is the tick at or after w
  unfoldable pub from_wait : (History → ℕ → Timeline) → History → ℕ → ℕ → Option ℕ → Timeline
  from_wait rest h s w None = run_from s w
  from_wait rest h s w (Some e) =
      let outcome = (beat_after h).outcome in
      by_outcome rest h s e outcome (ending_by_outcome job.mode outcome)

  -- the attempt after history h is due to begin at x; the option is the tick at or after x
  unfoldable pub from_begin : (History → ℕ → Timeline) → List ℕ → History → ℕ → Option ℕ → Timeline
  from_begin rest ticks h x None = wait_until x
  from_begin rest ticks h x (Some s) =
      let w = saturated (s + (beat_after h).ms) in from_wait rest h s w (first_tick_from ticks w)

  -- the timeline from the attempt after history h on, due at x, with at most n attempts
  unfoldable pub from : List ℕ → ℕ → History → ℕ → Timeline
  from ticks zero h x = wait_until x
  from ticks (suc n) h x = from_begin (from ticks n) ticks h x (first_tick_from ticks x)

  -- The timeline of the job on a clock. At most one attempt begins at each tick, so the bound loses
  -- none.
  unfoldable pub timeline_of : List ℕ → Timeline
  timeline_of ticks = from ticks (length ticks) [] job.start
