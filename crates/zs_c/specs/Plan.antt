-- When a loop begins its next attempt. A turn is one failed attempt, by the loop's clock. It began
-- and ended some nanoseconds after the first attempt began. Moments are milliseconds after that.
use Rattle.std.specs.Prelude.{◌≡◌, ◌≢◌, ℕ, ◌+◌, ◌-◌, ◌*◌, ◌/◌, ◌≤◌, min, max, nat_le}
use Rattle.std.specs.Prelude.{if◌then◌else◌, Option, Some, None, List, [], ◌∷◌, length, drop}
use Rattle.zs_term.specs.Saturating.{max_moment, saturated}
use Rattle.zs_term.specs.Schedule.{Schedule}
use Rattle.zs_step.specs.History.{History, last_moment}
use Rattle.zs_step.specs.Answer.{answer_of}
use Rattle.zs_step.specs.declared.decision.Decision.{Decision}
use Rattle.zs_step.specs.declared.decision.Decision.TheVariants.{Stop, Next}
use Rattle.zs_c.specs.declared.turn.Turn.{Turn}
use Rattle.zs_c.specs.declared.program.denial.Denial.{Denial}
use Rattle.zs_c.specs.declared.program.denial.Denial.TheVariants.{NoStep, Falls, NoRoom}
use Rattle.zs_c.specs.declared.program.denial.Denial.TheVariants.{NoProgram, OtherState, OtherSize}
use Rattle.zs_c.specs.declared.program.denial.Denial.TheVariants.{OtherVersion}
use Rattle.zs_c.specs.Program.{program_state, KeepsProgramState, planned_in}
use Rattle.zs_c.specs.Programs.{IsStepDenied}
use Rattle.zs_c.specs.Shown.{IsCountable}

-- milliseconds as nanoseconds
abbrev pub nanos : ℕ → ℕ
nanos ms = ms * 1000000

-- when the attempt ended: a clock that fell counts as one that did not move
abbrev pub end_of : Turn → ℕ
end_of turn = max turn.began turn.ended

-- the moment at which the schedule is stepped: the attempt's end, and at least 1 millisecond after
-- its planned begin, which is in milliseconds too
abbrev pub moment_of : ℕ → Turn → ℕ
moment_of planned turn = max (end_of turn / 1000000) (saturated (planned + 1))

-- the next attempt begins neither before this one's end nor before the moment of the step
abbrev pub earliest_of : Turn → ℕ → ℕ
earliest_of turn moment = max (end_of turn) (nanos moment)

-- the share of a wait that jitter takes off, as a fraction of 2^32
abbrev pub share_of : Turn → ℕ
share_of turn = min turn.percent 100 * turn.draw / 100

-- what jitter leaves of a wait, rounded up
abbrev pub rest_of : Turn → ℕ → ℕ
rest_of turn wait = wait - wait * share_of turn / 4294967296

-- the least wait that counts: it is cut at the longest
abbrev pub asked_of : Turn → ℕ
asked_of turn = min turn.least turn.longest

-- the schedule's next moment, or what jitter leaves of the wait until then, if that is earlier
abbrev pub drawn_of : Turn → ℕ → ℕ → ℕ
drawn_of turn moment next =
    min (nanos next) (earliest_of turn moment + rest_of turn (nanos (next - moment)))

-- the begin of the next attempt, if the schedule continues at `next` after a step at `moment`
abbrev pub begin_of : Turn → ℕ → ℕ → ℕ
begin_of turn moment next =
    max (max (earliest_of turn moment) (drawn_of turn moment next))
    (end_of turn + nanos (asked_of turn))

-- What a decision at a moment plans: the begin of the next attempt, or nothing if the loop gives
-- up: because the schedule is done, or because that begin is above 2^64 - 1 nanoseconds.
abbrev pub plan_of : Turn → ℕ → Decision → Option ℕ
plan_of turn moment Stop = None
plan_of turn moment (Next x) =
    if nat_le (begin_of turn moment x) max_moment then Some (begin_of turn moment x)
    else None

-- the step of a turn: its moment, and its input
abbrev pub step_of : ℕ → Turn → ℕ × ℕ
step_of planned turn = (moment_of planned turn, turn.input)

-- the plan of a turn of a schedule after a history
abbrev pub plan_after : Schedule → History → ℕ → Turn → Option ℕ
plan_after t h planned turn =
    plan_of turn (moment_of planned turn) (answer_of t (step_of planned turn ∷ h)).decision

-- the number of a plan for C
abbrev pub plan_number : Option ℕ → ℕ
plan_number None = 1
plan_number (Some begin) = 0

-- the begin of a plan, or 0
abbrev pub plan_begin : Option ℕ → ℕ
plan_begin None = 0
plan_begin (Some begin) = begin

-- the planned begin in a state, in milliseconds: unchanged if the loop gives up
abbrev pub planned_after : ℕ → Option ℕ → ℕ
planned_after planned None = planned
planned_after planned (Some begin) = begin / 1000000

-- What holds of a begin that is planned after a step at a moment, whatever the clock, the draw and
-- the least wait are. The schedule continues at `next`.
pub record IsFair (turn : Turn) (moment next begin : ℕ) : Type 0 where
  -- not before the attempt's end
  pub after : end_of turn ≤ begin
  -- not before the end of the least wait that counts
  pub asked : end_of turn + nanos (asked_of turn) ≤ begin
  -- not before the moment of the step; and without jitter not before the schedule's next moment
  pub step : nanos moment ≤ begin
  pub exact : turn.percent ≡ 0 → nanos next ≤ begin
  -- with jitter, at least 100 - percent of the schedule's wait pass from the moment of the step on
  pub least : nanos moment * 100 + nanos (next - moment) * (100 - turn.percent) ≤ begin * 100
  -- not after the schedule's next moment, or the earliest begin, unless a least wait is longer
  pub most : begin ≤ max (max (nanos next) (earliest_of turn moment))
      (end_of turn + nanos (asked_of turn))

-- The schedule continues after the step of a turn, and the begin of the next attempt is fair.
pub record BeginsFairly (t : Schedule) (h : History) (planned : ℕ) (turn : Turn) (begin : ℕ) :
    Type 0 where
  pub next : ℕ
  pub decides : (answer_of t (step_of planned turn ∷ h)).decision ≡ Next next
  pub fair : IsFair turn (moment_of planned turn) next begin

-- The plan of a turn is fair for each history and planned begin whose state the words were, if 64
-- bits hold the sizes of lists.
abbrev pub PlansFairly : Schedule → Turn → List ℕ → ℕ → Type 0
PlansFairly t turn state begin =
    (h : History) (planned : ℕ) → KeepsProgramState t h planned state → IsCountable t h
    → BeginsFairly t h planned turn begin

-- The plan of a turn is returned, and words begin with the state after its step, with the new
-- planned begin.
pub record TellsPlan (t : Schedule) (h : History) (planned : ℕ) (turn : Turn) (new : List ℕ)
    (number begin : ℕ) : Type 0 where
  pub numbered : number ≡ plan_number (plan_after t h planned turn)
  pub begins : begin ≡ plan_begin (plan_after t h planned turn)
  pub kept : KeepsProgramState t (step_of planned turn ∷ h)
      (planned_after planned (plan_after t h planned turn)) new

-- This holds for each history and planned begin whose state the words were, if 64 bits hold the
-- sizes of lists. Words after the state are unchanged, whatever the words were.
pub record IsTurnPlanned (t : Schedule) (turn : Turn) (old new : List ℕ) (number begin : ℕ) :
    Type 0 where
  pub plan : (h : History) (planned : ℕ) → KeepsProgramState t h planned old → IsCountable t h
      → TellsPlan t h planned turn new number begin
  pub behind : drop (length (program_state t [] 0)) new ≡ drop (length (program_state t [] 0)) old

-- Why a turn isn't planned: it has another size than this version reads; or the program isn't
-- stepped at the moment of the turn.
abbrev pub IsTurnDenied : List ℕ → List ℕ → Turn → Denial → Type 0
IsTurnDenied program state turn OtherSize = turn.size ≢ 56
IsTurnDenied program state turn NoProgram =
    IsStepDenied program state (moment_of (planned_in state) turn) NoProgram
IsTurnDenied program state turn NoRoom =
    IsStepDenied program state (moment_of (planned_in state) turn) NoRoom
IsTurnDenied program state turn OtherState =
    IsStepDenied program state (moment_of (planned_in state) turn) OtherState
IsTurnDenied program state turn Falls =
    IsStepDenied program state (moment_of (planned_in state) turn) Falls
IsTurnDenied program state turn OtherVersion =
    IsStepDenied program state (moment_of (planned_in state) turn) OtherVersion
IsTurnDenied program state turn NoStep = ⊥

-- The last step was no later than the planned begin, and a turn has the size that this version
-- reads. So the turn is planned.
abbrev pub IsPlannable : History → ℕ → Turn → Type 0
IsPlannable h planned turn = (last_moment h ≤ planned) × (turn.size ≡ 56)
