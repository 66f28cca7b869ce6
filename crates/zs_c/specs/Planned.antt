-- What `zs_plan` promises of whole runs: a loop stays within the bounds of its schedule, whatever
-- its clock does. Readers of the headline trust this file, `Plan.antt`, and `Driven.antt` and
-- `Bounds.antt` of `zs_bounds`.
use Rattle.std.specs.Prelude.{◌≡◌, ℕ, ◌+◌, ◌-◌, ◌/◌, ◌<◌, ◌≤◌, min, Some, List, [], ◌∷◌, length}
use Rattle.zs_term.specs.Saturating.{max_moment}
use Rattle.zs_term.specs.Schedule.{Schedule}
use Rattle.zs_step.specs.declared.decision.Decision.{Decision}
use Rattle.zs_step.specs.declared.decision.Decision.TheVariants.{Stop, Next}
use Rattle.zs_step.specs.History.{History, first_moment}
use Rattle.zs_step.specs.Answer.{answer_of}
use Rattle.zs_bounds.specs.declared.driver.Driver.{Driver}
use Rattle.zs_bounds.specs.declared.told.Bounds.{Bounds}
use Rattle.zs_bounds.specs.declared.waits.Waits.{Waits}
use Rattle.zs_bounds.specs.Driven.{IsAttempt, IsDriven, IsWait}
use Rattle.zs_bounds.specs.Bounds.{Promises}
use Rattle.zs_c.specs.declared.turn.Turn.{Turn}
use Rattle.zs_c.specs.Bounded.{bounds_told}
use Rattle.zs_c.specs.Plan.{nanos, end_of, asked_of, step_of}
use Rattle.zs_c.specs.Program.{IsProgram, KeepsProgramState}

-- the numbers of a turn fit 64 bits, and its draw 32
pub record IsCounted (turn : Turn) : Type 0 where
  pub began : turn.began ≤ max_moment
  pub ended : turn.ended ≤ max_moment
  pub input : turn.input ≤ max_moment
  pub draw : turn.draw < 4294967296

-- A driver allows what a turn may do: attempts of 1 millisecond, and its jitter and its least wait.
pub record Allows (d : Driver) (turn : Turn) : Type 0 where
  pub shortest : d.least ≤ 1
  pub least : d.waits.least_percent + min turn.percent 100 ≤ 100
  pub most : 100 ≤ d.waits.most_percent
  pub asked : asked_of turn ≤ d.waits.asked

-- An attempt doesn't begin before its planned begin, in nanoseconds, and is late by at most what
-- the driver allows. The first begins at 0.
abbrev pub BeginsInTime : Waits → History → ℕ → ℕ → Type 0
BeginsInTime v [] planned began = began ≡ 0
BeginsInTime v (p ∷ h) planned began = (planned ≤ began) × (began ≤ planned + nanos v.late)

-- An attempt begins in time and takes at most k milliseconds, and the clock doesn't fall meanwhile.
pub record IsInTime (v : Waits) (h : History) (planned : ℕ) (turn : Turn) (k : ℕ) : Type 0 where
  pub begins : BeginsInTime v h planned turn.began
  pub falls_not : turn.began ≤ turn.ended
  pub ends : turn.ended ≤ turn.began + nanos k
  pub some : 0 < k

-- An attempt follows a driver. If the driver limits no duration, each attempt does, whatever the
-- clock does: it may fall or jump, and the attempt may begin and end at any moment.
abbrev pub FollowsDriver : Driver → History → ℕ → Turn → Type 0
FollowsDriver d h planned turn = (k : ℕ) → d.most ≡ Some k → IsInTime d.waits h planned turn k

-- waits that are never late
abbrev pub punctual : Waits → Waits
punctual v = record {
  least_percent = v.least_percent;
  most_percent = v.most_percent;
  asked = v.asked;
  late = 0;
}

-- a decision at a moment lets an attempt begin at another moment, without being late
abbrev pub LetsBeginAt : Waits → ℕ → Decision → ℕ → Type 0
LetsBeginAt v now Stop m = ⊥
LetsBeginAt v now (Next x) m = (now ≤ m) × IsWait (punctual v) (x - now) (m - now)

-- The driver can make the history, and the last step lets an attempt begin at the millisecond of
-- the planned begin. Before any step that begin is 0.
abbrev pub HasPlanned : Schedule → Driver → History → ℕ → Type 0
HasPlanned t d [] planned = planned ≡ 0
HasPlanned t d (p ∷ h) planned =
    IsDriven t d (p ∷ h) × IsAttempt d 0 (first_moment (p ∷ h))
    × LetsBeginAt d.waits p.0 (answer_of t (p ∷ h)).decision (planned / 1000000)

-- the begin of a loop's next attempt is planned, in nanoseconds of 64 bits
pub record IsPlanned (t : Schedule) (d : Driver) (h : History) (planned : ℕ) : Type 0 where
  pub counted : planned ≤ max_moment
  pub so_far : HasPlanned t d h planned

-- What holds after a turn whose begin was planned. The driver can make the history, and if the next
-- attempt may begin, that begin is planned too. So the bounds of the driver hold: there are at most
-- `most` attempts, with the one that may begin, and the attempt ended before `longest_run`, as C
-- reads it, to the nanosecond.
pub record StaysWithin (t : Schedule) (d : Driver) (h : History) (turn : Turn) (number begin : ℕ) :
    Type 0 where
  pub driven : IsDriven t d h
  pub planned : number ≡ 0 → IsPlanned t d h begin
  pub most : (b : Bounds) (k : ℕ) → Promises t d b → b.most ≡ Some k → length h + (1 - number) ≤ k
  pub run : (b : Bounds) → Promises t d b → (bounds_told b).has_longest_run ≡ 1
      → end_of turn < nanos (bounds_told b).longest_run

-- This holds for every schedule, driver and history whose state the words were before the turn, if
-- the attempt was planned, the driver allows the turn, and the attempt follows the driver.
abbrev pub KeepsBounds : List ℕ → List ℕ → Turn → ℕ → ℕ → Type 0
KeepsBounds program state turn number begin =
    (t : Schedule) (d : Driver) (h : History) (planned : ℕ) → IsProgram program t
    → KeepsProgramState t h (planned / 1000000) state → IsPlanned t d h planned → Allows d turn
    → FollowsDriver d h planned turn
    → StaysWithin t d (step_of (planned / 1000000) turn ∷ h) turn number begin
