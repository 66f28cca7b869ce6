-- Which histories a driver can make: the jobs of a plan, a retry loop, or whatever steps a schedule
-- when an attempt has ended. Readers of the bounds trust this file and `Bounds.antt`.
use Rattle.std.specs.Prelude.{◌≡◌, ℕ, ◌+◌, ◌-◌, ◌*◌, ◌/◌, ◌≤◌, max, Some, None, [], ◌∷◌}
use Rattle.std.specs.Int.{div_ceil}
use Rattle.zs_term.specs.Saturating.{max_moment, saturated}
use Rattle.zs_term.specs.Schedule.{Schedule}
use Rattle.zs_step.specs.declared.decision.Decision.{Decision}
use Rattle.zs_step.specs.declared.decision.Decision.TheVariants.{Stop, Next}
use Rattle.zs_step.specs.History.{History}
use Rattle.zs_step.specs.Answer.{answer_of}
use Rattle.zs_bounds.specs.declared.driver.Driver.{Driver}
use Rattle.zs_bounds.specs.declared.waits.Waits.{Waits}

-- the greatest moment of a clock: about 31,700 years in milliseconds
abbrev pub max_tick : ℕ
max_tick = 999999999999999

-- A step of a driver: a moment of a clock, and any input of 64 bits.
pub record IsStep (p : ℕ × ℕ) : Type 0 where
  pub tick : p.0 ≤ max_tick
  pub input : p.1 ≤ max_moment

-- the schedule's waits, to the millisecond
abbrev pub exact_waits : Waits
exact_waits = record { least_percent = 100; most_percent = 100; asked = 0; late = 0 }

-- attempts of 1 millisecond or more, and the schedule's waits
abbrev pub exact_driver : Driver
exact_driver = record { least = 1; most = None; waits = exact_waits }

-- the least duration of attempts: 1 millisecond or more
abbrev pub shortest : Driver → ℕ
shortest d = max d.least 1

-- An attempt begins at one moment and ends at another one. It takes no less than the least
-- duration, and no more than the greatest one, if there is one.
pub record IsAttempt (d : Driver) (begun ended : ℕ) : Type 0 where
  pub least : begun + shortest d ≤ ended
  pub most : (k : ℕ) → d.most ≡ Some k → ended ≤ begun + k

-- If a schedule waits for w milliseconds, a driver may wait for u: no less than the least percent
-- of w, rounded down, and no more than the most percent of it, rounded up, or than the longest wait
-- that may be requested of it, if that is longer. Then it may be late.
pub record IsWait (v : Waits) (w u : ℕ) : Type 0 where
  pub least : w * v.least_percent / 100 ≤ u
  pub most : u ≤ saturated (max (div_ceil (w * v.most_percent) 100) v.asked + v.late)

-- A driver waits no less than the schedule, and may wait just as long, as with exact waits.
pub record IsNeverEarly (v : Waits) : Type 0 where
  pub least : v.least_percent ≡ 100
  pub most : 100 ≤ v.most_percent

-- how long a driver may wait after a decision at a moment: not at all if it is to stop
abbrev pub WaitsFor : Waits → ℕ → Decision → ℕ → Type 0
WaitsFor v now Stop u = u ≡ 0
WaitsFor v now (Next x) u = IsWait v (x - now) u

-- A decision at a moment lets another attempt begin, at the end of a wait. That attempt ends at m.
abbrev pub LetsEndAt : Driver → ℕ → Decision → ℕ → Type 0
LetsEndAt d now Stop m = ⊥
LetsEndAt d now (Next x) m =
    (u : ℕ) × (IsWait d.waits (x - now) u × IsAttempt d (now + u) m)

-- A history that a driver can make with a schedule, if attempts take as long as d says: it has a
-- step, each step but the last went on, and an attempt is between two steps. Inputs are arbitrary.
abbrev pub IsDriven : Schedule → Driver → History → Type 0
IsDriven s d [] = ⊥
IsDriven s d (p ∷ []) = IsStep p
IsDriven s d (p ∷ (q ∷ h)) =
    IsStep p × LetsEndAt d q.0 (answer_of s (q ∷ h)).decision p.0 × IsDriven s d (q ∷ h)
