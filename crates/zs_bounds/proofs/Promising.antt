-- The bounds that are computed step by step hold for every history that a driver can make.
use Rattle.std.proofs.Common.{◌≡◌, ℕ, zero, suc, ◌+◌, ◌≤◌, Bool, true, false, nat_lt, Option, Some}
use Rattle.std.proofs.Common.{None, [], ◌∷◌, length, refl, subst, arith, Result, Ok, Err, IfOk}
use Rattle.zs_term.specs.Schedule.{Schedule, has_factors}
use Rattle.zs_step.specs.History.{History, last_moment}
use Rattle.zs_step.specs.Answer.{answer_of}
use Rattle.zs_bounds.specs.declared.driver.Driver.{Driver}
use Rattle.zs_bounds.specs.declared.told.Bounds.{Bounds}
use Rattle.zs_bounds.specs.declared.span.Span.{Span}
use Rattle.zs_bounds.specs.declared.decisions.Decisions.{Decisions}
use Rattle.zs_bounds.specs.Driven.{max_tick, IsDriven}
use Rattle.zs_bounds.specs.Bounds.{Promises}
use Rattle.zs_bounds.specs.StateRange.{StateRange, first_range, first_state, next_range, next_state}
use Rattle.zs_bounds.specs.BoundsOf.{real_waits, real_decisions, latest_of, no_bounds, with_step}
use Rattle.zs_bounds.specs.BoundsOf.{time_between, unless_past, after_waits, bounds_from, bounds_of}
use Rattle.zs_bounds.proofs.DrivenHistories.{none-longer}
use Rattle.zs_bounds.proofs.DriverWaits.{real-none}
use Rattle.zs_bounds.proofs.Reached.{Reaches, stop-only, none-goes_on, none-in_time, past-lt}
use Rattle.zs_bounds.proofs.Reached.{step-reaches, first-reaches}
use Rattle.zs_bounds.proofs.OneMoreStep.{HoldsUpTo, step-holds}
use Rattle.zs_bounds.proofs.EndedBounds.{ended-promises, past-promises, unended-promises}

-- the bounds after a step that may go on
waits-promises : (s : Schedule) (a : Driver) (n : ℕ) (c : StateRange) (d : Decisions) (passed : ℕ)
    (b : Bounds) (w : Span) (past : Bool) (rest : Unit {0} → Bounds) →
    nat_lt max_tick (passed + (time_between a w).low) ≡ past →
    HoldsUpTo s a (suc n) (with_step (latest_of s a) a (real_decisions a d) b) →
    Reaches s a (suc n) c d passed → real_waits a.waits d.waits ≡ Some w →
    Promises s a (rest tt) →
    Promises s a (unless_past past (with_step (latest_of s a) a (real_decisions a d) b) rest)
waits-promises s a n c d passed b w true rest e holds reaches is promised =
    past-promises s a n (with_step (latest_of s a) a (real_decisions a d) b) holds refl
    (none-longer s a n (none-in_time s a n c d passed w reaches is
    (past-lt max_tick (passed + (time_between a w).low) e)))
waits-promises s a n c d passed b w false rest e holds reaches is promised = promised

-- the bounds after a step
after-promises : (s : Schedule) (a : Driver) (n : ℕ) (c : StateRange) (d : Decisions) (passed : ℕ)
    (b : Bounds) (waits : Option Span) (rest : Span → ℕ → Bounds) →
    HoldsUpTo s a (suc n) (with_step (latest_of s a) a (real_decisions a d) b) →
    Reaches s a (suc n) c d passed → real_waits a.waits d.waits ≡ waits →
    ((w : Span) → real_waits a.waits d.waits ≡ Some w →
    Promises s a (rest (time_between a w) (passed + (time_between a w).low))) →
    Promises s a
    (after_waits a waits passed (with_step (latest_of s a) a (real_decisions a d) b)
    rest)
after-promises s a n c d passed b None rest holds reaches is promised =
    ended-promises s a n (with_step (latest_of s a) a (real_decisions a d) b) holds
    (none-longer s a n (none-goes_on s a n c d passed reaches is))
    (λ h driven long. stop-only (last_moment h) (answer_of s h).decision d
    (reaches h driven long).decides (real-none a.waits d.waits is))
after-promises s a n c d passed b (Some w) rest holds reaches is promised =
    waits-promises s a n c d passed b w (nat_lt max_tick (passed + (time_between a w).low))
    (λ _. rest (time_between a w) (passed + (time_between a w).low)) refl holds reaches is
    (promised w is)

-- the bounds of at most `more` more steps
bounds_from-promises : (s : Schedule) (a : Driver) (more n : ℕ) (c : StateRange) (d : Decisions)
    (passed : ℕ) (b : Bounds) → has_factors s ≡ true → HoldsUpTo s a n b →
    Reaches s a (suc n) c d passed → Promises s a (bounds_from s a more c d passed b)
bounds_from-promises s a zero n c d passed b factors holds reaches = unended-promises s a n b holds
bounds_from-promises s a (suc more) n c d passed b factors holds reaches =
    let now = step-holds s a n c d passed b holds reaches in
    after-promises s a n c d passed b (real_waits a.waits d.waits)
    (λ later time. bounds_from s a more (next_state s c later) (next_range s c later).decision time
    (with_step (latest_of s a) a (real_decisions a d) b)) now reaches refl
    (λ w is. bounds_from-promises s a more (suc n) (next_state s c (time_between a w))
    (next_range s c (time_between a w)).decision (passed + (time_between a w).low)
    (with_step (latest_of s a) a (real_decisions a d) b)
    factors now (step-reaches s a n c d passed w factors reaches is))

some-step : (s : Schedule) (a : Driver) (h : History) → IsDriven s a h → length h ≤ 0 → ⊥
some-step s a [] driven le = driven
some-step s a (p ∷ h) driven le = omega arith

-- no history has no step
no-holds : (s : Schedule) (a : Driver) → HoldsUpTo s a 0 (no_bounds a)
no-holds s a = record {
  seen = refl;
  small = omega arith;
  least = λ h driven le lt. absurd (some-step s a h driven le);
  longest = λ h driven le. absurd (some-step s a h driven le);
  total = λ t e h driven le. absurd (some-step s a h driven le);
  first = λ r e. (r, (e, omega arith));
  next = λ r e h driven le. absurd (some-step s a h driven le);
}

-- the bounds of at most `steps` steps
pub bounds_of-promises : (s : Schedule) (a : Driver) (steps : ℕ) → has_factors s ≡ true →
    Promises s a (bounds_of s a steps)
bounds_of-promises s a steps factors =
    bounds_from-promises s a steps 0 (first_state s) (first_range s).decision 0 (no_bounds a)
    factors (no-holds s a) (first-reaches s a factors)

-- bounds that are those of a schedule, whatever state they were computed from
pub result-promises : {E : Type 0} (s t : Schedule) (a : Driver) (steps : ℕ) (c : StateRange)
    (d : Decisions) (r : Result Bounds E) → t ≡ s → c ≡ first_state s →
    d ≡ (first_range s).decision → has_factors s ≡ true →
    IfOk r (λ b. b ≡ bounds_from t a steps c d 0 (no_bounds a)) → IfOk r (Promises s a)
result-promises s t a steps c d (Ok b) same state decides factors is =
    let e : bounds_of s a steps ≡ b = cc in
    subst (Promises s a) e (bounds_of-promises s a steps factors)
result-promises s t a steps c d (Err e) same state decides factors is = tt
