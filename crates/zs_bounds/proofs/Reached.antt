-- What the histories of n steps reach: states, decisions, moments; and what one more step adds.
use Rattle.std.proofs.Common.{◌≡◌, ℕ, suc, ◌+◌, ◌-◌, ◌<◌, ◌≤◌, true, false, nat_lt, Option, Some}
use Rattle.std.proofs.Common.{None, [], ◌∷◌, length, refl, subst, arith}
use Rattle.zs_term.specs.Schedule.{Schedule, has_factors}
use Rattle.zs_step.specs.declared.decision.Decision.{Decision}
use Rattle.zs_step.specs.declared.decision.Decision.TheVariants.{Stop, Next}
use Rattle.zs_step.specs.History.{History, first_moment, last_moment}
use Rattle.zs_step.specs.Answer.{answer_of, is_next}
use Rattle.zs_bounds.specs.declared.driver.Driver.{Driver}
use Rattle.zs_bounds.specs.declared.waits.Waits.{Waits}
use Rattle.zs_bounds.specs.declared.span.Span.{Span}
use Rattle.zs_bounds.specs.declared.decisions.Decisions.{Decisions}
use Rattle.zs_bounds.specs.Driven.{max_tick, WaitsFor, LetsEndAt, IsDriven}
use Rattle.zs_bounds.specs.DecisionRange.{IsAfter, IsWaitIn, IsDecisionIn}
use Rattle.zs_bounds.specs.StateRange.{StateRange, first_range, first_state, next_range, next_state}
use Rattle.zs_bounds.specs.BoundsOf.{longest_in, real_waits, longest_time, time_between}
use Rattle.zs_bounds.proofs.Covers.{Covers, Comes}
use Rattle.zs_bounds.proofs.Steps.{first-in, first-covers, next-in, next-covers}
use Rattle.zs_bounds.proofs.DrivenHistories.{driven-small}
use Rattle.zs_bounds.proofs.DriverWaits.{real-in, real-none}

-- One history: the states cover it, its last decision is among some, and at least some time has
-- passed since its first step.
pub record ReachesOn (s : Schedule) (c : StateRange) (d : Decisions) (passed : ℕ)
    (h : History) : Type 0 where
  pub covers : Covers s c h
  pub decides : IsDecisionIn (last_moment h) (answer_of s h).decision d
  pub late : first_moment h + passed ≤ last_moment h

-- every history of n steps
abbrev pub Reaches : Schedule → Driver → ℕ → StateRange → Decisions → ℕ → Type 0
Reaches s a n c d passed = (h : History) → IsDriven s a h → length h ≡ n → ReachesOn s c d passed h

-- ---- waits and decisions

wait-in : (m x : ℕ) (w : Option Span) → IsWaitIn m w x → x - m ≤ longest_in w
wait-in m x None h = absurd h
wait-in m x (Some s) h = omega (arith, h.high)

-- a wait is at most the longest of some
pub wait-longest : (v : Waits) (m u : ℕ) (d : Decision) (a : Decisions) → IsDecisionIn m d a →
    WaitsFor v m d u → u ≤ longest_in (real_waits v a.waits)
wait-longest v m u Stop a h wait = omega (arith, wait)
wait-longest v m u (Next x) a h wait = let within =
    wait-in m (m + u) (real_waits v a.waits) (real-in v m x u a.waits h wait) in
    omega (arith, within)

-- a decision that may not be to stop is to go on
pub next-only : (m : ℕ) (d : Decision) (a : Decisions) → IsDecisionIn m d a → a.stops ≡ false →
    is_next d ≡ true
next-only m Stop a h e = cc
next-only m (Next x) a h e = refl

-- a decision that may not be to go on is to stop
pub stop-only : (m : ℕ) (d : Decision) (a : Decisions) → IsDecisionIn m d a →
    a.waits ≡ None → d ≡ Stop
stop-only m Stop a h e = refl
stop-only m (Next x) a h e = absurd (subst (λ w. IsWaitIn m w x) e h)

-- ---- the next step

-- the time up to a later step
longest-in : (most : Option ℕ) (wait m y x : ℕ) → y ≤ m + wait →
    ((k : ℕ) → most ≡ Some k → x ≤ y + k) → x ≤ max_tick → x ≤ m + longest_time most wait
longest-in None wait m y x high ends tick = omega (arith, tick)
longest-in (Some k) wait m y x high ends tick = let end = ends k refl in
    omega (arith, high, end, tick)

time-in : (a : Driver) (m x : ℕ) (d : Decision) (w : Span) (r : Decisions) → IsDecisionIn m d r →
    real_waits a.waits r.waits ≡ Some w → LetsEndAt a m d x → x ≤ max_tick →
    (m + (time_between a w).low ≤ x) × (x ≤ m + (time_between a w).high)
time-in a m x Stop w r is e lets tick = absurd lets
time-in a m x (Next y) w r is e lets tick =
    let wait : IsAfter m w (m + lets.0) =
    subst (λ v. IsWaitIn m v (m + lets.0)) e (real-in a.waits m y lets.0 r.waits is lets.1.0) in (
      omega (arith, wait.low, lets.1.1.least),
      longest-in a.most w.high m (m + lets.0) x wait.high lets.1.1.most tick,
    )

-- no later step, if the last one may not go on
pub none-goes_on : (s : Schedule) (a : Driver) (n : ℕ) (c : StateRange) (d : Decisions)
    (passed : ℕ) →
    Reaches s a (suc n) c d passed → real_waits a.waits d.waits ≡ None →
    (p q : ℕ × ℕ) (h : History) → IsDriven s a (p ∷ (q ∷ h)) → length (q ∷ h) ≡ suc n → ⊥
none-goes_on s a n c d passed reaches e p q h driven long =
    let stop =
    stop-only q.0 (answer_of s (q ∷ h)).decision d (reaches (q ∷ h) driven.2 long).decides
    (real-none a.waits d.waits e) in
    subst (λ x. LetsEndAt a q.0 x p.0) stop driven.1

-- nor if it would be past the clock
pub none-in_time : (s : Schedule) (a : Driver) (n : ℕ) (c : StateRange) (d : Decisions) (passed : ℕ)
    (w : Span) → Reaches s a (suc n) c d passed → real_waits a.waits d.waits ≡ Some w →
    max_tick < passed + (time_between a w).low → (p q : ℕ × ℕ) (h : History) →
    IsDriven s a (p ∷ (q ∷ h)) → length (q ∷ h) ≡ suc n → ⊥
none-in_time s a n c d passed w reaches e past p q h driven long =
    let at = reaches (q ∷ h) driven.2 long in
    let later = time-in a q.0 p.0 (answer_of s (q ∷ h)).decision w d at.decides e driven.1
    driven.0.tick in
    omega (arith, later.0, at.late, past, driven.0.tick)

pub past-lt : (x y : ℕ) → nat_lt x y ≡ true → x < y
past-lt x y e = grind arith

-- what is reached by a later step
pub step-reaches : (s : Schedule) (a : Driver) (n : ℕ) (c : StateRange) (d : Decisions) (passed : ℕ)
    (w : Span) → has_factors s ≡ true → Reaches s a (suc n) c d passed →
    real_waits a.waits d.waits ≡ Some w →
    Reaches s a (suc (suc n)) (next_state s c (time_between a w))
    (next_range s c (time_between a w)).decision (passed + (time_between a w).low)
step-reaches s a n c d passed w factors reaches e [] driven long = absurd driven
step-reaches s a n c d passed w factors reaches e (p ∷ []) driven long =
    absurd (omega (arith, long))
step-reaches s a n c d passed w factors reaches e (p ∷ (q ∷ h)) driven long =
    let at = reaches (q ∷ h) driven.2 (omega (arith, long)) in
    let times = time-in a q.0 p.0 (answer_of s (q ∷ h)).decision w d at.decides e driven.1
    driven.0.tick in
    let later = time_between a w in
    let comes : Comes later (q ∷ h) p = record {
      step = driven.0;
      later = times.0;
      soon = times.1;
      small = driven-small s a p (q ∷ h) driven;
    } in
    record {
      covers = next-covers s c later (q ∷ h) p factors comes at.covers;
      decides = (next-in s c later (q ∷ h) p factors comes at.covers).decision;
      late = omega (arith, at.late, times.0);
    }

-- the first step
pub first-reaches : (s : Schedule) (a : Driver) → has_factors s ≡ true →
    Reaches s a 1 (first_state s) (first_range s).decision 0
first-reaches s a factors [] driven long = absurd driven
first-reaches s a factors (p ∷ []) driven long = record {
  covers = first-covers s p factors driven;
  decides = (first-in s p factors driven).decision;
  late = omega arith;
}
first-reaches s a factors (p ∷ (q ∷ h)) driven long = absurd (omega (arith, long))
