-- A driver's waits, and steps that go on, are within the limits that a schedule's form shows.
use Rattle.std.proofs.Common.{◌≡◌, ℕ, ◌+◌, ◌-◌, max, ◌≤◌, true, Option, Some, None, [], ◌∷◌, refl}
use Rattle.std.proofs.Common.{arith}
use Rattle.zs_term.specs.Schedule.{Schedule}
use Rattle.zs_step.specs.declared.decision.Decision.{Decision}
use Rattle.zs_step.specs.declared.decision.Decision.TheVariants.{Stop, Next}
use Rattle.zs_step.specs.History.{History, first_moment, last_moment}
use Rattle.zs_step.specs.Answer.{answer_of, is_next}
use Rattle.zs_bounds.specs.declared.driver.Driver.{Driver}
use Rattle.zs_bounds.specs.declared.waits.Waits.{Waits}
use Rattle.zs_bounds.specs.declared.span.Span.{Span}
use Rattle.zs_bounds.specs.Driven.{IsWait, WaitsFor, IsDriven}
use Rattle.zs_bounds.specs.Bounds.{wait_of}
use Rattle.zs_bounds.specs.DecisionRange.{IsWaitIn}
use Rattle.zs_bounds.proofs.WaitLimits.{waits-within}
use Rattle.zs_bounds.specs.BoundsOf.{longest_wait, real_waits, wait_limit, real_limit, latest_of}
use Rattle.zs_bounds.proofs.LatestSteps.{Gaps, goes-within}
use Rattle.zs_bounds.proofs.RealWaits.{short-rises, long-rises}
use Rattle.zs_bounds.proofs.DrivenHistories.{lets-waits}
use Rattle.zs_bounds.proofs.LimitParts.{real-parts}

-- the end of a driver's wait is among those after the schedule's waits
pub real-in : (v : Waits) (m x u : ℕ) (w : Option Span) → IsWaitIn m w x → IsWait v (x - m) u →
    IsWaitIn m (real_waits v w) (m + u)
real-in v m x u None is wait = absurd is
real-in v m x u (Some s) is wait = record {
  low = (
      let rises = short-rises v s.low (x - m) (omega (arith, is.low)) in
      let least = wait.least in
      omega (arith, rises, least));
  high = (
      let rises = long-rises v (x - m) s.high (omega (arith, is.high)) in
      let most = wait.most in
      omega (arith, rises, most));
}

-- a driver's wait after a decision, by the longest wait of the schedule
real-by : (v : Waits) (m w u : ℕ) (d : Decision) → wait_of m d ≤ w → WaitsFor v m d u →
    u ≤ longest_wait v w
real-by v m w u Stop le waits = omega (arith, waits)
real-by v m w u (Next x) le waits =
    let rises = long-rises v (x - m) w le in
    let most = waits.most in
    omega (arith, rises, most)

-- no wait of a driver without one of the schedule
pub real-none : (v : Waits) (w : Option Span) → real_waits v w ≡ None → w ≡ None
real-none v None e = refl
real-none v (Some s) e = absurd cc

-- a wait of a driver after a decision to go on is within the limit that the form shows
pub real-within : (s : Schedule) (a : Driver) (p : ℕ × ℕ) (h : History) (w u : ℕ) →
    wait_limit s ≡ Some w → WaitsFor a.waits p.0 (answer_of s (p ∷ h)).decision u →
    u ≤ longest_wait a.waits w
real-within s a p h w u e waits =
    real-by a.waits p.0 w u (answer_of s (p ∷ h)).decision (waits-within s w e p h) waits

-- no wait after any step is longer
pub every-within : (s : Schedule) (a : Driver) (w : ℕ) → real_limit a (wait_limit s) ≡ Some w →
    (h : History) → IsDriven s a h → (u : ℕ) →
    WaitsFor a.waits (last_moment h) (answer_of s h).decision u → u ≤ w
every-within s a w e [] driven u waits = absurd driven
every-within s a w e (p ∷ h) driven u waits =
    let limit = real-parts a (wait_limit s) w e in
    let le = real-within s a p h limit.0 u limit.1.0 waits in
    omega (arith, le, limit.1.1)

-- after each step but the last, the next one is at most a wait and an attempt later
driven-gaps : (s : Schedule) (a : Driver) (p : ℕ × ℕ) (h : History) → IsDriven s a (p ∷ h) →
    Gaps a (Some 0) (answer_of s) (p ∷ h)
driven-gaps s a p [] driven = tt
driven-gaps s a p (q ∷ h) driven = (
  λ n k e f.
      (let d = (answer_of s (q ∷ h)).decision in
      let waits = lets-waits a q.0 p.0 d driven.1 in
      let wait = real-by a.waits q.0 (max n (wait_of q.0 d)) waits.0 d (omega arith) waits.1.0 in
      let attempt = waits.1.1.most k f in
      omega (arith, wait, attempt)),
  driven-gaps s a q h driven.2,
)

-- a step of a driven history that goes on is within the limit that the schedule's form shows
pub driven-within : (s : Schedule) (a : Driver) (h : History) → IsDriven s a h →
    is_next (answer_of s h).decision ≡ true → (l : ℕ) → latest_of s a ≡ Some l →
    last_moment h ≤ first_moment h + l
driven-within s a [] driven goes l e = absurd driven
driven-within s a (p ∷ h) driven goes l e =
    let within = goes-within a (Some 0) s l e p h (driven-gaps s a p h driven) goes in
    omega (arith, within)
