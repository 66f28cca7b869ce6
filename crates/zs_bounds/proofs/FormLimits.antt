-- The limits that a schedule's form shows hold for waits, runs and steps of driven histories.
use Rattle.std.proofs.Common.{◌≡◌, ℕ, ◌+◌, ◌*◌, ◌/◌, ◌<◌, ◌≤◌, true, Some, List, [], ◌∷◌, length}
use Rattle.std.proofs.Common.{refl, ap, subst, arith}
use Rattle.std.specs.List.{sum}
use Rattle.std.proofs.lemmas.Nat.{le-div}
use Rattle.zs_term.specs.Schedule.{Schedule}
use Rattle.zs_step.specs.declared.decision.Decision.{Decision}
use Rattle.zs_step.specs.declared.decision.Decision.TheVariants.{Stop, Next}
use Rattle.zs_step.specs.History.{History, first_moment, last_moment}
use Rattle.zs_step.specs.Answer.{answer_of, is_next}
use Rattle.zs_bounds.specs.declared.driver.Driver.{Driver}
use Rattle.zs_bounds.specs.Driven.{shortest, IsAttempt, WaitsFor, LetsEndAt, IsDriven}
use Rattle.zs_bounds.specs.Bounds.{HasWaits, NextEndsAt}
use Rattle.zs_bounds.specs.LatestStep.{limit_sum}
use Rattle.zs_bounds.specs.BoundsOf.{longest_wait, wait_limit, real_limit, latest_of, most_limit}
use Rattle.zs_bounds.specs.BoundsOf.{whole_run}
use Rattle.zs_bounds.proofs.DrivenHistories.{driven-attempts, sum-more, driven-waits, lets-waits}
use Rattle.zs_bounds.proofs.DrivenHistories.{lets-goes}
use Rattle.zs_bounds.proofs.LimitParts.{total-parts, run-parts, most-parts}
use Rattle.zs_bounds.proofs.DriverWaits.{real-within, driven-within}

-- ---- waits

-- all waits up to a step that goes on
going-waits : (s : Schedule) (a : Driver) (l w : ℕ) (p : ℕ × ℕ) (h : History) (us : List ℕ) →
    latest_of s a ≡ Some l → wait_limit s ≡ Some w → IsDriven s a (p ∷ h) →
    is_next (answer_of s (p ∷ h)).decision ≡ true → HasWaits s a (p ∷ h) us →
    sum us ≤ l + longest_wait a.waits w
going-waits s a l w p h [] e f driven goes has = absurd has
going-waits s a l w p h (u ∷ us) e f driven goes has =
    let before = driven-waits s a p h u us has in
    let late = driven-within s a (p ∷ h) driven goes l e in
    let wait = real-within s a p h w u f has.0 in
    let all = sum-more u us in
    omega (arith, before, late, wait, all)

-- and up to any step
pub all-waits : (s : Schedule) (a : Driver) (l w : ℕ) (h : History) (us : List ℕ) →
    latest_of s a ≡ Some l → wait_limit s ≡ Some w → IsDriven s a h → (d : Decision) →
    (answer_of s h).decision ≡ d → HasWaits s a h us → sum us ≤ l + longest_wait a.waits w
all-waits s a l w [] us e f driven d is has = absurd driven
all-waits s a l w (p ∷ h) us e f driven (Next x) is has =
    going-waits s a l w p h us e f driven (ap is_next is) has
all-waits s a l w (p ∷ h) [] e f driven Stop is has = absurd has
all-waits s a l w (p ∷ []) (u ∷ []) e f driven Stop is has =
    let none : u ≡ 0 = subst (λ x. WaitsFor a.waits p.0 x u) is has.0 in
    let all = sum-more u [] in omega (arith, none, all)
all-waits s a l w (p ∷ []) (u ∷ (v ∷ us)) e f driven Stop is has = absurd has.1
all-waits s a l w (p ∷ (q ∷ h)) (u ∷ us) e f driven Stop is has =
    let none : u ≡ 0 = subst (λ x. WaitsFor a.waits p.0 x u) is has.0 in
    let earlier =
    going-waits s a l w q h us e f driven.2
    (lets-goes a q.0 p.0 (answer_of s (q ∷ h)).decision driven.1) has.2 in
    let all = sum-more u us in omega (arith, none, earlier, all)

-- ---- runs

-- an attempt that a step lets begin
going-run : (s : Schedule) (a : Driver) (l w k : ℕ) (p : ℕ × ℕ) (h : History) (begun m : ℕ) →
    latest_of s a ≡ Some l → wait_limit s ≡ Some w → a.most ≡ Some k → IsDriven s a (p ∷ h) →
    IsAttempt a begun (first_moment (p ∷ h)) → LetsEndAt a p.0 (answer_of s (p ∷ h)).decision m →
    m ≤ begun + (l + longest_wait a.waits w + k + k)
going-run s a l w k p h begun m e f most driven begins lets =
    let late =
    driven-within s a (p ∷ h) driven (lets-goes a p.0 m (answer_of s (p ∷ h)).decision lets)
    l e in
    let waits = lets-waits a p.0 m (answer_of s (p ∷ h)).decision lets in
    let wait = real-within s a p h w waits.0 f waits.1.0 in
    let first = begins.most k most in
    let last = waits.1.1.most k most in
    omega (arith, late, wait, first, last)

pub whole-next : (s : Schedule) (a : Driver) (r : ℕ) →
    whole_run a.most (limit_sum (latest_of s a) (real_limit a (wait_limit s))) ≡ Some r →
    (begun : ℕ) (h : History) (m : ℕ) →
    NextEndsAt s a begun h m → m ≤ begun + r
whole-next s a r e begun [] m ends =
    let run = run-parts a.most (limit_sum (latest_of s a) (real_limit a (wait_limit s))) r e in
    let end = ends.most run.0 run.1.1.0 in
    omega (arith, end, run.1.1.1.1)
whole-next s a r e begun (p ∷ h) m ends =
    let run = run-parts a.most (limit_sum (latest_of s a) (real_limit a (wait_limit s))) r e in
    let parts = total-parts a (latest_of s a) (wait_limit s) run.1.0 run.1.1.1.0 in
    let end = going-run s a parts.0 parts.1.0 run.0 p h begun m parts.1.1.0 parts.1.1.1.0 run.1.1.0
    ends.0 ends.1 ends.2 in
    omega (arith, end, run.1.1.1.1, parts.1.1.1.1)

pub whole-run : (s : Schedule) (a : Driver) (r : ℕ) →
    whole_run a.most (limit_sum (latest_of s a) (real_limit a (wait_limit s))) ≡ Some r →
    (h : History) → IsDriven s a h →
    (begun : ℕ) → IsAttempt a begun (first_moment h) → last_moment h ≤ begun + r
whole-run s a r e [] driven begun begins = absurd driven
whole-run s a r e (p ∷ []) driven begun begins = whole-next s a r e begun [] p.0 begins
whole-run s a r e (p ∷ (q ∷ h)) driven begun begins =
    whole-next s a r e begun (q ∷ h) p.0 (driven.2, begins, driven.1)

-- ---- steps

pub swapped : (x n l : ℕ) → x * n ≤ l → n * x ≤ l
swapped x n l le = grind arith

-- before a step that goes on are no more steps than attempts in the limit of the time
going-steps : (s : Schedule) (a : Driver) (l : ℕ) (p : ℕ × ℕ) (h : History) →
    latest_of s a ≡ Some l → IsDriven s a (p ∷ h) →
    is_next (answer_of s (p ∷ h)).decision ≡ true → length h ≤ l / shortest a
going-steps s a l p h e driven goes =
    let before = driven-attempts s a p h driven in
    let late = driven-within s a (p ∷ h) driven goes l e in
    le-div (length h) l (shortest a) (omega arith)
    (swapped (shortest a) (length h) l (omega (arith, before, late)))

-- no history has more steps than the limit
pub most-steps : (s : Schedule) (a : Driver) (k : ℕ) → most_limit a (latest_of s a) ≡ Some k →
    (h : History) → IsDriven s a h → length h ≤ k
most-steps s a k e [] driven = absurd driven
most-steps s a k e (p ∷ []) driven = let limit = most-parts a (latest_of s a) k e in
    omega (arith, limit.1.1)
most-steps s a k e (p ∷ (q ∷ h)) driven =
    let limit = most-parts a (latest_of s a) k e in
    let goes = lets-goes a q.0 p.0 (answer_of s (q ∷ h)).decision driven.1 in
    let le = going-steps s a limit.0 q h limit.1.0 driven.2 goes in
    omega (arith, limit.1.1, le)

-- a step at the limit doesn't go on
stops-at : (s : Schedule) (a : Driver) (l : ℕ) (p : ℕ × ℕ) (h : History) →
    latest_of s a ≡ Some l → IsDriven s a (p ∷ h) → l / shortest a < length h → (d : Decision) →
    (answer_of s (p ∷ h)).decision ≡ d → d ≡ Stop
stops-at s a l p h e driven long Stop is = refl
stops-at s a l p h e driven long (Next x) is =
    let le = going-steps s a l p h e driven (ap is_next is) in absurd (omega (arith, le, long))

pub last-step : (s : Schedule) (a : Driver) (k : ℕ) → most_limit a (latest_of s a) ≡ Some k →
    (h : History) → IsDriven s a h → length h ≡ k → (answer_of s h).decision ≡ Stop
last-step s a k e [] driven long = absurd driven
last-step s a k e (p ∷ h) driven long =
    let limit = most-parts a (latest_of s a) k e in
    stops-at s a limit.0 p h limit.1.0 driven (omega (arith, limit.1.1, long))
    (answer_of s (p ∷ h)).decision refl
