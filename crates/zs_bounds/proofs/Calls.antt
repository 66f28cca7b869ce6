-- A whole call of a policy is no shorter than the shortest attempt, and no longer than its run.
use Rattle.std.proofs.Common.{◌≡◌, ℕ, ◌+◌, ◌≤◌, min, Option, Some, None, [], ◌∷◌}
use Rattle.std.proofs.Common.{refl, arith}
use Rattle.zs_term.specs.Schedule.{Schedule}
use Rattle.zs_step.specs.declared.decision.Decision.{Decision}
use Rattle.zs_step.specs.declared.decision.Decision.TheVariants.{Stop, Next}
use Rattle.zs_step.specs.History.{History, first_moment}
use Rattle.zs_step.specs.Answer.{answer_of}
use Rattle.zs_bounds.specs.declared.driver.Driver.{Driver}
use Rattle.zs_bounds.specs.Driven.{shortest, IsAttempt, LetsEndAt, IsDriven}
use Rattle.zs_bounds.specs.Bounds.{NextEndsAt}
use Rattle.zs_bounds.specs.Calls.{Between, LetsOneEnd, HasAttempts, OneEndsAt}
use Rattle.zs_bounds.specs.Calls.{cut_most}
use Rattle.zs_bounds.proofs.DrivenHistories.{driven-attempts, lets-shortest}

-- all attempts of a kind are as long as a driver's
abbrev pub AreAttempts : Between → Driver → Type 0
AreAttempts attempt d = (begun m : ℕ) → attempt begun m → IsAttempt d begun m

-- so a driver may do what they do
one-lets : (attempt : Between) (d : Driver) → AreAttempts attempt d → (now m : ℕ) (x : Decision) →
    LetsOneEnd attempt d.waits now x m → LetsEndAt d now x m
one-lets attempt d are now m Stop lets = absurd lets
one-lets attempt d are now m (Next x) lets =
    (lets.0, (lets.1.0, are (now + lets.0) m lets.1.1))

has-driven : (s : Schedule) (attempt : Between) (d : Driver) → AreAttempts attempt d →
    (h : History) → HasAttempts s attempt d.waits h → IsDriven s d h
has-driven s attempt d are [] has = absurd has
has-driven s attempt d are (p ∷ []) has = has
has-driven s attempt d are (p ∷ (q ∷ h)) has = (
  has.0,
  one-lets attempt d are q.0 p.0 (answer_of s (q ∷ h)).decision has.1,
  has-driven s attempt d are (q ∷ h) has.2,
)

pub one-next : (s : Schedule) (attempt : Between) (d : Driver) → AreAttempts attempt d →
    (begun : ℕ) (h : History) (m : ℕ) → OneEndsAt s attempt d.waits begun h m →
    NextEndsAt s d begun h m
one-next s attempt d are begun [] m ends = are begun m ends
one-next s attempt d are begun (p ∷ h) m ends = (
  has-driven s attempt d are (p ∷ h) ends.0,
  are begun (first_moment (p ∷ h)) ends.1,
  one-lets attempt d are p.0 m (answer_of s (p ∷ h)).decision ends.2,
)

-- a call takes an attempt at least
pub next-least : (s : Schedule) (d : Driver) (begun : ℕ) (h : History) (m : ℕ) →
    NextEndsAt s d begun h m → begun + shortest d ≤ m
next-least s d begun [] m ends = ends.least
next-least s d begun (p ∷ h) m ends =
    let first = ends.1.least in
    let steps = driven-attempts s d p h ends.0 in
    let last = lets-shortest d p.0 m (answer_of s (p ∷ h)).decision ends.2 in
    omega (arith, first, steps, last)

-- an attempt that ends at a limit at the latest
pub cut-most : (limit begun end k : ℕ) (most : Option ℕ) →
    ((n : ℕ) → most ≡ Some n → end ≤ begun + n) →
    cut_most limit most ≡ k → min end (begun + limit) ≤ begun + k
cut-most limit begun end k None ends is = omega (arith, is)
cut-most limit begun end k (Some n) ends is = let last = ends n refl in omega (arith, is, last)
