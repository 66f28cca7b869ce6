-- In a driven history moments rise, and attempts and waits are over by the last step.
use Rattle.std.proofs.Common.{◌≡◌, ℕ, suc, ◌+◌, ◌*◌, ◌<◌, ◌≤◌, ◌⊎◌, inl, inr, true, List, [], ◌∷◌}
use Rattle.std.proofs.Common.{length, refl, arith}
use Rattle.std.specs.List.{sum}
use Rattle.std.proofs.lemmas.List.Sums.{sum_by-cons}
use Rattle.zs_term.specs.Saturating.{max_moment}
use Rattle.zs_term.specs.Schedule.{Schedule}
use Rattle.zs_step.specs.declared.decision.Decision.{Decision}
use Rattle.zs_step.specs.declared.decision.Decision.TheVariants.{Stop, Next}
use Rattle.zs_step.specs.History.{History, first_moment, last_moment}
use Rattle.zs_step.specs.Answer.{answer_of, is_next}
use Rattle.zs_bounds.specs.declared.driver.Driver.{Driver}
use Rattle.zs_bounds.specs.Driven.{shortest, IsStep, IsAttempt, WaitsFor, LetsEndAt, IsDriven}
use Rattle.zs_bounds.specs.Bounds.{HasWaits}

-- its last step is one of a clock
pub driven-step : (s : Schedule) (a : Driver) (p : ℕ × ℕ) (h : History) → IsDriven s a (p ∷ h) →
    IsStep p
driven-step s a p [] driven = driven
driven-step s a p (q ∷ h) driven = driven.0

-- a decision that lets an attempt end at a moment is before it
lets-after : (a : Driver) (m x : ℕ) (d : Decision) → LetsEndAt a m d x → m < x
lets-after a m x Stop lets = absurd lets
lets-after a m x (Next y) lets = omega (arith, lets.1.1.least)

-- its moments rise, so it has no more steps than a clock has ticks
pub driven-length : (s : Schedule) (a : Driver) (h : History) → IsDriven s a h →
    length h ≤ last_moment h + 1
driven-length s a [] driven = absurd driven
driven-length s a (p ∷ []) driven = omega arith
driven-length s a (p ∷ (q ∷ h)) driven =
    let before = driven-length s a (q ∷ h) driven.2 in
    let after = lets-after a q.0 p.0 (answer_of s (q ∷ h)).decision driven.1 in
    omega (arith, before, after)

pub driven-small : (s : Schedule) (a : Driver) (p : ℕ × ℕ) (h : History) → IsDriven s a (p ∷ h) →
    length (p ∷ h) ≤ max_moment
driven-small s a p h driven =
    let le = driven-length s a (p ∷ h) driven in
    let step = driven-step s a p h driven in
    omega (arith, le, step.tick)

-- a decision that lets an attempt end at a moment is before it by the shortest attempt
pub lets-shortest : (a : Driver) (m x : ℕ) (d : Decision) → LetsEndAt a m d x → m + shortest a ≤ x
lets-shortest a m x Stop lets = absurd lets
lets-shortest a m x (Next y) lets = omega (arith, lets.1.1.least)

times-more : (x n : ℕ) → x * suc n ≡ x * n + x
times-more x n = grind arith

-- the attempts between the steps are over by the last step
pub driven-attempts : (s : Schedule) (a : Driver) (p : ℕ × ℕ) (h : History) → IsDriven s a (p ∷ h) →
    first_moment (p ∷ h) + shortest a * length h ≤ p.0
driven-attempts s a p [] driven = omega arith
driven-attempts s a p (q ∷ h) driven =
    let before = driven-attempts s a q h driven.2 in
    let after = lets-shortest a q.0 p.0 (answer_of s (q ∷ h)).decision driven.1 in
    let more = times-more (shortest a) (length h) in
    omega (arith, before, after, more)

pub sum-more : (v : ℕ) (us : List ℕ) → sum (v ∷ us) ≡ v + sum us
sum-more v us = sum_by-cons (λ x. x) v us

-- the waits before a step, and the attempts between the steps, are over by then
pub driven-waits : (s : Schedule) (a : Driver) (p : ℕ × ℕ) (h : History) (u : ℕ) (us : List ℕ) →
    HasWaits s a (p ∷ h) (u ∷ us) → first_moment (p ∷ h) + sum us + shortest a * length h ≤ p.0
driven-waits s a p [] u [] has = omega arith
driven-waits s a p [] u (v ∷ us) has = absurd has.1
driven-waits s a p (q ∷ h) u [] has = absurd has.1
driven-waits s a p (q ∷ h) u (v ∷ us) has =
    let before = driven-waits s a q h v us has.2 in
    let more = times-more (shortest a) (length h) in
    let all = sum-more v us in
    omega (arith, before, has.1.least, more, all)

pub lets-waits : (a : Driver) (m x : ℕ) (d : Decision) → LetsEndAt a m d x →
    (u : ℕ) × (WaitsFor a.waits m d u × IsAttempt a (m + u) x)
lets-waits a m x Stop lets = absurd lets
lets-waits a m x (Next y) lets = lets

pub lets-goes : (a : Driver) (m x : ℕ) (d : Decision) → LetsEndAt a m d x → is_next d ≡ true
lets-goes a m x Stop lets = absurd lets
lets-goes a m x (Next y) lets = refl

-- a number that is at most another one is less, or the same
below-or : (n m : ℕ) → n ≤ m → (n < m) ⊎ (n ≡ m)
below-or n m le = grind arith

-- if no history has n + 2 steps, none has more than n + 1
pub none-longer : (s : Schedule) (a : Driver) (n : ℕ) →
    ((p q : ℕ × ℕ) (h : History) → IsDriven s a (p ∷ (q ∷ h)) → length (q ∷ h) ≡ suc n → ⊥) →
    (h : History) → IsDriven s a h →
    length h ≤ suc n
none-longer s a n never [] driven = absurd driven
none-longer s a n never (p ∷ []) driven = omega arith
none-longer s a n never (p ∷ (q ∷ h)) driven =
    let before = none-longer s a n never (q ∷ h) driven.2 in
    elim (below-or (length (q ∷ h)) (suc n) before) [
      | inl lt ↦ omega (arith, lt)
      | inr e ↦ absurd (never p q h driven e)
    ]
