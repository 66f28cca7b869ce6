-- If a limit that is a sum or the greater of two is known, so are its parts.
use Rattle.std.proofs.Common.{◌≡◌, ℕ, ◌+◌, ◌/◌, max, ◌≤◌, Bool, true, false, nat_le, if◌then◌else◌}
use Rattle.std.proofs.Common.{Option, Some, None, refl, arith}
use Rattle.zs_term.specs.Saturating.{max_moment}
use Rattle.zs_bounds.specs.declared.driver.Driver.{Driver}
use Rattle.zs_bounds.specs.declared.span.Span.{Span}
use Rattle.zs_bounds.specs.Driven.{shortest}
use Rattle.zs_bounds.specs.LatestStep.{limit_sum}
use Rattle.zs_bounds.specs.BoundsOf.{longest_wait, sum_within, at_most, greater_if, longer_total}
use Rattle.zs_bounds.specs.BoundsOf.{run_limit, longer_run, real_limit, most_limit, whole_run}
use Rattle.zs_bounds.proofs.LatestSteps.{sum-parts}

-- the number in an option
pub some-is : (x k : ℕ) → Some x ≡ Some k → x ≡ k
some-is x k e = cc

pub sum-is : (b : Bool) (x t : ℕ) → (if b then Some x else None) ≡ Some t → x ≡ t
sum-is true x t e = cc
sum-is false x t e = cc

-- a total, before one more step
pub total-before : (o : Option ℕ) (w t : ℕ) → sum_within o w ≡ Some t →
    (u : ℕ) × ((o ≡ Some u) × (u + w ≡ t))
total-before None w t e = cc
total-before (Some u) w t e = (u, (refl, sum-is (nat_le (u + w) max_moment) (u + w) t e))

-- the greater of a number and another one
pub greater-is : (n : ℕ) (o : Option ℕ) (t : ℕ) → greater_if n o ≡ Some t →
    (m : ℕ) × ((o ≡ Some m) × (max n m ≡ t))
greater-is n None t e = absurd cc
greater-is n (Some m) t e = (m, (refl, cc))

-- all waits, before one more step
pub waits-before : (l : Option ℕ) (w : ℕ) (o : Option ℕ) (t : ℕ) → longer_total l w o ≡ Some t →
    (u : ℕ) × ((o ≡ Some u) × ((u ≤ t) × (at_most l u + w ≤ t)))
waits-before l w None t e = absurd cc
waits-before l w (Some u) t e =
    let greater = greater-is u (sum_within (Some (at_most l u)) w) t e in
    let sum = sum-is (nat_le (at_most l u + w) max_moment) (at_most l u + w)
    greater.0 greater.1.0 in
    (u, (refl, (omega (arith, greater.1.1), omega (arith, greater.1.1, sum))))

-- a longest run, before one more step
pub run-before : (l most : Option ℕ) (waits : Option Span) (run : Option ℕ) (r : ℕ) →
    longer_run l most waits run ≡ Some r → (u : ℕ) × ((run ≡ Some u) × (u ≤ r))
run-before l most None run r e = (r, (e, omega arith))
run-before l None (Some w) run r e = absurd cc
run-before l (Some k) (Some w) None r e = absurd cc
run-before l (Some k) (Some w) (Some u) r e =
    let greater =
    greater-is u (sum_within (sum_within (Some (at_most (run_limit l k) u)) w.high) k) r e in
    (u, (refl, omega (arith, greater.1.1)))

-- the limit of the schedule's waits that gives one of the driver's
pub real-parts : (a : Driver) (o : Option ℕ) (w : ℕ) → real_limit a o ≡ Some w →
    (n : ℕ) × ((o ≡ Some n) × (longest_wait a.waits n ≡ w))
real-parts a None w e = absurd cc
real-parts a (Some n) w e = (n, (refl, some-is (longest_wait a.waits n) w e))

-- the limits that there are
pub total-parts : (a : Driver) (l w : Option ℕ) (t : ℕ) → limit_sum l (real_limit a w) ≡ Some t →
    (k : ℕ) × ((n : ℕ) × ((l ≡ Some k) × ((w ≡ Some n) × (k + longest_wait a.waits n ≡ t))))
total-parts a l w t e =
    let both = sum-parts l (real_limit a w) t e in
    let wait = real-parts a w both.1.0 both.1.1.1.0 in
    (both.0, (wait.0, (both.1.1.0, (wait.1.0, omega (arith, both.1.1.1.1, wait.1.1)))))

pub run-parts : (most t : Option ℕ) (r : ℕ) → whole_run most t ≡ Some r →
    (k : ℕ) × ((x : ℕ) × ((most ≡ Some k) × ((t ≡ Some x) × (x + k + k ≡ r))))
run-parts None t r e = absurd cc
run-parts (Some k) t r e =
    let outer = total-before (sum_within t k) k r e in
    let inner = total-before t k outer.0 outer.1.0 in
    (k, (inner.0, (refl, (inner.1.0, omega (arith, outer.1.1, inner.1.1)))))

-- a limit of the steps is two more than the attempts in the limit of the time
pub most-parts : (a : Driver) (o : Option ℕ) (k : ℕ) → most_limit a o ≡ Some k →
    (l : ℕ) × ((o ≡ Some l) × (l / shortest a + 2 ≡ k))
most-parts a None k e = absurd cc
most-parts a (Some l) k e =
    (l, (refl, sum-is (nat_le (l / shortest a + 2) max_moment) (l / shortest a + 2) k e))
