-- What is promised of the schedule's waits, if a driver is never early.
use Rattle.std.proofs.Common.{◌≡◌, ℕ, ◌+◌, ◌-◌, ◌*◌, ◌/◌, ◌≤◌, max, Some, List, [], ◌∷◌, length}
use Rattle.std.proofs.Common.{refl, sym, subst, arith}
use Rattle.std.specs.List.{sum}
use Rattle.std.specs.Int.{div_ceil}
use Rattle.std.proofs.lemmas.Grind.{div_ceil_times}
use Rattle.std.proofs.lemmas.List.Sums.{sum_by-cons}
use Rattle.std.proofs.lemmas.Nat.{le-div}
use Rattle.std.proofs.Math.Nat.{div-mul-le_self}
use Rattle.zs_term.specs.Saturating.{max_moment}
use Rattle.zs_term.specs.Schedule.{Schedule}
use Rattle.zs_step.specs.declared.decision.Decision.{Decision}
use Rattle.zs_step.specs.declared.decision.Decision.TheVariants.{Stop, Next}
use Rattle.zs_step.specs.History.{History, last_moment}
use Rattle.zs_step.specs.Answer.{answer_of}
use Rattle.zs_step.specs.Laws.{IsNotBefore}
use Rattle.zs_step.proofs.Moments.{answer_of-late}
use Rattle.zs_bounds.specs.declared.driver.Driver.{Driver}
use Rattle.zs_bounds.specs.declared.told.Bounds.{Bounds}
use Rattle.zs_bounds.specs.declared.waits.Waits.{Waits}
use Rattle.zs_bounds.specs.Driven.{max_tick, exact_waits, IsAttempt, IsWait, IsNeverEarly, WaitsFor}
use Rattle.zs_bounds.specs.Driven.{LetsEndAt, IsDriven}
use Rattle.zs_bounds.specs.Bounds.{wait_of, last_wait, total_wait, EndsAfter, HasWaits, Promises}
use Rattle.zs_bounds.specs.Bounds.{BoundsWaits}
use Rattle.zs_bounds.specs.Span.{span}
use Rattle.zs_bounds.specs.BoundsOf.{shortest_wait, longest_wait, real_waits}
use Rattle.zs_bounds.proofs.SmallMoments.{IsSmall, answer_of-small}

-- a product rises with its second factor
times-rise : (w p q : ℕ) → p ≤ q → w * p ≤ w * q
times-rise w p q le = grind arith

-- a whole percentage
percent-down : (w : ℕ) → w * 100 / 100 ≡ w
percent-down w =
    let less = div-mul-le_self (w * 100) 100 in
    let low = le-div w (w * 100) 100 (omega arith) (omega arith) in
    omega (arith, less, low)

percent-up : (w : ℕ) → div_ceil (w * 100) 100 ≡ w
percent-up w = let high = div_ceil_times (w * 100) 100 (omega arith) in
    omega (arith, high.0, high.1)

-- a driver may wait as long as the schedule, and be late
late-wait : (v : Waits) (w l : ℕ) → IsNeverEarly v → l ≤ v.late → w + l ≤ max_moment →
    IsWait v w (w + l)
late-wait v w l never late small = record {
  least = (
      let down = percent-down w in
      let low : w * 100 / 100 ≤ w + l = omega (arith, down) in
      subst (λ n. w * n / 100 ≤ w + l) (sym never.least) low);
  most = (
      let rises = times-rise w 100 v.most_percent never.most in
      let high = div_ceil_times (w * v.most_percent) 100 (omega arith) in
      omega (arith, rises, high.0, late, small));
}

-- it waits no less
not-early : (v : Waits) (m u : ℕ) (d : Decision) → IsNeverEarly v → WaitsFor v m d u →
    wait_of m d ≤ u
not-early v m u Stop never waits = omega arith
not-early v m u (Next x) never waits =
    let least : (x - m) * 100 / 100 ≤ u =
    subst (λ n. (x - m) * n / 100 ≤ u) never.least waits.least in
    let down = percent-down (x - m) in
    omega (arith, least, down)

-- with exact waits it waits no more
pub exact-only : (m u : ℕ) (d : Decision) → WaitsFor exact_waits m d u → u ≡ wait_of m d
exact-only m u Stop waits = waits
exact-only m u (Next x) waits =
    let least = waits.least in
    let most = waits.most in
    let down = percent-down (x - m) in
    let up = percent-up (x - m) in
    omega (arith, least, most, down, up)

-- and so the numbers are computed from the schedule's waits
pub exact-same : (low high : ℕ) → low ≤ max_moment → high ≤ max_moment →
    real_waits exact_waits (Some (span low high)) ≡ Some (span low high)
exact-same low high small large =
    let down = percent-down low in
    let up = percent-up high in
    let first : shortest_wait exact_waits low ≡ low = omega (arith, down, small) in
    let last : longest_wait exact_waits high ≡ high = omega (arith, up, large) in
    subst (λ x. Some (span (shortest_wait exact_waits low) (longest_wait exact_waits high)) ≡ Some
    (span x high)) first
    (subst (λ y. Some (span (shortest_wait exact_waits low) (longest_wait exact_waits high)) ≡ Some
    (span (shortest_wait exact_waits low) y)) last refl)

waits-exactly : (v : Waits) (m : ℕ) (d : Decision) → IsNeverEarly v → IsSmall d →
    WaitsFor v m d (wait_of m d)
waits-exactly v m Stop never small = refl
waits-exactly v m (Next x) never small =
    let wait : IsWait v (x - m) (x - m + 0) =
    late-wait v (x - m) 0 never (omega arith) (omega (arith, small)) in
    let same : x - m + 0 ≡ x - m = omega arith in
    subst (IsWait v (x - m)) same wait

-- an attempt may begin at the moment of a decision, and so much later as the driver may be late
pub lets-late : (a : Driver) (s : Schedule) (h : History) (y l x : ℕ) → IsNeverEarly a.waits →
    last_moment h ≤ max_tick → (answer_of s h).decision ≡ Next y → l ≤ a.waits.late →
    y + l ≤ max y max_tick → IsAttempt a (y + l) x →
    LetsEndAt a (last_moment h) (answer_of s h).decision x
lets-late a s h y l x never tick decides late by attempt =
    let m = last_moment h in
    let after : m ≤ y = subst (IsNotBefore m) decides (answer_of-late s h (omega (arith, tick))) in
    let small : y ≤ max_moment =
    subst IsSmall decides (answer_of-small s h (omega (arith, tick))) in
    let at : y + l ≡ m + (y - m + l) = omega (arith, after) in
    let lets : LetsEndAt a m (Next y) x = (
      y - m + l,
      (
        late-wait a.waits (y - m) l never late (omega (arith, by, small)),
        subst (λ z. IsAttempt a z x) at attempt,
      ),
    ) in
    subst (λ d. LetsEndAt a m d x) (sym decides) lets

pub lets-exactly : (a : Driver) (s : Schedule) (h : History) (y x : ℕ) → IsNeverEarly a.waits →
    last_moment h ≤ max_tick → (answer_of s h).decision ≡ Next y → IsAttempt a y x →
    LetsEndAt a (last_moment h) (answer_of s h).decision x
lets-exactly a s h y x never tick decides attempt =
    let at : y ≡ y + 0 = omega arith in
    lets-late a s h y 0 x never tick decides (omega arith) (omega arith)
    (subst (λ z. IsAttempt a z x) at attempt)

driven-tick : (s : Schedule) (a : Driver) (p : ℕ × ℕ) (h : History) → IsDriven s a (p ∷ h) →
    p.0 ≤ max_tick
driven-tick s a p [] driven = driven.tick
driven-tick s a p (q ∷ h) driven = driven.0.tick

waits-last : (s : Schedule) (a : Driver) (p : ℕ × ℕ) (h : History) → IsNeverEarly a.waits →
    IsDriven s a (p ∷ h) → WaitsFor a.waits p.0 (answer_of s (p ∷ h)).decision (last_wait s (p ∷ h))
waits-last s a p h never driven =
    let tick = driven-tick s a p h driven in
    waits-exactly a.waits p.0 (answer_of s (p ∷ h)).decision never
    (answer_of-small s (p ∷ h) (omega (arith, tick)))

lets-waits : (a : Driver) (m x : ℕ) (d : Decision) → LetsEndAt a m d x →
    (u : ℕ) × (WaitsFor a.waits m d u × IsAttempt a (m + u) x)
lets-waits a m x Stop lets = absurd lets
lets-waits a m x (Next y) lets = lets

-- The waits before a step at a moment: together no shorter than the schedule's.
record WaitedFor (s : Schedule) (a : Driver) (h : History) (m : ℕ) : Type 0 where
  us : List ℕ
  ends : EndsAfter a h us m
  has : HasWaits s a h us
  all : total_wait s h ≤ sum us

waited-for : (s : Schedule) (a : Driver) (p : ℕ × ℕ) (h : History) → IsNeverEarly a.waits →
    IsDriven s a (p ∷ h) → WaitedFor s a h p.0
waited-for s a p [] never driven = record { us = []; ends = tt; has = tt; all = omega arith }
waited-for s a p (q ∷ h) never driven =
    let before : WaitedFor s a h q.0 = waited-for s a q h never driven.2 in
    let wait = lets-waits a q.0 p.0 (answer_of s (q ∷ h)).decision driven.1 in
    let longer = not-early a.waits q.0 wait.0 (answer_of s (q ∷ h)).decision never wait.1.0 in
    let sums = sum_by-cons (λ x. x) wait.0 before.us in
    let rest = before.all in
    record {
      us = wait.0 ∷ before.us;
      ends = wait.1.1;
      has = (wait.1.0, before.ends, before.has);
      all = omega (arith, longer, rest, sums);
    }

all-within : (s : Schedule) (a : Driver) (b : Bounds) → IsNeverEarly a.waits → Promises s a b →
    (t : ℕ) → b.total ≡ Some t → (h : History) → IsDriven s a h → total_wait s h ≤ t
all-within s a b never promises t e [] driven = absurd driven
all-within s a b never promises t e (p ∷ h) driven =
    let before : WaitedFor s a h p.0 = waited-for s a p h never driven in
    let last = waits-last s a p h never driven in
    let within =
    promises.total t e (p ∷ h) driven (last_wait s (p ∷ h) ∷ before.us)
    (last, before.ends, before.has) in
    let sums = sum_by-cons (λ x. x) (last_wait s (p ∷ h)) before.us in
    let rest = before.all in
    omega (arith, within, rest, sums)

longest-within : (s : Schedule) (a : Driver) (b : Bounds) → IsNeverEarly a.waits → Promises s a b →
    (h : History) → IsDriven s a h → length h ≤ b.seen → last_wait s h ≤ b.longest
longest-within s a b never promises [] driven le = absurd driven
longest-within s a b never promises (p ∷ h) driven le =
    promises.longest (p ∷ h) driven le (last_wait s (p ∷ h)) (waits-last s a p h never driven)

every-within : (s : Schedule) (a : Driver) (b : Bounds) → IsNeverEarly a.waits → Promises s a b →
    (w : ℕ) → b.every ≡ Some w → (h : History) → IsDriven s a h → last_wait s h ≤ w
every-within s a b never promises w e [] driven = absurd driven
every-within s a b never promises w e (p ∷ h) driven =
    promises.every w e (p ∷ h) driven (last_wait s (p ∷ h)) (waits-last s a p h never driven)

-- the schedule's waits are within the bounds
pub bounds-waits : (s : Schedule) (a : Driver) (b : Bounds) → IsNeverEarly a.waits → Promises s a b
    → BoundsWaits s a b
bounds-waits s a b never promises =
    record {
      longest = longest-within s a b never promises;
      every = every-within s a b never promises;
      total =
          all-within s a b never promises;
    }
