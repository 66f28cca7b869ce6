-- Bounds that hold up to n steps hold up to n + 1 after one more step is counted.
use Rattle.std.proofs.Common.{◌≡◌, ℕ, suc, ◌+◌, ◌*◌, ◌<◌, ◌≤◌, ◌⊎◌, inl, inr, Bool, true, false}
use Rattle.std.proofs.Common.{not, ◌&&◌, nat_lt, nat_le, if◌then◌else◌, Option, Some, None, List}
use Rattle.std.proofs.Common.{[], ◌∷◌, length, refl, ap, subst, arith}
use Rattle.std.specs.List.{sum}
use Rattle.zs_term.specs.Saturating.{saturated, max_moment}
use Rattle.zs_term.specs.Schedule.{Schedule}
use Rattle.zs_step.specs.declared.decision.Decision.{Decision}
use Rattle.zs_step.specs.declared.decision.Decision.TheVariants.{Stop, Next}
use Rattle.zs_step.specs.History.{History, first_moment, last_moment}
use Rattle.zs_step.specs.Answer.{answer_of, is_next}
use Rattle.zs_bounds.specs.declared.driver.Driver.{Driver}
use Rattle.zs_bounds.specs.declared.told.Bounds.{Bounds}
use Rattle.zs_bounds.specs.declared.span.Span.{Span}
use Rattle.zs_bounds.specs.declared.decisions.Decisions.{Decisions}
use Rattle.zs_bounds.specs.Driven.{shortest, IsAttempt, WaitsFor, LetsEndAt, IsDriven}
use Rattle.zs_bounds.specs.Bounds.{HasWaits}
use Rattle.zs_bounds.specs.DecisionRange.{IsWaitIn, IsDecisionIn}
use Rattle.zs_bounds.specs.StateRange.{StateRange}
use Rattle.zs_bounds.specs.BoundsOf.{longest_in, sum_within, at_most, waits_limit, run_limit}
use Rattle.zs_bounds.specs.BoundsOf.{longer_run, real_waits, real_decisions, latest_of, with_step}
use Rattle.zs_bounds.proofs.DrivenHistories.{sum-more, driven-waits}
use Rattle.zs_bounds.proofs.LimitParts.{sum-is, total-before, greater-is, waits-before, run-before}
use Rattle.zs_bounds.proofs.DriverWaits.{real-in, driven-within}
use Rattle.zs_bounds.proofs.Reached.{Reaches, wait-longest, next-only}

-- bounds of at most n steps hold
pub record HoldsUpTo (s : Schedule) (a : Driver) (n : ℕ) (b : Bounds) : Type 0 where
  pub seen : b.seen ≡ n
  pub small : b.least ≤ suc n
  pub least : (h : History) → IsDriven s a h → length h ≤ n → length h < b.least →
      is_next (answer_of s h).decision ≡ true
  pub longest : (h : History) → IsDriven s a h → length h ≤ n → (u : ℕ) →
      WaitsFor a.waits (last_moment h) (answer_of s h).decision u → u ≤ b.longest
  pub total : (t : ℕ) → b.total ≡ Some t → (h : History) → IsDriven s a h → length h ≤ n →
      (us : List ℕ) → HasWaits s a h us → sum us ≤ t
  pub first : (r : ℕ) → b.longest_run ≡ Some r → (k : ℕ) × ((a.most ≡ Some k) × (k ≤ r))
  pub next : (r : ℕ) → b.longest_run ≡ Some r → (h : History) → IsDriven s a h → length h ≤ n
      → (begun : ℕ) → IsAttempt a begun (first_moment h) → (m : ℕ) →
      LetsEndAt a (last_moment h) (answer_of s h).decision m → m ≤ begun + r

-- ---- the least step at which it may stop

least-stops : (b : Bool) (least n : ℕ) → least ≤ suc n →
    suc n < (if b && false then saturated (least + 1) else least) → ⊥
least-stops true least n small lt = omega arith
least-stops false least n small lt = omega arith

-- the least step at which it may stop, after one more: it moved only if that step goes on for sure
least-cases : (seen least n : ℕ) (stops : Bool) → seen ≡ n → least ≤ suc n →
    suc n < (if nat_lt seen least && not stops then saturated (least + 1) else least) →
    stops ≡ false
least-cases seen least n true e small lt = absurd (least-stops (nat_lt seen least) least n small lt)
least-cases seen least n false e small lt = refl

least-chosen : (b c : Bool) (seen least n k : ℕ) → nat_lt seen least ≡ b → seen ≡ n → k ≤ n →
    k < (if b && c then saturated (least + 1) else least) → k < least
least-chosen true true seen least n k is e le lt = grind arith
least-chosen true false seen least n k is e le lt = lt
least-chosen false c seen least n k is e le lt = lt

-- before that, it is no earlier than it was
least-before : (seen least n k : ℕ) (stops : Bool) → seen ≡ n → least ≤ suc n → k ≤ n →
    k < (if nat_lt seen least && not stops then saturated (least + 1) else least) → k < least
least-before seen least n k stops e small le lt =
    least-chosen (nat_lt seen least) (not stops) seen least n k refl e le lt

least-small : (b : Bool) (least n : ℕ) → least ≤ suc n →
    (if b then saturated (least + 1) else least) ≤ suc (suc n)
least-small true least n small = omega arith
least-small false least n small = omega arith

-- a history of at most n steps, or of one more
up_to-or : (k n : ℕ) → k ≤ suc n → (k ≤ n) ⊎ (k ≡ suc n)
up_to-or k n le = grind arith

-- ---- the sum of the waits

-- the waits before a step
earlier-waits : (s : Schedule) (a : Driver) (n : ℕ) (b : Bounds) (u : ℕ) (p : ℕ × ℕ) (h : History)
    (us : List ℕ) → HoldsUpTo s a n b → b.total ≡ Some u → IsDriven s a (p ∷ h) →
    length (p ∷ h) ≡ suc n → HasWaits s a h us → sum us ≤ u
earlier-waits s a n b u p [] [] holds e driven long has = omega arith
earlier-waits s a n b u p [] (v ∷ us) holds e driven long has = absurd has
earlier-waits s a n b u p (q ∷ h) us holds e driven long has =
    holds.total u e (q ∷ h) driven.2 (omega (arith, long)) us has

-- within the limit of the waits before a step that goes on
within-waits : (l : Option ℕ) (a : Driver) (n u waited first last : ℕ) → waited ≤ u →
    first + waited + shortest a * n ≤ last → ((k : ℕ) → l ≡ Some k → last ≤ first + k) →
    waited ≤ at_most (waits_limit a l n) u
within-waits None a n u waited first last le before within = le
within-waits (Some k) a n u waited first last le before within = let late = within k refl in
    omega (arith, le, before, late)

-- all waits of a history with one more step
step-waits : (s : Schedule) (a : Driver) (n : ℕ) (b : Bounds) (u : ℕ) (h : History) (us : List ℕ)
    (w t : ℕ) → HoldsUpTo s a n b → b.total ≡ Some u → IsDriven s a h → length h ≡ suc n →
    HasWaits s a h us → (d : Decision) → (answer_of s h).decision ≡ d →
    ((v : ℕ) → WaitsFor a.waits (last_moment h) d v → v ≤ w) → u ≤ t →
    at_most (waits_limit a (latest_of s a) b.seen) u + w ≤ t → sum us ≤ t
step-waits s a n b u [] us w t holds e driven long has d is wait le added = absurd driven
step-waits s a n b u (p ∷ h) [] w t holds e driven long has d is wait le added = absurd has
step-waits s a n b u (p ∷ h) (v ∷ us) w t holds e driven long has Stop is wait le added =
    let earlier = earlier-waits s a n b u p h us holds e driven long has.2 in
    let none : v ≡ 0 = subst (λ x. WaitsFor a.waits p.0 x v) is has.0 in
    let all = sum-more v us in
    omega (arith, earlier, none, le, all)
step-waits s a n b u (p ∷ h) (v ∷ us) w t holds e driven long has (Next x) is wait le added =
    let earlier = earlier-waits s a n b u p h us holds e driven long has.2 in
    let before = driven-waits s a p h v us has in
    let seen : b.seen ≡ length h = let all = holds.seen in omega (arith, all, long) in
    let last = wait v (subst (λ y. WaitsFor a.waits p.0 y v) is has.0) in
    let waited =
    within-waits (latest_of s a) a (length h) u (sum us) (first_moment (p ∷ h))
    p.0 earlier before (driven-within s a (p ∷ h) driven (ap is_next is)) in
    let now = subst (λ k. at_most (waits_limit a (latest_of s a) k) u + w ≤ t) seen added in
    let all = sum-more v us in
    omega (arith, waited, last, now, all)

-- ---- the longest run

-- the run up to a step that goes on
within-run : (l : Option ℕ) (k u last first begun : ℕ) → last ≤ begun + u →
    ((x : ℕ) → l ≡ Some x → last ≤ first + x) → first ≤ begun + k →
    last ≤ begun + at_most (run_limit l k) u
within-run None k u last first begun before within begins = before
within-run (Some x) k u last first begun before within begins = let late = within x refl in
    omega (arith, before, late, begins)

-- the run up to a step is within the longest run, and so is the next attempt
wait-run : (l most : Option ℕ) (waits : Option Span) (run : Option ℕ) (r last first begun m y : ℕ)
    → longer_run l most waits run ≡ Some r → IsWaitIn last waits y →
    ((u : ℕ) → run ≡ Some u → last ≤ begun + u) → ((x : ℕ) → l ≡ Some x → last ≤ first + x) →
    ((k : ℕ) → most ≡ Some k → first ≤ begun + k) →
    ((k : ℕ) → most ≡ Some k → m ≤ y + k) → m ≤ begun + r
wait-run l most None run r last first begun m y e is before within begins ends = absurd is
wait-run l None (Some w) run r last first begun m y e is before within begins ends = absurd cc
wait-run l (Some k) (Some w) None r last first begun m y e is before within begins ends = absurd cc
wait-run l (Some k) (Some w) (Some u) r last first begun m y e is before within begins ends =
    let greater =
    greater-is u (sum_within (sum_within (Some (at_most (run_limit l k) u)) w.high) k) r e in
    let outer =
    total-before (sum_within (Some (at_most (run_limit l k) u)) w.high)
    k greater.0 greater.1.0 in
    let inner =
    sum-is (nat_le (at_most (run_limit l k) u + w.high) max_moment)
    (at_most (run_limit l k) u + w.high) outer.0 outer.1.0 in
    let up_to = within-run l k u last first begun (before u refl) within (begins k refl) in
    let end = ends k refl in
    omega (arith, greater.1.1, outer.1.1, inner, up_to, is.high, end)

lets-run : (l : Option ℕ) (a : Driver) (d : Decisions) (run : Option ℕ) (r last first begun m : ℕ)
    (x : Decision) → longer_run l a.most (real_waits a.waits d.waits) run ≡ Some r →
    IsDecisionIn last x d → ((u : ℕ) → run ≡ Some u → last ≤ begun + u) →
    (is_next x ≡ true → (k : ℕ) → l ≡ Some k → last ≤ first + k) → IsAttempt a begun first →
    LetsEndAt a last x m → m ≤ begun + r
lets-run l a d run r last first begun m Stop e is before within begins lets = absurd lets
lets-run l a d run r last first begun m (Next y) e is before within begins lets =
    wait-run l a.most (real_waits a.waits d.waits) run r last first begun m (last + lets.0) e
    (real-in a.waits last y lets.0 d.waits is lets.1.0) before (within refl)
    begins.most lets.1.1.most

-- the first attempt with one more step
first-run : (l : Option ℕ) (a : Driver) (waits : Option Span) (run : Option ℕ) →
    ((r : ℕ) → run ≡ Some r → (k : ℕ) × ((a.most ≡ Some k) × (k ≤ r))) →
    (r : ℕ) → longer_run l a.most waits run ≡ Some r → (k : ℕ) × ((a.most ≡ Some k) × (k ≤ r))
first-run l a waits run first r e =
    let before = run-before l a.most waits run r e in
    let k = first before.0 before.1.0 in
    (k.0, (k.1.0, omega (arith, k.1.1, before.1.1)))

-- each attempt of a history with one step more is within the longest run
pub run-up_to : (s : Schedule) (a : Driver) (n : ℕ) (b : Bounds) → HoldsUpTo s a n b → (r : ℕ) →
    b.longest_run ≡ Some r → (h : History) → IsDriven s a h →
    length h ≤ suc n → (begun : ℕ) → IsAttempt a begun (first_moment h) → last_moment h ≤ begun + r
run-up_to s a n b holds r e [] driven le begun begins = absurd driven
run-up_to s a n b holds r e (p ∷ []) driven le begun begins =
    let k = holds.first r e in
    let ends = begins.most k.0 k.1.0 in
    omega (arith, ends, k.1.1)
run-up_to s a n b holds r e (p ∷ (q ∷ h)) driven le begun begins =
    holds.next r e (q ∷ h) driven.2 (omega (arith, le)) begun begins p.0 driven.1

-- ---- all of them

pub step-holds : (s : Schedule) (a : Driver) (n : ℕ) (c : StateRange) (d : Decisions) (passed : ℕ)
    (b : Bounds) → HoldsUpTo s a n b → Reaches s a (suc n) c d passed →
    HoldsUpTo s a (suc n) (with_step (latest_of s a) a (real_decisions a d) b)
step-holds s a n c d passed b holds reaches = record {
  seen = (let e = holds.seen in omega (arith, e));
  small = least-small (nat_lt b.seen b.least && not d.stops) b.least n holds.small;
  least = λ h driven le lt. elim (up_to-or (length h) n le) [
    | inl before ↦ holds.least h driven before
        (least-before b.seen b.least n (length h) d.stops holds.seen holds.small before lt)
    | inr now ↦ next-only (last_moment h) (answer_of s h).decision d (reaches h driven now).decides
        (least-cases b.seen b.least n d.stops holds.seen holds.small
        (subst (λ k. k < (if nat_lt b.seen b.least && not d.stops then saturated (b.least + 1)
        else b.least)) now lt))
  ];
  longest = λ h driven le u waits. elim (up_to-or (length h) n le) [
    | inl before ↦ (let shorter = holds.longest h driven before u waits in omega (arith, shorter))
    | inr now ↦
        (let wait =
        wait-longest a.waits (last_moment h) u (answer_of s h).decision d
        (reaches h driven now).decides waits in omega (arith, wait))
  ];
  total = λ t e h driven le us has.
      let part =
      waits-before (waits_limit a (latest_of s a) b.seen)
      (longest_in (real_waits a.waits d.waits)) b.total t e in
      elim (up_to-or (length h) n le) [
        | inl before ↦ (let shorter = holds.total part.0 part.1.0 h driven before us has in
            omega (arith, shorter, part.1.1.0))
        | inr now ↦ step-waits s a n b part.0 h us (longest_in (real_waits a.waits d.waits))
            t holds part.1.0 driven now has (answer_of s h).decision refl
            (λ v waits. wait-longest a.waits (last_moment h) v (answer_of s h).decision d
            (reaches h driven now).decides waits) part.1.1.0 part.1.1.1
      ];
  first = first-run (latest_of s a) a (real_waits a.waits d.waits) b.longest_run holds.first;
  next = λ r e h driven le begun begins m lets. elim (up_to-or (length h) n le) [
    | inl before ↦ (
        let run = run-before (latest_of s a) a.most (real_waits a.waits d.waits)
        b.longest_run r e in
        let shorter = holds.next run.0 run.1.0 h driven before begun begins m lets in
        omega (arith, shorter, run.1.1))
    | inr now ↦ lets-run (latest_of s a) a d b.longest_run r (last_moment h) (first_moment h)
        begun m (answer_of s h).decision e (reaches h driven now).decides
        (λ u is. run-up_to s a n b holds u is h driven le begun begins)
        (driven-within s a h driven) begins lets
  ];
}
