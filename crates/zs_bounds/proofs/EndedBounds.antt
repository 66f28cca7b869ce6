-- Bounds that hold up to n steps, and the limits of the form, give bounds of all histories.
use Rattle.std.proofs.Common.{◌≡◌, ℕ, suc, ◌+◌, ◌≤◌, Bool, true, false, Option, Some, None, [], ◌∷◌}
use Rattle.std.proofs.Common.{length, refl, arith}
use Rattle.zs_term.specs.Schedule.{Schedule}
use Rattle.zs_step.specs.declared.decision.Decision.TheVariants.{Stop}
use Rattle.zs_step.specs.History.{History, last_moment}
use Rattle.zs_step.specs.Answer.{answer_of}
use Rattle.zs_bounds.specs.declared.driver.Driver.{Driver}
use Rattle.zs_bounds.specs.declared.told.Bounds.{Bounds}
use Rattle.zs_bounds.specs.Driven.{WaitsFor, IsDriven}
use Rattle.zs_bounds.specs.Bounds.{NextEndsAt, Promises}
use Rattle.zs_bounds.specs.BoundsOf.{wait_limit, latest_of, complete, ended, unended}
use Rattle.zs_bounds.proofs.LimitParts.{some-is, total-parts}
use Rattle.zs_bounds.proofs.DriverWaits.{every-within}
use Rattle.zs_bounds.proofs.FormLimits.{all-waits, whole-next, whole-run, most-steps, last-step}
use Rattle.zs_bounds.proofs.OneMoreStep.{HoldsUpTo, run-up_to}

-- each attempt that begins is within the longest run
next-up_to : (s : Schedule) (a : Driver) (n : ℕ) (b : Bounds) → HoldsUpTo s a n b →
    ((h : History) → IsDriven s a h → length h ≤ n) →
    (r : ℕ) → b.longest_run ≡ Some r → (begun : ℕ) (h : History) (m : ℕ) →
    NextEndsAt s a begun h m → m ≤ begun + r
next-up_to s a n b holds short r e begun [] m ends =
    let k = holds.first r e in
    let end = ends.most k.0 k.1.0 in
    omega (arith, end, k.1.1)
next-up_to s a n b holds short r e begun (p ∷ h) m ends =
    holds.next r e (p ∷ h) ends.0 (short (p ∷ h) ends.0) begun ends.1 m ends.2

-- no wait after any step is longer than the longest after those that were seen
every-up_to : (s : Schedule) (a : Driver) (n : ℕ) (b : Bounds) → HoldsUpTo s a n b →
    ((h : History) → IsDriven s a h → length h ≤ n) →
    (w : ℕ) → Some b.longest ≡ Some w → (h : History) → IsDriven s a h → (u : ℕ) →
    WaitsFor a.waits (last_moment h) (answer_of s h).decision u → u ≤ w
every-up_to s a n b holds short w e h driven u waits =
    let is = some-is b.longest w e in
    let le = holds.longest h driven (short h driven) u waits in
    omega (arith, is, le)

-- bounds of every step that there may be
pub ended-promises : (s : Schedule) (a : Driver) (n : ℕ) (b : Bounds) → HoldsUpTo s a (suc n) b →
    ((h : History) → IsDriven s a h → length h ≤ suc n) →
    ((h : History) → IsDriven s a h → length h ≡ suc n → (answer_of s h).decision ≡ Stop) →
    Promises s a (ended b)
ended-promises s a n b holds short stop = record {
  most = λ k e h driven. let is = some-is b.seen k e in let seen = holds.seen in
      let le = short h driven in omega (arith, is, seen, le);
  done = λ k e h driven long. let is = some-is b.seen k e in
      let seen = holds.seen in stop h driven (omega (arith, is, seen, long));
  least = λ h driven lt. holds.least h driven (short h driven) lt;
  longest = λ h driven le. holds.longest h driven (short h driven);
  every = every-up_to s a (suc n) b holds short;
  total = λ t e h driven. holds.total t e h driven (short h driven);
  run = λ r e h driven. run-up_to s a (suc n) b holds r e h driven (let le = short h driven in
      omega (arith, le));
  next = next-up_to s a (suc n) b holds short;
  whole = λ cut h driven. let seen = holds.seen in let le = short h driven in
      omega (arith, seen, le);
  seen = λ cut k e. some-is b.seen k e;
}

no-most : (o : Option ℕ) (k : ℕ) → o ≡ None → o ≡ Some k → ⊥
no-most o k none e = cc

-- bounds of every step within a clock
pub past-promises : (s : Schedule) (a : Driver) (n : ℕ) (b : Bounds) → HoldsUpTo s a (suc n) b →
    b.most ≡ None → ((h : History) → IsDriven s a h → length h ≤ suc n) →
    Promises s a (complete b)
past-promises s a n b holds none short = record {
  most = λ k e h driven. absurd (no-most b.most k none e);
  done = λ k e h driven long. absurd (no-most b.most k none e);
  least = λ h driven lt. holds.least h driven (short h driven) lt;
  longest = λ h driven le. holds.longest h driven (short h driven);
  every = every-up_to s a (suc n) b holds short;
  total = λ t e h driven. holds.total t e h driven (short h driven);
  run = λ r e h driven. run-up_to s a (suc n) b holds r e h driven (let le = short h driven in
      omega (arith, le));
  next = next-up_to s a (suc n) b holds short;
  whole = λ cut h driven. let seen = holds.seen in let le = short h driven in
      omega (arith, seen, le);
  seen = λ cut k e. absurd (no-most b.most k none e);
}

not-whole : (b : Bool) → b ≡ true → b ≡ false → ⊥
not-whole b e f = cc

-- bounds of some of the steps
pub unended-promises : (s : Schedule) (a : Driver) (n : ℕ) (b : Bounds) → HoldsUpTo s a n b →
    Promises s a (unended (latest_of s a) (wait_limit s) a b)
unended-promises s a n b holds = record {
  most = most-steps s a;
  done = last-step s a;
  least = λ h driven lt. let small = holds.small in
      holds.least h driven (omega (arith, lt, small)) lt;
  longest = λ h driven le. let seen = holds.seen in
      holds.longest h driven (omega (arith, seen, le));
  every = every-within s a;
  total = λ t e h driven us has. (
      let parts = total-parts a (latest_of s a) (wait_limit s) t e in
      let all = all-waits s a parts.0 parts.1.0 h us parts.1.1.0 parts.1.1.1.0 driven
      (answer_of s h).decision refl has in
      omega (arith, all, parts.1.1.1.1));
  run = whole-run s a;
  next = whole-next s a;
  whole = λ cut h driven. absurd (not-whole true refl cut);
  seen = λ cut k e. absurd (not-whole true refl cut);
}
