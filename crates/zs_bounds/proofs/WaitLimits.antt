-- No wait of a schedule is longer than the limit that its form shows.
use Rattle.std.proofs.Common.{◌≡◌, ℕ, ◌+◌, ◌-◌, ◌%◌, ◌≤◌, min, max, ◌⊎◌, inl, inr, Bool, true}
use Rattle.std.proofs.Common.{false, ◌||◌, nat_lt, nat_le, nat_eq, if◌then◌else◌, Option, Some}
use Rattle.std.proofs.Common.{None, [], ◌∷◌, length, refl, arith}
use Rattle.zs_term.specs.Saturating.{saturated}
use Rattle.zs_term.specs.Output.{passes, picked}
use Rattle.zs_term.specs.Schedule.{Schedule, leaf, two, over, Leaf, plain, counted, exponential}
use Rattle.zs_term.specs.Schedule.{both, either, and_then, while_input, while_output, collect_all}
use Rattle.zs_term.specs.Schedule.{mapped, reset_when}
use Rattle.zs_term.specs.declared.forms.Plain.TheVariants.{Forever, Identity, Elapsed}
use Rattle.zs_term.specs.declared.forms.Counted.TheVariants.{Recurs, Spaced, Fixed, Fibonacci}
use Rattle.zs_term.specs.declared.forms.Counted.TheVariants.{Linear, Windowed}
use Rattle.zs_step.specs.declared.decision.Decision.{Decision}
use Rattle.zs_step.specs.declared.decision.Decision.TheVariants.{Stop, Next}
use Rattle.zs_step.specs.History.{History, last_moment, first_moment}
use Rattle.zs_step.specs.Answer.{Answer, leaf_answer, answer_of, is_next, only_if, later_of}
use Rattle.zs_step.specs.Answer.{earlier_of, next_run, done_from, from_done, sequel_of, reset_if}
use Rattle.zs_step.specs.Answer.{since_reset}
use Rattle.zs_bounds.specs.Bounds.{wait_of}
use Rattle.zs_bounds.specs.LatestStep.{smaller_limit, greater_limit}
use Rattle.zs_bounds.specs.BoundsOf.{never_stops, leaf_wait, either_wait, wait_limit}
use Rattle.zs_bounds.proofs.GoingOn.{goes-on}

pub only_if-wait : (m w : ℕ) (b : Bool) (d : Decision) → wait_of m d ≤ w →
    wait_of m (only_if b d) ≤ w
only_if-wait m w true d le = le
only_if-wait m w false d le = omega arith

pub later-wait : (m w : ℕ) (d e : Decision) → wait_of m d ≤ w → wait_of m e ≤ w →
    wait_of m (later_of d e) ≤ w
later-wait m w (Next x) (Next y) s t = omega (arith, s, t)
later-wait m w (Next x) Stop s t = omega arith
later-wait m w Stop e s t = omega arith

pub earlier-wait : (m w : ℕ) (d e : Decision) → wait_of m d ≤ w → wait_of m e ≤ w →
    wait_of m (earlier_of d e) ≤ w
earlier-wait m w (Next x) (Next y) s t = omega (arith, s, t)
earlier-wait m w (Next x) Stop s t = s
earlier-wait m w Stop e s t = t

-- a part that goes on limits the wait of the earlier moment
earlier-first : (m w : ℕ) (d e : Decision) → is_next d ≡ true → wait_of m d ≤ w →
    wait_of m (earlier_of d e) ≤ w
earlier-first m w (Next x) (Next y) goes s = omega (arith, s)
earlier-first m w (Next x) Stop goes s = s
earlier-first m w Stop e goes s = absurd cc

earlier-second : (m w : ℕ) (d e : Decision) → is_next e ≡ true → wait_of m e ≤ w →
    wait_of m (earlier_of d e) ≤ w
earlier-second m w (Next x) (Next y) goes t = omega (arith, t)
earlier-second m w Stop e goes t = t
earlier-second m w (Next x) Stop goes t = absurd cc

-- a moment, or one at most a period later
choice-wait : (b : Bool) (m p x : ℕ) → (if b then m else saturated (m + p - x)) - m ≤ p
choice-wait true m p x = omega arith
choice-wait false m p x = omega arith

next_run-wait : (p : ℕ) (h : History) → next_run p h - last_moment h ≤ p
next_run-wait p [] = omega arith
next_run-wait p (q ∷ []) = omega arith
next_run-wait p (q ∷ (r ∷ h)) =
    choice-wait (nat_lt (next_run p (r ∷ h) + p) q.0 || nat_eq p 0) q.0 p
    ((q.0 - first_moment (r ∷ h)) % p)

-- the waits of results, after every history with a step
abbrev pub WaitsUpTo : (History → Answer) → ℕ → Type 0
WaitsUpTo a w = (p : ℕ × ℕ) (h : History) → wait_of p.0 (a (p ∷ h)).decision ≤ w

leaf-limit : (l : Leaf) (w : ℕ) → leaf_wait l ≡ Some w → WaitsUpTo (leaf_answer l) w
leaf-limit (plain Forever) w e p h = omega arith
leaf-limit (plain Identity) w e p h = omega arith
leaf-limit (plain Elapsed) w e p h = omega arith
leaf-limit (counted Recurs k) w e p h =
    only_if-wait p.0 w (nat_lt (length h) k) (Next p.0) (omega arith)
leaf-limit (counted Spaced d) w e p h = let is : d ≡ w = cc in omega (arith, is)
leaf-limit (counted Fixed d) w e p h = let is : d ≡ w = cc in let le = next_run-wait d (p ∷ h) in
    omega (arith, is, le)
leaf-limit (counted Fibonacci o) w e p h = absurd cc
leaf-limit (counted Linear n) w e p h = absurd cc
leaf-limit (counted Windowed n) w e p h =
    let is : n ≡ w = cc in
    let le = choice-wait (nat_eq n 0) p.0 n ((p.0 - first_moment (p ∷ h)) % n) in
    omega (arith, is, le)
leaf-limit (exponential b f) w e p h = absurd cc

-- the greater of two limits
pub record Greater (x y : Option ℕ) (w : ℕ) : Type 0 where
  pub u : ℕ
  pub v : ℕ
  pub first : x ≡ Some u
  pub second : y ≡ Some v
  pub is : max u v ≡ w

pub greater-is : (x y : Option ℕ) (w : ℕ) → greater_limit x y ≡ Some w → Greater x y w
greater-is None y w e = absurd cc
greater-is (Some u) None w e = absurd cc
greater-is (Some u) (Some v) w e = record { u = u; v = v; first = refl; second = refl; is = cc }

up-to : (a : History → Answer) (u w : ℕ) → u ≤ w → WaitsUpTo a u → WaitsUpTo a w
up-to a u w le up p h = let less = up p h in omega (arith, le, less)

sequel-wait : (o : Option History) (p : ℕ × ℕ) (w : ℕ) (x : Answer) (b : History → Answer)
    (n : Bool) → wait_of p.0 x.decision ≤ w → WaitsUpTo b w →
    wait_of p.0 (sequel_of (done_from o p n) x b).decision ≤ w
sequel-wait (Some g) p w x b n first second = second p g
sequel-wait None p w x b true first second = first
sequel-wait None p w x b false first second = second p []

reset-wait : (a : History → Answer) (w : ℕ) (r : Bool) (p : ℕ × ℕ) (g : History) → WaitsUpTo a w →
    wait_of p.0 (a (reset_if r p g)).decision ≤ w
reset-wait a w true p g up = up p []
reset-wait a w false p g up = up p g

smaller-by : (u v w : ℕ) (b : Bool) → nat_le u v ≡ b → min u v ≡ w →
    ((x : ℕ) × ((Some u ≡ Some x) × (x ≡ w))) ⊎ ((y : ℕ) × ((Some v ≡ Some y) × (y ≡ w)))
smaller-by u v w true le is = inl (u, (refl, grind arith))
smaller-by u v w false le is = inr (v, (refl, grind arith))

-- the smaller of two limits is one of them
smaller-one : (x y : Option ℕ) (w : ℕ) → smaller_limit x y ≡ Some w →
    ((u : ℕ) × ((x ≡ Some u) × (u ≡ w))) ⊎ ((v : ℕ) × ((y ≡ Some v) × (v ≡ w)))
smaller-one None y w e = inr (w, (e, refl))
smaller-one (Some u) None w e = inl (u, (refl, cc))
smaller-one (Some u) (Some v) w e = smaller-by u v w (nat_le u v) refl cc

either-wait : (a b : Schedule) (w : ℕ) (p q : Bool) → never_stops a ≡ p → never_stops b ≡ q →
    either_wait p q (wait_limit a) (wait_limit b) ≡ Some w →
    ((u : ℕ) → wait_limit a ≡ Some u → WaitsUpTo (answer_of a) u) →
    ((v : ℕ) → wait_limit b ≡ Some v → WaitsUpTo (answer_of b) v) →
    WaitsUpTo (answer_of (two either a b)) w
either-wait a b w true true first-never second-never e first second p h =
    let d = (answer_of a (p ∷ h)).decision in
    let f = (answer_of b (p ∷ h)).decision in
    elim (smaller-one (wait_limit a) (wait_limit b) w e) [
      | inl x ↦ earlier-first p.0 w d f (goes-on a first-never p h)
          (up-to (answer_of a) x.0 w (omega (arith, x.1.1)) (first x.0 x.1.0) p h)
      | inr y ↦ earlier-second p.0 w d f (goes-on b second-never p h)
          (up-to (answer_of b) y.0 w (omega (arith, y.1.1)) (second y.0 y.1.0) p h)
    ]
either-wait a b w true false first-never second-never e first second p h =
    earlier-first p.0 w (answer_of a (p ∷ h)).decision (answer_of b (p ∷ h)).decision
    (goes-on a first-never p h) (first w e p h)
either-wait a b w false true first-never second-never e first second p h =
    earlier-second p.0 w (answer_of a (p ∷ h)).decision (answer_of b (p ∷ h)).decision
    (goes-on b second-never p h) (second w e p h)
either-wait a b w false false first-never second-never e first second p h =
    let g = greater-is (wait_limit a) (wait_limit b) w e in
    earlier-wait p.0 w (answer_of a (p ∷ h)).decision (answer_of b (p ∷ h)).decision
    (up-to (answer_of a) g.u w (let is = g.is in omega (arith, is)) (first g.u g.first) p h)
    (up-to (answer_of b) g.v w (let is = g.is in omega (arith, is)) (second g.v g.second) p h)

-- no wait is longer than the limit
pub waits-within : (s : Schedule) (w : ℕ) → wait_limit s ≡ Some w → WaitsUpTo (answer_of s) w
waits-within (leaf l) w e p h = leaf-limit l w e p h
waits-within (two both a b) w e p h =
    let g = greater-is (wait_limit a) (wait_limit b) w e in
    later-wait p.0 w (answer_of a (p ∷ h)).decision (answer_of b (p ∷ h)).decision
    (up-to (answer_of a) g.u w (let is = g.is in omega (arith, is)) (waits-within a g.u g.first)
    p h)
    (up-to (answer_of b) g.v w (let is = g.is in omega (arith, is)) (waits-within b g.v g.second)
    p h)
waits-within (two either a b) w e p h =
    either-wait a b w (never_stops a) (never_stops b) refl refl e (λ u is. waits-within a u is)
    (λ v is. waits-within b v is) p h
waits-within (two and_then a b) w e p h =
    let g = greater-is (wait_limit a) (wait_limit b) w e in
    let x = answer_of a (p ∷ h) in
    sequel-wait (from_done (answer_of a) h) p w x (answer_of b) (is_next x.decision)
    (up-to (answer_of a) g.u w (let is = g.is in omega (arith, is)) (waits-within a g.u g.first)
    p h)
    (up-to (answer_of b) g.v w (let is = g.is in omega (arith, is)) (waits-within b g.v g.second))
waits-within (over s (while_input t)) w e p h =
    only_if-wait p.0 w (passes t p.1) (answer_of s (p ∷ h)).decision (waits-within s w e p h)
waits-within (over s (while_output k t)) w e p h =
    only_if-wait p.0 w (passes t (picked k (answer_of s (p ∷ h)).output))
    (answer_of s (p ∷ h)).decision (waits-within s w e p h)
waits-within (over s collect_all) w e p h = waits-within s w e p h
waits-within (over s (mapped f)) w e p h = waits-within s w e p h
waits-within (over s (reset_when k t)) w e p h =
    let g = since_reset (answer_of s) k t h in
    reset-wait (answer_of s) w (passes t (picked k (answer_of s (p ∷ g)).output)) p g
    (waits-within s w e)
