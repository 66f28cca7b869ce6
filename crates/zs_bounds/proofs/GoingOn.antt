-- A schedule whose form shows that it never stops goes on after each step of every history.
use Rattle.std.proofs.Common.{◌≡◌, ℕ, Bool, true, false, ◌||◌, Option, Some, None, [], ◌∷◌, refl}
use Rattle.std.proofs.Common.{ap, ◌∙◌}
use Rattle.zs_term.specs.Schedule.{Schedule, Leaf, plain, counted, exponential, leaf, two, over}
use Rattle.zs_term.specs.Schedule.{both, either, and_then, while_input, while_output, collect_all}
use Rattle.zs_term.specs.Schedule.{mapped, reset_when}
use Rattle.zs_term.specs.Output.{passes, picked}
use Rattle.zs_term.specs.declared.forms.Plain.TheVariants.{Forever, Identity, Elapsed}
use Rattle.zs_term.specs.declared.forms.Counted.TheVariants.{Recurs, Spaced, Fixed, Fibonacci}
use Rattle.zs_term.specs.declared.forms.Counted.TheVariants.{Linear, Windowed}
use Rattle.zs_step.specs.declared.decision.Decision.{Decision}
use Rattle.zs_step.specs.declared.decision.Decision.TheVariants.{Stop, Next}
use Rattle.zs_step.specs.History.{History}
use Rattle.zs_step.specs.Answer.{Answer, answer_of, is_next, later_of, earlier_of, done_from}
use Rattle.zs_step.specs.Answer.{from_done, sequel_of, reset_if, since_reset}
use Rattle.zs_bounds.specs.Bounds.{NeverGivesUp}
use Rattle.zs_bounds.specs.BoundsOf.{never_stops}
use Rattle.zs_bounds.proofs.Spans.{and-left, and-right}

-- results go on after each step
abbrev GoesOn : (History → Answer) → Type 0
GoesOn a = (p : ℕ × ℕ) (h : History) → is_next (a (p ∷ h)).decision ≡ true

-- one of two facts
one-of : (x y : Bool) (P : Type 0) → (x ≡ true → P) → (y ≡ true → P) → (x || y) ≡ true → P
one-of true y P first second is = first refl
one-of false y P first second is = second is

later-goes : (d e : Decision) → is_next d ≡ true → is_next e ≡ true → is_next (later_of d e) ≡ true
later-goes (Next x) (Next y) first second = refl
later-goes (Next x) Stop first second = second
later-goes Stop e first second = first

earlier-first : (d e : Decision) → is_next d ≡ true → is_next (earlier_of d e) ≡ true
earlier-first (Next x) (Next y) first = refl
earlier-first (Next x) Stop first = refl
earlier-first Stop (Next y) first = refl
earlier-first Stop Stop first = first

earlier-second : (d e : Decision) → is_next e ≡ true → is_next (earlier_of d e) ≡ true
earlier-second (Next x) (Next y) second = refl
earlier-second (Next x) Stop second = refl
earlier-second Stop e second = second

-- a first part that goes on is never done
never-done : (a : History → Answer) (h : History) → GoesOn a → from_done a h ≡ None
never-done a [] goes = refl
never-done a (p ∷ h) goes =
    ap (λ o. done_from o p (is_next (a (p ∷ h)).decision)) (never-done a h goes)
    ∙ ap (done_from None p) (goes p h)

sequel-first : (a b : History → Answer) (p : ℕ × ℕ) (h : History) → GoesOn a →
    is_next (sequel_of (from_done a (p ∷ h)) (a (p ∷ h)) b).decision ≡ true
sequel-first a b p h goes =
    ap (λ o. is_next (sequel_of o (a (p ∷ h)) b).decision) (never-done a (p ∷ h) goes) ∙ goes p h

-- a second part goes on once it has begun, and the first one until then
sequel-second : (o : Option History) (p : ℕ × ℕ) (x : Answer) (b : History → Answer) (n : Bool) →
    is_next x.decision ≡ n → GoesOn b →
    is_next (sequel_of (done_from o p n) x b).decision ≡ true
sequel-second (Some g) p x b n is goes = goes p g
sequel-second None p x b true is goes = is
sequel-second None p x b false is goes = goes p []

-- the history from the last reset on has the last step
reset-goes : (a : History → Answer) (r : Bool) (p : ℕ × ℕ) (g : History) → GoesOn a →
    is_next (a (reset_if r p g)).decision ≡ true
reset-goes a true p g goes = goes p []
reset-goes a false p g goes = goes p g

leaf-goes : (l : Leaf) (p : ℕ × ℕ) (h : History) → never_stops (leaf l) ≡ true →
    is_next (answer_of (leaf l) (p ∷ h)).decision ≡ true
leaf-goes (plain Forever) p h never = refl
leaf-goes (plain Identity) p h never = refl
leaf-goes (plain Elapsed) p h never = refl
leaf-goes (counted Recurs k) p h never = cc
leaf-goes (counted Spaced k) p h never = refl
leaf-goes (counted Fixed k) p h never = refl
leaf-goes (counted Fibonacci k) p h never = refl
leaf-goes (counted Linear k) p h never = refl
leaf-goes (counted Windowed k) p h never = refl
leaf-goes (exponential b f) p h never = refl

goes-at : (s : Schedule) (p : ℕ × ℕ) (h : History) → never_stops s ≡ true →
    is_next (answer_of s (p ∷ h)).decision ≡ true
goes-at (leaf l) p h never = leaf-goes l p h never
goes-at (two both a b) p h never =
    later-goes (answer_of a (p ∷ h)).decision (answer_of b (p ∷ h)).decision
    (goes-at a p h (and-left (never_stops a) (never_stops b) never))
    (goes-at b p h (and-right (never_stops a) (never_stops b) never))
goes-at (two either a b) p h never =
    let d = (answer_of a (p ∷ h)).decision in
    let e = (answer_of b (p ∷ h)).decision in
    one-of (never_stops a) (never_stops b) (is_next (earlier_of d e) ≡ true)
    (λ first. earlier-first d e (goes-at a p h first))
    (λ second. earlier-second d e (goes-at b p h second)) never
goes-at (two and_then a b) p h never =
    let x = answer_of a (p ∷ h) in
    one-of (never_stops a) (never_stops b)
    (is_next (sequel_of (from_done (answer_of a) (p ∷ h)) x (answer_of b)).decision ≡ true)
    (λ first. sequel-first (answer_of a) (answer_of b) p h (λ q g. goes-at a q g first))
    (λ second. sequel-second (from_done (answer_of a) h) p x (answer_of b) (is_next x.decision) refl
    (λ q g. goes-at b q g second)) never
goes-at (over s (while_input t)) p h never = cc
goes-at (over s (while_output k t)) p h never = cc
goes-at (over s collect_all) p h never = goes-at s p h never
goes-at (over s (mapped f)) p h never = goes-at s p h never
goes-at (over s (reset_when k t)) p h never =
    let g = since_reset (answer_of s) k t h in
    reset-goes (answer_of s) (passes t (picked k (answer_of s (p ∷ g)).output)) p g
    (λ q f. goes-at s q f never)

pub goes-on : (s : Schedule) → never_stops s ≡ true → NeverGivesUp s
goes-on s never = λ p h. goes-at s p h never
