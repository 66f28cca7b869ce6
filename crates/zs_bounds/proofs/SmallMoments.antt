-- A decision names no moment over the greatest number.
use Rattle.std.proofs.Common.{◌≡◌, ℕ, ◌+◌, ◌-◌, ◌%◌, ◌≤◌, Bool, true, false, ◌||◌, nat_lt, nat_eq}
use Rattle.std.proofs.Common.{if◌then◌else◌, Option, Some, None, [], ◌∷◌, length, refl, sym, ap}
use Rattle.std.proofs.Common.{subst, arith}
use Rattle.zs_term.specs.Saturating.{saturated, max_moment}
use Rattle.zs_term.specs.Output.{passes, picked}
use Rattle.zs_term.specs.Schedule.{Schedule, leaf, two, over, Leaf, plain, counted, exponential}
use Rattle.zs_term.specs.Schedule.{Pairing, both, either, and_then, Modifier, while_input}
use Rattle.zs_term.specs.Schedule.{while_output, collect_all, mapped, reset_when}
use Rattle.zs_term.specs.declared.forms.Plain.TheVariants.{Forever, Identity, Elapsed}
use Rattle.zs_term.specs.declared.forms.Counted.TheVariants.{Recurs, Spaced, Fixed, Fibonacci}
use Rattle.zs_term.specs.declared.forms.Counted.TheVariants.{Linear, Windowed}
use Rattle.zs_term.specs.declared.term.Test.{Test}
use Rattle.zs_term.specs.declared.term.Pick.{Pick}
use Rattle.zs_step.specs.declared.decision.Decision.{Decision}
use Rattle.zs_step.specs.declared.decision.Decision.TheVariants.{Stop, Next}
use Rattle.zs_step.specs.History.{History, last_moment, last_input, first_moment, earlier}
use Rattle.zs_step.specs.Answer.{Answer, leaf_answer, paired, modified, answer_of, is_next, only_if}
use Rattle.zs_step.specs.Answer.{later_of, earlier_of, next_run, done_from, from_done, sequel_of}
use Rattle.zs_step.specs.Answer.{since_reset, reset_if}

-- the moment of a decision to go on fits
abbrev pub IsSmall : Decision → Type 0
IsSmall Stop = Unit {0}
IsSmall (Next x) = x ≤ max_moment

only_if-small : (b : Bool) (d : Decision) → IsSmall d → IsSmall (only_if b d)
only_if-small true d small = small
only_if-small false d small = tt

later-small : (d e : Decision) → IsSmall d → IsSmall e → IsSmall (later_of d e)
later-small (Next x) (Next y) s t = omega (arith, s, t)
later-small (Next x) Stop s t = tt
later-small Stop e s t = tt

earlier-small : (d e : Decision) → IsSmall d → IsSmall e → IsSmall (earlier_of d e)
earlier-small (Next x) (Next y) s t = omega (arith, s, t)
earlier-small (Next x) Stop s t = s
earlier-small Stop e s t = t

-- a moment, or one that is cut
choice-small : (b : Bool) (m x : ℕ) → m ≤ max_moment → (if b then m else saturated x) ≤ max_moment
choice-small true m x le = le
choice-small false m x le = omega arith

next_run-small : (p : ℕ) (h : History) → last_moment h ≤ max_moment → next_run p h ≤ max_moment
next_run-small p [] le = omega arith
next_run-small p (q ∷ []) le = omega arith
next_run-small p (q ∷ (r ∷ h)) le =
    choice-small (nat_lt (next_run p (r ∷ h) + p) q.0 || nat_eq p 0) q.0
    (q.0 + p - (q.0 - first_moment (r ∷ h)) % p) le

-- the last moment of a part, if there is one
abbrev moment_in : ℕ → Option History → ℕ
moment_in d (Some g) = last_moment g
moment_in d None = d

done_from-last : (o : Option History) (p : ℕ × ℕ) (b : Bool) (g : History) →
    done_from o p b ≡ Some g → last_moment g ≡ p.0
done_from-last (Some k) p b g e = sym (ap (moment_in 0) e)
done_from-last None p true g e = cc
done_from-last None p false g e = sym (ap (moment_in 0) e)

from_done-last : (f : History → Answer) (h g : History) → from_done f h ≡ Some g →
    last_moment g ≡ last_moment h
from_done-last f [] g e = cc
from_done-last f (p ∷ h) g e = done_from-last (from_done f h) p (is_next (f (p ∷ h)).decision) g e

reset_if-last : (b : Bool) (p : ℕ × ℕ) (g : History) → last_moment (reset_if b p g) ≡ p.0
reset_if-last true p g = refl
reset_if-last false p g = refl

since_reset-moment : (a : History → Answer) (k : Pick) (t : Test) (h : History) →
    last_moment (since_reset a k t h) ≡ last_moment h
since_reset-moment a k t [] = refl
since_reset-moment a k t (p ∷ h) =
    reset_if-last (passes t (picked k (a (p ∷ since_reset a k t h)).output)) p (since_reset a k t h)

-- no decision of a schedule is for a greater moment
abbrev AllSmall : (History → Answer) → Type 0
AllSmall a = (h : History) → last_moment h ≤ max_moment → IsSmall (a h).decision

sequel-small : (m : ℕ) (o : Option History) (a : Answer) (b : History → Answer) →
    ((g : History) → o ≡ Some g → last_moment g ≡ m) → m ≤ max_moment → IsSmall a.decision →
    AllSmall b →
    IsSmall (sequel_of o a b).decision
sequel-small m None a b last le first second = first
sequel-small m (Some g) a b last le first second =
    second g (subst (λ n. n ≤ max_moment) (sym (last g refl)) le)

leaf-small : (l : Leaf) → AllSmall (leaf_answer l)
leaf-small (plain Forever) h le = le
leaf-small (counted Recurs k) h le =
    only_if-small (nat_lt (length (earlier h)) k) (Next (last_moment h)) le
leaf-small (counted Spaced d) h le = omega arith
leaf-small (counted Fixed p) h le = next_run-small p h le
leaf-small (exponential b f) h le = omega arith
leaf-small (counted Fibonacci o) h le = omega arith
leaf-small (plain Identity) h le = le
leaf-small (plain Elapsed) h le = le
leaf-small (counted Linear n) h le = omega arith
leaf-small (counted Windowed n) h le =
    choice-small (nat_eq n 0) (last_moment h)
    (last_moment h + n - (last_moment h - first_moment h) % n) le

paired-small : (p : Pairing) (a b : History → Answer) → AllSmall a → AllSmall b →
    AllSmall (paired p a b)
paired-small both a b s t h le = later-small (a h).decision (b h).decision (s h le) (t h le)
paired-small either a b s t h le = earlier-small (a h).decision (b h).decision (s h le) (t h le)
paired-small and_then a b s t h le =
    sequel-small (last_moment h) (from_done a h) (a h) b (λ g e. from_done-last a h g e) le
    (s h le) t

modified-small : (m : Modifier) (a : History → Answer) → AllSmall a → AllSmall (modified m a)
modified-small (while_input t) a s h le =
    only_if-small (passes t (last_input h)) (a h).decision (s h le)
modified-small (while_output k t) a s h le =
    only_if-small (passes t (picked k (a h).output)) (a h).decision (s h le)
modified-small collect_all a s h le = s h le
modified-small (mapped f) a s h le = s h le
modified-small (reset_when k t) a s h le =
    s (since_reset a k t h) (subst (λ n. n ≤ max_moment) (sym (since_reset-moment a k t h)) le)

pub answer_of-small : (t : Schedule) (h : History) → last_moment h ≤ max_moment →
    IsSmall (answer_of t h).decision
answer_of-small (leaf l) h le = leaf-small l h le
answer_of-small (two p a b) h le =
    paired-small p (answer_of a) (answer_of b) (λ g. answer_of-small a g)
    (λ g. answer_of-small b g) h le
answer_of-small (over s m) h le = modified-small m (answer_of s) (λ g. answer_of-small s g) h le
