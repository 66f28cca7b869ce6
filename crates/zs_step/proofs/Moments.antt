-- No decision is before the moment of its step.
use Rattle.std.proofs.Common.{◌≡◌, ℕ, zero, suc, ◌+◌, ◌-◌, ◌*◌, ◌%◌, ◌^◌, ◌≤◌, Bool, true, false}
use Rattle.std.proofs.Common.{◌||◌, nat_lt, nat_eq, if◌then◌else◌, Option, Some, None, [], ◌∷◌}
use Rattle.std.proofs.Common.{length, refl, sym, ap, subst, arith}
use Rattle.zs_term.specs.Saturating.{saturated, max_moment}
use Rattle.zs_term.specs.Output.{passes, picked}
use Rattle.zs_term.specs.Schedule.{Schedule, leaf, two, over, Leaf, plain, counted, exponential}
use Rattle.zs_term.specs.Schedule.{Pairing, both, either, and_then, Modifier, while_input}
use Rattle.zs_term.specs.Schedule.{while_output, collect_all, mapped, reset_when}
use Rattle.zs_term.specs.declared.forms.Plain.TheVariants.{Forever, Identity, Elapsed}
use Rattle.zs_term.specs.declared.forms.Counted.TheVariants.{Recurs, Spaced, Fixed, Fibonacci}
use Rattle.zs_term.specs.declared.forms.Counted.TheVariants.{Linear, Windowed}
use Rattle.zs_term.specs.declared.term.Test.{Test}
use Rattle.zs_term.specs.declared.term.Pick.{Pick}
use Rattle.zs_step.specs.declared.decision.Decision.{Decision}
use Rattle.zs_step.specs.declared.decision.Decision.TheVariants.{Stop, Next}
use Rattle.zs_step.specs.History.{History, last_moment, last_input, first_moment, earlier}
use Rattle.zs_step.specs.Answer.{Answer, leaf_answer, paired, modified, answer_of, is_next, only_if}
use Rattle.zs_step.specs.Answer.{later_of, earlier_of, next_run, run_after, window_end}
use Rattle.zs_step.specs.Answer.{fibonacci_number, done_from, from_done, sequel_of, since_reset}
use Rattle.zs_step.specs.Answer.{reset_if}
use Rattle.zs_step.specs.Laws.{IsNotBefore}

-- a test
only_if-late : (m : ℕ) (b : Bool) (d : Decision) → IsNotBefore m d → IsNotBefore m (only_if b d)
only_if-late m true d late = late
only_if-late m false d late = tt

-- the later of two
later_of-late : (m : ℕ) (d e : Decision) → IsNotBefore m d → IsNotBefore m e →
    IsNotBefore m (later_of d e)
later_of-late m (Next x) (Next y) s t = omega arith
later_of-late m (Next x) Stop s t = tt
later_of-late m Stop e s t = tt

-- the earlier of two
earlier_of-late : (m : ℕ) (d e : Decision) → IsNotBefore m d → IsNotBefore m e →
    IsNotBefore m (earlier_of d e)
earlier_of-late m (Next x) (Next y) s t = omega arith
earlier_of-late m (Next x) Stop s t = s
earlier_of-late m Stop e s t = t

-- a delay that saturates
saturated-late : (m x : ℕ) → m ≤ max_moment → m ≤ saturated (m + x)
saturated-late m x le = omega arith

-- a moment or a later one
choice-late : (b : Bool) (m x : ℕ) → m ≤ x → m ≤ (if b then m else x)
choice-late true m x le = omega arith
choice-late false m x le = le

-- a disjunction with true
or-true : (b : Bool) → (b || true) ≡ true
or-true true = refl
or-true false = refl

-- what remains of a period after a moment isn't negative
rest-late : (m x n : ℕ) → m ≤ max_moment → m ≤ saturated (m + suc n - x % suc n)
rest-late m x n le = grind arith

-- the next run of a period after the first step
run_after-late : (p first run m : ℕ) → m ≤ max_moment → m ≤ run_after p first run m
run_after-late zero first run m le =
    subst (λ b. m ≤ (if b then m else saturated (m + 0 - (m - first) % 0)))
    (sym (or-true (nat_lt (run + 0) m))) (omega arith)
run_after-late (suc n) first run m le =
    choice-late (nat_lt (run + suc n) m || nat_eq (suc n) 0) m
    (saturated (m + suc n - (m - first) % suc n)) (rest-late m (m - first) n le)

-- the end of a window
window_end-late : (n first m : ℕ) → m ≤ max_moment → m ≤ window_end n first m
window_end-late zero first m le = omega arith
window_end-late (suc n) first m le =
    choice-late (nat_eq (suc n) 0) m (saturated (m + suc n - (m - first) % suc n))
    (rest-late m (m - first) n le)

-- the next run of a period
next_run-late : (p : ℕ) (h : History) → last_moment h ≤ max_moment → last_moment h ≤ next_run p h
next_run-late p [] le = omega arith
next_run-late p (q ∷ []) le = saturated-late q.0 p le
next_run-late p (q ∷ (r ∷ h)) le =
    run_after-late p (first_moment (r ∷ h)) (next_run p (r ∷ h)) q.0 le

-- the last moment of a part, if there is one
abbrev moment_in : ℕ → Option History → ℕ
moment_in d (Some g) = last_moment g
moment_in d None = d

-- the part from the first done step on ends with the last step
done_from-last : (o : Option History) (p : ℕ × ℕ) (b : Bool) (g : History) →
    done_from o p b ≡ Some g → last_moment g ≡ p.0
done_from-last (Some k) p b g e = sym (ap (moment_in 0) e)
done_from-last None p true g e = cc
done_from-last None p false g e = sym (ap (moment_in 0) e)

-- the same for the search through a history
from_done-last : (f : History → Answer) (h g : History) → from_done f h ≡ Some g →
    last_moment g ≡ last_moment h
from_done-last f [] g e = cc
from_done-last f (p ∷ h) g e = done_from-last (from_done f h) p (is_next (f (p ∷ h)).decision) g e

-- one schedule after another
sequel-late : (m : ℕ) (o : Option History) (a : Answer) (b : History → Answer) →
    ((g : History) → o ≡ Some g → last_moment g ≡ m) → IsNotBefore m a.decision →
    ((g : History) → last_moment g ≡ m → IsNotBefore m (b g).decision) →
    IsNotBefore m (sequel_of o a b).decision
sequel-late m None a b last first second = first
sequel-late m (Some g) a b last first second = second g (last g refl)

-- a reset doesn't change the last step
reset_if-last : (b : Bool) (p : ℕ × ℕ) (g : History) → last_moment (reset_if b p g) ≡ p.0
reset_if-last true p g = refl
reset_if-last false p g = refl

-- the part since the last reset ends with the last step
since_reset-moment : (a : History → Answer) (k : Pick) (t : Test) (h : History) →
    last_moment (since_reset a k t h) ≡ last_moment h
since_reset-moment a k t [] = refl
since_reset-moment a k t (p ∷ h) =
    reset_if-last (passes t (picked k (a (p ∷ since_reset a k t h)).output)) p (since_reset a k t h)

-- no decision of a schedule is before the moment of its step
abbrev IsLate : (History → Answer) → Type 0
IsLate a = (h : History) → last_moment h ≤ max_moment → IsNotBefore (last_moment h) (a h).decision

-- the same at a moment that is the last one
late-at : (a : History → Answer) → IsLate a → (m : ℕ) (g : History) → last_moment g ≡ m →
    m ≤ max_moment → IsNotBefore m (a g).decision
late-at a late m g e le =
    subst (λ n. IsNotBefore n (a g).decision) e (late g (subst (λ n. n ≤ max_moment) (sym e) le))

leaf-late : (l : Leaf) → IsLate (leaf_answer l)
leaf-late (plain Forever) h le = omega arith
leaf-late (counted Recurs k) h le =
    only_if-late (last_moment h) (nat_lt (length (earlier h)) k) (Next (last_moment h))
    (omega arith)
leaf-late (counted Spaced d) h le = saturated-late (last_moment h) d le
leaf-late (counted Fixed p) h le = next_run-late p h le
leaf-late (exponential b f) h le =
    saturated-late (last_moment h) (saturated (b * f ^ length (earlier h))) le
leaf-late (counted Fibonacci o) h le =
    saturated-late (last_moment h) (saturated (o * fibonacci_number (length h))) le
leaf-late (plain Identity) h le = omega arith
leaf-late (plain Elapsed) h le = omega arith
leaf-late (counted Linear n) h le = saturated-late (last_moment h) (saturated (n * length h)) le
leaf-late (counted Windowed n) h le = window_end-late n (first_moment h) (last_moment h) le

paired-late : (p : Pairing) (a b : History → Answer) → IsLate a → IsLate b → IsLate (paired p a b)
paired-late both a b s t h le =
    later_of-late (last_moment h) (a h).decision (b h).decision (s h le) (t h le)
paired-late either a b s t h le =
    earlier_of-late (last_moment h) (a h).decision (b h).decision (s h le) (t h le)
paired-late and_then a b s t h le =
    sequel-late (last_moment h) (from_done a h) (a h) b (λ g e. from_done-last a h g e) (s h le)
    (λ g e. late-at b t (last_moment h) g e le)

modified-late : (m : Modifier) (a : History → Answer) → IsLate a → IsLate (modified m a)
modified-late (while_input t) a s h le =
    only_if-late (last_moment h) (passes t (last_input h)) (a h).decision (s h le)
modified-late (while_output k t) a s h le =
    only_if-late (last_moment h) (passes t (picked k (a h).output)) (a h).decision (s h le)
modified-late collect_all a s h le = s h le
modified-late (mapped f) a s h le = s h le
modified-late (reset_when k t) a s h le =
    late-at a s (last_moment h) (since_reset a k t h) (since_reset-moment a k t h) le

-- the decision of a step
pub answer_of-late : (t : Schedule) (h : History) → last_moment h ≤ max_moment →
    IsNotBefore (last_moment h) (answer_of t h).decision
answer_of-late (leaf l) h le = leaf-late l h le
answer_of-late (two p a b) h le =
    paired-late p (answer_of a) (answer_of b) (λ g. answer_of-late a g)
    (λ g. answer_of-late b g) h le
answer_of-late (over s m) h le = modified-late m (answer_of s) (λ g. answer_of-late s g) h le

-- a number is below a limit exactly if it is after saturation
pub below-saturated : (n k : ℕ) → k ≤ max_moment → nat_lt n k ≡ nat_lt (saturated n) k
below-saturated n k le = grind arith
