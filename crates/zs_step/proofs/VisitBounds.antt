-- The visits of a step are at most the schedule's weight.
use Rattle.std.proofs.Common.{ℕ, ◌+◌, ◌*◌, ◌≤◌, Bool, true, false, Option, Some, None, [], ◌∷◌}
use Rattle.std.proofs.Common.{arith}
use Rattle.zs_term.specs.Output.{passes, picked}
use Rattle.zs_term.specs.Schedule.{Schedule, weight, times, leaf, two, over, Pairing, both, either}
use Rattle.zs_term.specs.Schedule.{and_then, Modifier, while_input, while_output, collect_all}
use Rattle.zs_term.specs.Schedule.{mapped, reset_when}
use Rattle.zs_term.specs.declared.term.Test.{Test}
use Rattle.zs_term.specs.declared.term.Pick.{Pick}
use Rattle.zs_step.specs.History.{History, earlier}
use Rattle.zs_step.specs.Answer.{Answer, answer_of, from_done, since_reset}
use Rattle.zs_step.specs.Visits.{visits, paired_visits, modified_visits, sequel_visits}
use Rattle.zs_step.specs.Visits.{reset_visits, reset_visits_if}

-- one schedule after another
sequel_visits-le : (o p : Option History) (n x y : ℕ) (v : History → ℕ) → n ≤ x →
    ((g : History) → v g ≤ y) → sequel_visits o p n v ≤ x + y
sequel_visits-le (Some before) (Some g) n x y v first second = let s = second g in omega arith
sequel_visits-le None (Some g) n x y v first second = let s = second g in omega arith
sequel_visits-le (Some before) None n x y v first second = omega arith
sequel_visits-le None None n x y v first second = omega arith

-- a part that is stepped once or twice
reset_visits_if-le : (b : Bool) (n m x : ℕ) → n ≤ x → m ≤ x → reset_visits_if b n m ≤ 2 * x
reset_visits_if-le true n m x first second = omega arith
reset_visits_if-le false n m x first second = omega arith

-- a part that may be reset
reset_visits-le : (a : History → Answer) (v : History → ℕ) (k : Pick) (t : Test) (h : History)
    (x : ℕ) → ((g : History) → v g ≤ x) → reset_visits a v k t h ≤ 2 * x
reset_visits-le a v k t [] x all = omega arith
reset_visits-le a v k t (p ∷ h) x all =
    reset_visits_if-le (passes t (picked k (a (p ∷ since_reset a k t h)).output))
    (v (p ∷ since_reset a k t h)) (v (p ∷ [])) x (all (p ∷ since_reset a k t h)) (all (p ∷ []))

-- two parts
paired_visits-le : (p : Pairing) (a : History → Answer) (v w : History → ℕ) (x y : ℕ) →
    ((h : History) → v h ≤ x) → ((h : History) → w h ≤ y) → (h : History) →
    paired_visits p a v w h ≤ x + y
paired_visits-le both a v w x y s t h = omega (arith, s h, t h)
paired_visits-le either a v w x y s t h = omega (arith, s h, t h)
paired_visits-le and_then a v w x y s t h =
    sequel_visits-le (from_done a (earlier h)) (from_done a h) (v h) x y w (s h) t

-- one part
modified_visits-le : (m : Modifier) (a : History → Answer) (v : History → ℕ) (x : ℕ) →
    ((h : History) → v h ≤ x) → (h : History) → modified_visits m a v h ≤ times m * x
modified_visits-le (while_input t) a v x s h = omega (arith, s h)
modified_visits-le (while_output k t) a v x s h = omega (arith, s h)
modified_visits-le collect_all a v x s h = omega (arith, s h)
modified_visits-le (mapped f) a v x s h = omega (arith, s h)
modified_visits-le (reset_when k t) a v x s h = reset_visits-le a v k t h x s

-- the visits of a step, by cases on the schedule
pub visits-le : (t : Schedule) (h : History) → visits t h ≤ weight t
visits-le (leaf l) h = omega arith
visits-le (two p a b) h =
    omega (
      arith,
      paired_visits-le p (answer_of a) (visits a) (visits b) (weight a) (weight b)
          (λ g. visits-le a g) (λ g. visits-le b g) h,
    )
visits-le (over s m) h =
    omega (arith, modified_visits-le m (answer_of s) (visits s) (weight s) (λ g. visits-le s g) h)
