-- When a range of states covers a history, as `Represents` says it of a state: what the next step
-- needs to know of the steps so far.
use Rattle.std.proofs.Common.{◌≡◌, ℕ, ◌+◌, ◌≤◌, Bool, true, false, if◌then◌else◌, Option, Some}
use Rattle.std.proofs.Common.{None, [], ◌∷◌, length, refl, sym, ap, subst, arith}
use Rattle.zs_term.specs.Saturating.{saturated, max_moment}
use Rattle.zs_term.specs.Output.{Output, Outputs, none, more, with_last, count, passes, picked}
use Rattle.zs_term.specs.Schedule.{Schedule, leaf, two, over, both, either, and_then, while_input}
use Rattle.zs_term.specs.Schedule.{while_output, collect_all, mapped, reset_when}
use Rattle.zs_term.specs.declared.term.Test.{Test}
use Rattle.zs_term.specs.declared.term.Pick.{Pick}
use Rattle.zs_step.specs.declared.decision.Decision.{Decision}
use Rattle.zs_step.specs.declared.decision.Decision.TheVariants.{Stop, Next}
use Rattle.zs_step.specs.History.{History, last_moment}
use Rattle.zs_step.specs.Answer.{Answer, answer_of, is_next, done_from, from_done, collect_if}
use Rattle.zs_step.specs.Answer.{collected, reset_if, since_reset}
use Rattle.zs_bounds.specs.declared.span.Span.{Span}
use Rattle.zs_bounds.specs.declared.decisions.Decisions.{Decisions}
use Rattle.zs_bounds.specs.Driven.{IsStep}
use Rattle.zs_bounds.specs.Span.{IsIn, hull, span}
use Rattle.zs_bounds.specs.DecisionRange.{IsDecisionIn, may_go_on}
use Rattle.zs_bounds.specs.StateRange.{StateRange, steps_in, time_in, first_in, second_in}
use Rattle.zs_bounds.specs.StateRange.{is_first_on, is_second_on, items_in, part_in, more_items}
use Rattle.zs_bounds.specs.StateRange.{begun, more_steps, more_time}
use Rattle.zs_bounds.proofs.Spans.{in-hull_left}
use Rattle.zs_bounds.proofs.Deciding.{next-may}
use Rattle.zs_bounds.proofs.LeafRanges.{Counts}

-- The first part is on and covers the history. Or the second is on, and covers it from the first's
-- end on.
abbrev pub TurnCovers : Bool → Bool → Option History → Type 0 → (History → Type 0) → Type 0
TurnCovers first_on second_on None first second = (first_on ≡ true) × first
TurnCovers first_on second_on (Some g) first second = (second_on ≡ true) × second g

-- a range of states covers a history
abbrev pub Covers : Schedule → StateRange → History → Type 0
Covers (leaf l) c h = Counts (steps_in c) (time_in c) h
Covers (two both a b) c h = Covers a (first_in c) h × Covers b (second_in c) h
Covers (two either a b) c h = Covers a (first_in c) h × Covers b (second_in c) h
Covers (two and_then a b) c h =
    TurnCovers (is_first_on c) (is_second_on c) (from_done (answer_of a) h)
    (Covers a (first_in c) h) (Covers b (second_in c))
Covers (over s (while_input t)) c h = Covers s c h
Covers (over s (while_output k t)) c h = Covers s c h
Covers (over s collect_all) c h =
    IsIn (count (collected (answer_of s) h)) (items_in c) × Covers s (part_in c) h
Covers (over s (mapped f)) c h = Covers s c h
Covers (over s (reset_when k t)) c h = Covers s c (since_reset (answer_of s) k t h)

-- a step that may come after a history, by the times after its last step
pub record Comes (d : Span) (h : History) (p : ℕ × ℕ) : Type 0 where
  pub step : IsStep p
  pub later : last_moment h + d.low ≤ p.0
  pub soon : p.0 ≤ last_moment h + d.high
  pub small : length (p ∷ h) ≤ max_moment

-- ---- counts of steps

-- the first step
pub counts-first : (p : ℕ × ℕ) → Counts (span 1 1) (span 0 0) (p ∷ [])
counts-first p = record {
  some = omega arith;
  steps = record { low = omega arith; high = omega arith };
  early = omega arith;
  late = omega arith;
}

-- the counts so far, with those of the first step
pub counts-keeps : (n t : Span) (h : History) → Counts n t h →
    Counts (hull n (span 1 1)) (hull t (span 0 0)) h
counts-keeps n t h c = record {
  some = c.some;
  steps = in-hull_left (length h) n (span 1 1) c.steps;
  early = omega (arith, c.early);
  late = omega (arith, c.late);
}

pub counts-begins : (n t : Span) (p : ℕ × ℕ) →
    Counts (hull n (span 1 1)) (hull t (span 0 0)) (p ∷ [])
counts-begins n t p = record {
  some = omega arith;
  steps = record { low = omega arith; high = omega arith };
  early = omega arith;
  late = omega arith;
}

-- one more step
pub counts-next : (n t d : Span) (h : History) (p : ℕ × ℕ) → Comes d h p → Counts n t h →
    Counts (more_steps n) (more_time d t) (p ∷ h)
counts-next n t d [] p comes c = absurd (omega (arith, c.some))
counts-next n t d (q ∷ h) p comes c = record {
  some = omega arith;
  steps = record {
    low = omega (arith, c.steps.low);
    high = omega (arith, c.steps.high, comes.small);
  };
  early = omega (arith, c.early, comes.later);
  late = omega (arith, c.late, comes.soon, comes.step.tick);
}

-- ---- lists

-- a list with one more item
count-with_last : (xs : Outputs) (x : Output) → count (with_last xs x) ≡ 1 + count xs
count-with_last none x = refl
count-with_last (more y ys) x = ap (λ n. 1 + n) (count-with_last ys x)

count-collect : (b : Bool) (xs : Outputs) (x : Output) → count (collect_if b xs x) ≤ 1 + count xs
count-collect true xs x = let e = count-with_last xs x in omega (arith, e)
count-collect false xs x = omega arith

-- there are no more items than steps
pub count-collected : (f : History → Answer) (h : History) → count (collected f h) ≤ length h
count-collected f [] = omega arith
count-collected f (p ∷ h) =
    let before = count-collected f h in
    let now = count-collect (is_next (f (p ∷ h)).decision) (collected f h) (f (p ∷ h)).output in
    omega (arith, before, now)

-- a choice with a known condition
if-true : (P : ℕ → Type 0) (b : Bool) (x y : ℕ) → b ≡ true → P x → P (if b then x else y)
if-true P true x y e h = h
if-true P false x y e h = cc

if-both : (P : ℕ → Type 0) (b : Bool) (x y : ℕ) → P x → P y → P (if b then x else y)
if-both P true x y g h = g
if-both P false x y g h = h

-- one more item at a step that goes on
pub more_items-in : (m : ℕ) (d : Decision) (a : Decisions) (xs : Outputs) (x : Output) (n : Span) →
    IsDecisionIn m d a → IsIn (count xs) n →
    count (collect_if (is_next d) xs x) ≤ max_moment →
    IsIn (count (collect_if (is_next d) xs x)) (more_items a n)
more_items-in m Stop a xs x n is h small = record {
  low = if-true (λ k. k ≤ count xs) a.stops n.low (saturated (n.low + 1)) is h.low;
  high = if-both (λ k. count xs ≤ k) (may_go_on a) (saturated (n.high + 1)) n.high
      (omega (arith, h.high, small)) h.high;
}
more_items-in m (Next y) a xs x n is h small =
    let e = count-with_last xs x in
    record {
      low = if-both (λ k. k ≤ count (with_last xs x)) a.stops n.low (saturated (n.low + 1))
          (omega (arith, e, h.low)) (omega (arith, e, h.low));
      high = if-true (λ k. count (with_last xs x) ≤ k) (may_go_on a) (saturated (n.high + 1)) n.high
          (next-may m (Next y) a is refl)
          (omega (arith, e, h.high, small));
    }

-- ---- parts of histories

-- the last moment of a part, if there is one
abbrev moment_in : Option History → ℕ
moment_in (Some g) = last_moment g
moment_in None = 0

-- the part from the first done step on ends with the last step
done_from-moment : (o : Option History) (p : ℕ × ℕ) (b : Bool) (g : History) →
    done_from o p b ≡ Some g → last_moment g ≡ p.0
done_from-moment (Some k) p b g e = sym (ap moment_in e)
done_from-moment None p true g e = cc
done_from-moment None p false g e = sym (ap moment_in e)

pub from_done-moment : (f : History → Answer) (h g : History) → from_done f h ≡ Some g →
    last_moment g ≡ last_moment h
from_done-moment f [] g e = cc
from_done-moment f (p ∷ h) g e =
    done_from-moment (from_done f h) p (is_next (f (p ∷ h)).decision) g e

-- a part has at most n steps, if there is one
abbrev PartWithin : ℕ → Option History → Type 0
PartWithin n (Some g) = length g ≤ n
PartWithin n None = Unit {0}

-- the part from the first done step on is no longer, if there is one
done_from-length : (o : Option History) (p : ℕ × ℕ) (b : Bool) (h g : History) →
    ((k : History) → o ≡ Some k → length k ≤ length h) →
    done_from o p b ≡ Some g → length g ≤ length (p ∷ h)
done_from-length (Some k) p b h g before e =
    let le = before k refl in
    subst (λ (o : Option History). PartWithin (length (p ∷ h)) o) e (omega (arith, le))
done_from-length None p true h g before e = cc
done_from-length None p false h g before e =
    subst (λ (o : Option History). PartWithin (length (p ∷ h)) o) e (omega arith)

pub from_done-length : (f : History → Answer) (h g : History) → from_done f h ≡ Some g →
    length g ≤ length h
from_done-length f [] g e = cc
from_done-length f (p ∷ h) g e =
    done_from-length (from_done f h) p (is_next (f (p ∷ h)).decision) h g
    (λ k before. from_done-length f h k before) e

reset_if-moment : (b : Bool) (p : ℕ × ℕ) (g : History) → last_moment (reset_if b p g) ≡ p.0
reset_if-moment true p g = refl
reset_if-moment false p g = refl

-- the part since the last reset ends with the last step
pub since_reset-moment : (f : History → Answer) (k : Pick) (t : Test) (h : History) →
    last_moment (since_reset f k t h) ≡ last_moment h
since_reset-moment f k t [] = refl
since_reset-moment f k t (p ∷ h) =
    reset_if-moment (passes t (picked k (f (p ∷ since_reset f k t h)).output)) p
    (since_reset f k t h)

reset_if-length : (b : Bool) (p : ℕ × ℕ) (g h : History) → length g ≤ length h →
    length (reset_if b p g) ≤ length (p ∷ h)
reset_if-length true p g h le = omega arith
reset_if-length false p g h le = omega (arith, le)

-- and is no longer
pub since_reset-length : (f : History → Answer) (k : Pick) (t : Test) (h : History) →
    length (since_reset f k t h) ≤ length h
since_reset-length f k t [] = omega arith
since_reset-length f k t (p ∷ h) =
    reset_if-length (passes t (picked k (f (p ∷ since_reset f k t h)).output)) p
    (since_reset f k t h) h (since_reset-length f k t h)

reset_if-alone : (b : Bool) (p : ℕ × ℕ) → reset_if b p [] ≡ p ∷ []
reset_if-alone true p = refl
reset_if-alone false p = refl

-- the part since the last reset of one step is that step
pub since_reset-first : (f : History → Answer) (k : Pick) (t : Test) (p : ℕ × ℕ) →
    since_reset f k t (p ∷ []) ≡ p ∷ []
since_reset-first f k t p = reset_if-alone (passes t (picked k (f (p ∷ [])).output)) p

-- what comes after a history comes after a part of it
pub comes-part : (d : Span) (h g : History) (p : ℕ × ℕ) → Comes d h p →
    last_moment g ≡ last_moment h → length g ≤ length h → Comes d g p
comes-part d h g p comes moment le = record {
  step = comes.step;
  later = omega (arith, comes.later, moment);
  soon = omega (arith, comes.soon, moment);
  small = omega (arith, comes.small, le);
}

-- ---- parts that begin

-- a part that was on stays covered
pub begun-keeps : (P : StateRange → Type 0) (b on : Bool) (w f c : StateRange) → on ≡ true → P w →
    P c → P (begun b on w f c)
begun-keeps P true true w f c e g h = g
begun-keeps P true false w f c e g h = cc
begun-keeps P false on w f c e g h = h

-- a part that may begin is covered at its first step
pub begun-begins : (P : StateRange → Type 0) (b on : Bool) (w f c : StateRange) → b ≡ true → P w →
    P f → P (begun b on w f c)
begun-begins P true true w f c e g h = g
begun-begins P true false w f c e g h = h
begun-begins P false on w f c e g h = cc

-- a state that is chosen
pub chosen : (P : StateRange → Type 0) (b : Bool) (x y : StateRange) → b ≡ true → P x →
    P (if b then x else y)
chosen P true x y e h = h
chosen P false x y e h = cc
