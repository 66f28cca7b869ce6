-- The sizes of lists after a history: no more than its steps. So 64 bits hold them, if they hold
-- the number of steps.
use Rattle.std.proofs.Common.{◌≡◌, ℕ, suc, ◌<◌, ◌≤◌, Bool, true, false, ◌&&◌, Option, Some, None}
use Rattle.std.proofs.Common.{[], ◌∷◌, length, refl, ap, ◌∙◌, subst, arith}
use Rattle.zs_term.specs.Output.{Output, Outputs, none, more, with_last, count, passes, picked}
use Rattle.zs_term.specs.Schedule.{Schedule, Pairing, Modifier, two, over, while_input}
use Rattle.zs_term.specs.Schedule.{while_output, collect_all, mapped, reset_when}
use Rattle.zs_term.specs.declared.term.Test.{Test}
use Rattle.zs_term.specs.declared.term.Pick.{Pick}
use Rattle.zs_step.specs.declared.decision.Decision.{Decision}
use Rattle.zs_step.specs.declared.decision.Decision.TheVariants.{Stop, Next}
use Rattle.zs_step.specs.History.{History}
use Rattle.zs_step.specs.Memory.{keeps_no_list}
use Rattle.zs_step.specs.Answer.{Answer, answer_of, is_next, done_from, from_done, collect_if}
use Rattle.zs_step.specs.Answer.{collected, reset_if, since_reset}
use Rattle.zs_c.specs.Shown.{IsCountable}
use Rattle.zs_c.specs.Steps.{size_after}

-- ---- shorter histories

-- the part of a history since the last reset
reset-shorter : (b : Bool) (p : ℕ × ℕ) (g : History) (n : ℕ) → length g ≤ n
    → length (reset_if b p g) ≤ suc n
reset-shorter true p g n le = omega arith
reset-shorter false p g n le = omega (arith, le)

pub since-shorter : (a : History → Answer) (k : Pick) (t : Test) (h : History)
    → length (since_reset a k t h) ≤ length h
since-shorter a k t [] = omega arith
since-shorter a k t (p ∷ h) =
    reset-shorter (passes t (picked k (a (p ∷ since_reset a k t h)).output)) p
    (since_reset a k t h) (length h) (since-shorter a k t h)

-- the part of a history from the first done step on
abbrev IsShort : Option History → ℕ → Type 0
IsShort None n = Unit {0}
IsShort (Some g) n = length g ≤ n

done-short : (o : Option History) (p : ℕ × ℕ) (b : Bool) (n : ℕ) → IsShort o n
    → IsShort (done_from o p b) (suc n)
done-short (Some g) p b n le = omega (arith, le)
done-short None p true n le = tt
done-short None p false n le = omega arith

all-short : (a : History → Answer) (h : History) → IsShort (from_done a h) (length h)
all-short a [] = tt
all-short a (p ∷ h) =
    done-short (from_done a h) p (is_next (a (p ∷ h)).decision) (length h) (all-short a h)

pub done-shorter : (a : History → Answer) (h g : History) → from_done a h ≡ Some g
    → length g ≤ length h
done-shorter a h g is = subst (λ o. IsShort o (length h)) is (all-short a h)

-- ---- histories that are counted

pub countable-less : (t : Schedule) (h g : History) → length g ≤ length h → IsCountable t h
    → IsCountable t g
countable-less t h g le all kept = omega (arith, le, all kept)

pub countable-none : (t : Schedule) → IsCountable t []
countable-none t kept = omega arith

and-left : (a b : Bool) → a ≡ false → (a && b) ≡ false
and-left true b is = cc
and-left false b is = refl

and-right : (a b : Bool) → b ≡ false → (a && b) ≡ false
and-right true b is = is
and-right false b is = refl

pub countable-first : (p : Pairing) (a b : Schedule) (h : History) → IsCountable (two p a b) h
    → IsCountable a h
countable-first p a b h all kept = all (and-left (keeps_no_list a) (keeps_no_list b) kept)

pub countable-second : (p : Pairing) (a b : Schedule) (h : History) → IsCountable (two p a b) h
    → IsCountable b h
countable-second p a b h all kept = all (and-right (keeps_no_list a) (keeps_no_list b) kept)

pub countable-part : (m : Modifier) (s : Schedule) (h : History) → IsCountable (over s m) h
    → IsCountable s h
countable-part (while_input t) s h all kept = all kept
countable-part (while_output k t) s h all kept = all kept
countable-part collect_all s h all kept = all refl
countable-part (mapped f) s h all kept = all kept
countable-part (reset_when k t) s h all kept = all kept

-- a schedule's part under `resetWhen`
pub countable-since : (k : Pick) (t : Test) (s : Schedule) (h : History)
    → IsCountable (over s (reset_when k t)) h → IsCountable s (since_reset (answer_of s) k t h)
countable-since k t s h all =
    countable-less s h (since_reset (answer_of s) k t h) (since-shorter (answer_of s) k t h)
    (countable-part (reset_when k t) s h all)

-- ---- sizes

count-last : (xs : Outputs) (x : Output) → count (with_last xs x) ≡ suc (count xs)
count-last none x = omega arith
count-last (more y ys) x = omega (arith, count-last ys x)

count-less : (b : Bool) (xs : Outputs) (x : Output) (n : ℕ) → count xs ≤ n
    → count (collect_if b xs x) ≤ suc n
count-less true xs x n le = omega (arith, le, count-last xs x)
count-less false xs x n le = omega (arith, le)

pub count-within : (a : History → Answer) (h : History) → count (collected a h) ≤ length h
count-within a [] = omega arith
count-within a (p ∷ h) =
    count-less (is_next (a (p ∷ h)).decision) (collected a h) (a (p ∷ h)).output (length h)
    (count-within a h)

-- the size of a list after a step
count-next : (d : Decision) (xs : Outputs) (x : Output) → count xs < 18446744073709551615
    → size_after (count xs) d ≡ count (collect_if (is_next d) xs x)
count-next Stop xs x small = refl
count-next (Next m) xs x small = omega (arith, small, count-last xs x)

pub count-turn : (s : Schedule) (h : History) (p : ℕ × ℕ) (d : Decision) (n : ℕ)
    → IsCountable (over s collect_all) h → n ≡ count (collected (answer_of s) h)
    → d ≡ (answer_of s (p ∷ h)).decision
    → size_after n d ≡ count (collected (answer_of s) (p ∷ h))
count-turn s h p d n all is decides =
    let few = count-within (answer_of s) h in
    let small : count (collected (answer_of s) h) < 18446744073709551615 =
    omega (arith, few, all refl)
    in
    ap (λ k. size_after k d) is ∙ ap (size_after (count (collected (answer_of s) h))) decides
    ∙ count-next (answer_of s (p ∷ h)).decision (collected (answer_of s) h)
    (answer_of s (p ∷ h)).output small
