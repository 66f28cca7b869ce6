-- What a schedule returns at the last step of a history: its output and its decision, by cases.
-- Each equation is the rule of the ZIO operator of that name. It uses no state: a part is evaluated
-- anew on every history that its rule names. docs/SEMANTICS.md has the rules in words, and
-- `proofs/Rows.antt` has worked examples. The laws in `src/laws.rt` state over whole histories what
-- is defined here step by step.
use Rattle.std.specs.Prelude.{ℕ, zero, suc, ◌+◌, ◌-◌, ◌*◌, ◌%◌, ◌^◌, min, max, Bool, true, false}
use Rattle.std.specs.Prelude.{◌||◌, nat_lt, nat_eq, if◌then◌else◌, Option, Some, None, [], ◌∷◌}
use Rattle.std.specs.Prelude.{length}
use Rattle.zs_term.specs.Saturating.{saturated}
use Rattle.zs_term.specs.Output.{Output, Outputs, number, pair, left, right, listed, none}
use Rattle.zs_term.specs.Output.{with_last, passes, picked, applied}
use Rattle.zs_term.specs.Schedule.{Schedule, leaf, two, over, Leaf, plain, counted, exponential}
use Rattle.zs_term.specs.Schedule.{Pairing, both, either, and_then, Modifier, while_input}
use Rattle.zs_term.specs.Schedule.{while_output, collect_all, mapped, reset_when}
use Rattle.zs_term.specs.declared.forms.Plain.TheVariants.{Forever, Identity, Elapsed}
use Rattle.zs_term.specs.declared.forms.Counted.TheVariants.{Recurs, Spaced, Fixed, Fibonacci}
use Rattle.zs_term.specs.declared.forms.Counted.TheVariants.{Linear, Windowed}
use Rattle.zs_term.specs.declared.term.Test.{Test}
use Rattle.zs_term.specs.declared.term.Pick.{Pick}
use Rattle.zs_step.specs.declared.decision.Decision.{Decision}
use Rattle.zs_step.specs.declared.decision.Decision.TheVariants.{Stop, Next}
use Rattle.zs_step.specs.History.{History, last_moment, last_input, first_moment, earlier}

-- an output and a decision
pub record Answer : Type 0 where
  pub output : Output
  pub decision : Decision

-- the result with this output and this decision
abbrev pub answer : Output → Decision → Answer
answer v d = record { output = v; decision = d }

-- whether a decision is to continue
abbrev pub is_next : Decision → Bool
is_next Stop = false
is_next (Next x) = true

-- the decision, or done if a test fails
abbrev pub only_if : Bool → Decision → Decision
only_if b d = (if b then d else Stop)

-- the later of two moments if both continue, else done
abbrev pub later_of : Decision → Decision → Decision
later_of (Next x) (Next y) = Next (max x y)
later_of (Next x) Stop = Stop
later_of Stop d = Stop

-- the earlier of two moments, or the one that there is
abbrev pub earlier_of : Decision → Decision → Decision
earlier_of (Next x) (Next y) = Next (min x y)
earlier_of (Next x) Stop = Next x
earlier_of Stop d = d

-- the n-th Fibonacci number: 0, 1, 1, 2, 3, ..
abbrev pub fibonacci_number : ℕ → ℕ
fibonacci_number zero = 0
fibonacci_number (suc zero) = 1
fibonacci_number (suc (suc n)) = fibonacci_number n + fibonacci_number (suc n)

-- The next run of a period p, at a step after the first: at once if it is late, so missed runs
-- don't pile up, else at the next boundary, counted from the first moment.
abbrev pub run_after : ℕ → ℕ → ℕ → ℕ → ℕ
run_after p first run now =
    if nat_lt (run + p) now || nat_eq p 0 then now else saturated (now + p - (now - first) % p)

-- the next run of a period, at any step
abbrev pub next_run : ℕ → History → ℕ
next_run p [] = 0
next_run p (q ∷ []) = saturated (q.0 + p)
next_run p (q ∷ (r ∷ h)) = run_after p (first_moment (r ∷ h)) (next_run p (r ∷ h)) q.0

-- the end of the window that contains a moment; a window of 0 ends at once
abbrev pub window_end : ℕ → ℕ → ℕ → ℕ
window_end n first now = if nat_eq n 0 then now else saturated (now + n - (now - first) % n)

-- a step that returns a delay and continues after it
abbrev pub waits : ℕ → History → Answer
waits x h = answer (number x) (Next (saturated (last_moment h + x)))

-- two schedules that are stepped together: a pair, and a decision of both
abbrev pub together : (Decision → Decision → Decision) → Answer → Answer → Answer
together f a b = answer (pair a.output b.output) (f a.decision b.decision)

-- extends the part that was found by a pair; without one, the part begins at a pair that stops
abbrev pub done_from : Option History → ℕ × ℕ → Bool → Option History
done_from (Some g) p again = Some (p ∷ g)
done_from None p true = None
done_from None p false = Some (p ∷ [])

-- the part of a history from the first done step on, if there is one
abbrev pub from_done : (History → Answer) → History → Option History
from_done a [] = None
from_done a (p ∷ h) = done_from (from_done a h) p (is_next (a (p ∷ h)).decision)

-- the first schedule's result, or the second one's on the part from the first's end on
abbrev pub sequel_of : Option History → Answer → (History → Answer) → Answer
sequel_of None a b = answer (left a.output) a.decision
sequel_of (Some g) a b = answer (right (b g).output) (b g).decision

-- the first schedule until it is done, and the second from that very step on
abbrev pub sequel : (History → Answer) → (History → Answer) → History → Answer
sequel a b h = sequel_of (from_done a h) (a h) b

-- appends the output if the step continues
abbrev pub collect_if : Bool → Outputs → Output → Outputs
collect_if true xs x = with_last xs x
collect_if false xs x = xs

-- the outputs, in order, at all steps at which a schedule continued
abbrev pub collected : (History → Answer) → History → Outputs
collected a [] = none
collected a (p ∷ h) = collect_if (is_next (a (p ∷ h)).decision) (collected a h) (a (p ∷ h)).output

-- the pair alone if it resets, else the part so far with the pair
abbrev pub reset_if : Bool → ℕ × ℕ → History → History
reset_if true p g = p ∷ []
reset_if false p g = p ∷ g

-- the history from the last reset on: a step resets if its output so far passes the test
abbrev pub since_reset : (History → Answer) → Pick → Test → History → History
since_reset a k t [] = []
since_reset a k t (p ∷ h) =
    reset_if (passes t (picked k (a (p ∷ since_reset a k t h)).output)) p (since_reset a k t h)

-- the rules of the leaves
abbrev pub leaf_answer : Leaf → History → Answer
leaf_answer (plain Forever) h =
    answer (number (saturated (length (earlier h)))) (Next (last_moment h))
leaf_answer (counted Recurs k) h = answer (number (saturated (length (earlier h))))
    (only_if (nat_lt (length (earlier h)) k) (Next (last_moment h)))
leaf_answer (counted Spaced d) h =
    answer (number (saturated (length (earlier h)))) (Next (saturated (last_moment h + d)))
leaf_answer (counted Fixed p) h =
    answer (number (saturated (length (earlier h)))) (Next (next_run p h))
leaf_answer (exponential b f) h = waits (saturated (b * f ^ length (earlier h))) h
leaf_answer (counted Fibonacci o) h = waits (saturated (o * fibonacci_number (length h))) h
leaf_answer (plain Identity) h = answer (number (last_input h)) (Next (last_moment h))
leaf_answer (plain Elapsed) h =
    answer (number (last_moment h - first_moment h)) (Next (last_moment h))
leaf_answer (counted Linear n) h = waits (saturated (n * length h)) h
leaf_answer (counted Windowed n) h =
    answer (number (saturated (length (earlier h))))
    (Next (window_end n (first_moment h) (last_moment h)))

-- the rules of the operators between two schedules, given their results on every history
abbrev pub paired : Pairing → (History → Answer) → (History → Answer) → History → Answer
paired both a b h = together later_of (a h) (b h)
paired either a b h = together earlier_of (a h) (b h)
paired and_then a b h = sequel a b h

-- the rules of the operators over one schedule, given its results on every history
abbrev pub modified : Modifier → (History → Answer) → History → Answer
modified (while_input t) a h =
    answer (a h).output (only_if (passes t (last_input h)) (a h).decision)
modified (while_output k t) a h =
    answer (a h).output (only_if (passes t (picked k (a h).output)) (a h).decision)
modified collect_all a h = answer (listed (collected a (earlier h))) (a h).decision
modified (mapped f) a h = answer (applied f (a h).output) (a h).decision
modified (reset_when k t) a h = a (since_reset a k t h)

-- the result of a schedule at the last step of a history that isn't empty
abbrev pub answer_of : Schedule → History → Answer
answer_of (leaf l) h = leaf_answer l h
answer_of (two p a b) h = paired p (answer_of a) (answer_of b) h
answer_of (over s m) h = modified m (answer_of s) h
