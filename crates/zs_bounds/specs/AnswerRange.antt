-- What a step may return: a range of outputs, and decisions. An operator's rule for ranges, given
-- those of its parts.
use Rattle.std.specs.Prelude.{ℕ, ◌-◌, ◌*◌, ◌^◌, min, Bool, true, false, Option, Some, None, nat_lt}
use Rattle.std.specs.Prelude.{nat_le, if◌then◌else◌}
use Rattle.zs_term.specs.Saturating.{saturated, max_moment}
use Rattle.zs_term.specs.Schedule.{Leaf, plain, counted, exponential, Modifier, while_input}
use Rattle.zs_term.specs.Schedule.{while_output, collect_all, mapped, reset_when}
use Rattle.zs_term.specs.declared.forms.Plain.TheVariants.{Forever, Identity, Elapsed}
use Rattle.zs_term.specs.declared.forms.Counted.TheVariants.{Recurs, Spaced, Fixed, Fibonacci}
use Rattle.zs_term.specs.declared.forms.Counted.TheVariants.{Linear, Windowed}
use Rattle.zs_term.specs.declared.term.Test.{Test}
use Rattle.zs_step.specs.Answer.{Answer, fibonacci_number}
use Rattle.zs_bounds.specs.declared.span.Span.{Span}
use Rattle.zs_bounds.specs.declared.decisions.Decisions.{Decisions}
use Rattle.zs_bounds.specs.Driven.{max_tick}
use Rattle.zs_bounds.specs.Span.{span}
use Rattle.zs_bounds.specs.DecisionRange.{decisions, IsDecisionIn, may_go_on, decision_hull}
use Rattle.zs_bounds.specs.DecisionRange.{test_decides, going_on, no_decision}
use Rattle.zs_bounds.specs.OutputRange.{OutputRange, nothing, numbers, pairs, sides, lists}
use Rattle.zs_bounds.specs.OutputRange.{IsOutputIn, output_hull, picked_span, may_pass, may_fail}
use Rattle.zs_bounds.specs.OutputRange.{applied_range}

-- a range of outputs, and decisions
pub record AnswerRange : Type 0 where
  pub output : OutputRange
  pub decision : Decisions

-- a range of results, by its two parts
abbrev pub range : OutputRange → Decisions → AnswerRange
range r d = record { output = r; decision = d }

-- a result at a moment is within a range
pub record IsAnswerIn (m : ℕ) (a : Answer) (r : AnswerRange) : Type 0 where
  pub output : IsOutputIn a.output r.output
  pub decision : IsDecisionIn m a.decision r.decision

-- the results of one or the other
abbrev pub result_hull : AnswerRange → AnswerRange → AnswerRange
result_hull a b = range (output_hull a.output b.output) (decision_hull a.decision b.decision)

-- no result
abbrev pub no_result : AnswerRange
no_result = range nothing no_decision

-- results, if a fact holds
abbrev pub results_if : Bool → AnswerRange → AnswerRange
results_if true r = r
results_if false r = no_result

-- ---- leaves: by the number of steps with this one, and the time since the first one

-- The longest wait that no moment of a clock cuts at the greatest moment.
abbrev pub uncut_wait : ℕ
uncut_wait = max_moment - max_tick

-- the waits for a delay: a moment that would be too great is cut
abbrev pub delays : Span → Option Span
delays s = Some (span (min s.low uncut_wait) s.high)

-- no wait
abbrev pub at_once : Option Span
at_once = Some (span 0 0)

-- always go on
abbrev pub always : Option Span → Decisions
always w = decisions false w

-- results whose output is their delay
abbrev pub waits : Span → AnswerRange
waits s = range (numbers s) (always (delays s))

-- the numbers of earlier steps
abbrev pub earlier_steps : Span → Span
earlier_steps n = span (n.low - 1) (n.high - 1)

-- The waits up to the end of a period: a whole period at the first step, and at least `some` or a
-- whole period at another step.
abbrev pub period_waits : ℕ → ℕ → Span → Option Span
period_waits p some n = Some (span (if nat_le n.high 1 then min p uncut_wait else min some p) p)

-- a function of each bound
abbrev pub span_of : (ℕ → ℕ) → Span → Span
span_of f n = span (f n.low) (f n.high)

-- The rules of the leaves.
abbrev pub leaf_range : Leaf → Span → Span → AnswerRange
leaf_range (plain Forever) n t = range (numbers (earlier_steps n)) (always at_once)
leaf_range (counted Recurs k) n t =
    range (numbers (earlier_steps n))
    (decisions (nat_le k (n.high - 1)) (if nat_lt (n.low - 1) k then at_once else None))
leaf_range (counted Spaced d) n t = range (numbers (earlier_steps n)) (always (delays (span d d)))
leaf_range (counted Fixed p) n t = range (numbers (earlier_steps n)) (always (period_waits p 0 n))
leaf_range (exponential b f) n t = waits (span_of (λ k. saturated (b * f ^ k)) (earlier_steps n))
leaf_range (counted Fibonacci o) n t = waits (span_of (λ k. saturated (o * fibonacci_number k)) n)
leaf_range (plain Identity) n t = range (numbers (span 0 max_moment)) (always at_once)
leaf_range (plain Elapsed) n t = range (numbers t) (always at_once)
leaf_range (counted Linear b) n t = waits (span_of (λ k. saturated (b * k)) n)
leaf_range (counted Windowed p) n t =
    range (numbers (earlier_steps n)) (always (period_waits p 1 n))

-- ---- operators

-- the results of `&&`, and of `||`, by how they join decisions
abbrev pub pair_range : (Decisions → Decisions → Decisions) → AnswerRange → AnswerRange
    → AnswerRange
pair_range f a b = range (pairs a.output b.output) (f a.decision b.decision)

-- the results of a first part that goes on
abbrev pub left_range : AnswerRange → AnswerRange
left_range a =
    results_if (may_go_on a.decision) (range (sides a.output nothing) (going_on a.decision))

-- the results of a second part
abbrev pub right_range : AnswerRange → AnswerRange
right_range b = range (sides nothing b.output) b.decision

-- the results under a test of a number of a span
abbrev pub test_range : Test → Option Span → AnswerRange → AnswerRange
test_range t s a = range a.output (test_decides (may_pass t s) (may_fail t s) a.decision)

-- any input
abbrev pub any_input : Option Span
any_input = Some (span 0 max_moment)

-- the results of a part, or those of its first step, if a test may pass
abbrev pub reset_range : Bool → Bool → AnswerRange → AnswerRange → AnswerRange
reset_range true true a first = result_hull a first
reset_range true false a first = first
reset_range false fails a first = a

-- The results of an operator over one schedule: by the number of items so far, the part's results,
-- and those of its first step.
abbrev pub modified_range : Modifier → Span → AnswerRange → AnswerRange → AnswerRange
modified_range (while_input t) n a first = test_range t any_input a
modified_range (while_output k t) n a first = test_range t (picked_span k a.output) a
modified_range collect_all n a first = range (lists n) a.decision
modified_range (mapped f) n a first = range (applied_range f a.output) a.decision
modified_range (reset_when k t) n a first =
    reset_range (may_pass t (picked_span k a.output)) (may_fail t (picked_span k a.output)) a first
