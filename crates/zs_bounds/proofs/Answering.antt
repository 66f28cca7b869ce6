-- The results of operators are within the ranges that their rules for ranges give.
use Rattle.std.proofs.Common.{◌≡◌, ℕ, ◌≤◌, Bool, true, false, Option, arith}
use Rattle.zs_term.specs.Saturating.{max_moment}
use Rattle.zs_term.specs.Output.{left, right, passes}
use Rattle.zs_term.specs.declared.term.Test.{Test}
use Rattle.zs_step.specs.Answer.{Answer, answer, is_next, only_if, later_of, earlier_of, together}
use Rattle.zs_bounds.specs.declared.span.Span.{Span}
use Rattle.zs_bounds.specs.DecisionRange.{both_decide, either_decides, may_go_on, going_on}
use Rattle.zs_bounds.specs.OutputRange.{may_pass, may_fail, nothing, sides}
use Rattle.zs_bounds.specs.AnswerRange.{AnswerRange, range, IsAnswerIn, result_hull, results_if}
use Rattle.zs_bounds.specs.AnswerRange.{pair_range, left_range, right_range, test_range, any_input}
use Rattle.zs_bounds.specs.AnswerRange.{reset_range}
use Rattle.zs_bounds.proofs.Spans.{IsNumberIn, test-may_pass, test-may_fail}
use Rattle.zs_bounds.proofs.Deciding.{decision-left, decision-right, both-in, either-in, test-in}
use Rattle.zs_bounds.proofs.Deciding.{going_on-in, next-may}
use Rattle.zs_bounds.proofs.OutputHulls.{output-left, output-right}

pub answer-left : (m : ℕ) (a : Answer) (r q : AnswerRange) → IsAnswerIn m a r →
    IsAnswerIn m a (result_hull r q)
answer-left m a r q h = record {
  output = output-left a.output r.output q.output h.output;
  decision = decision-left m a.decision r.decision q.decision h.decision;
}

pub answer-right : (m : ℕ) (a : Answer) (r q : AnswerRange) → IsAnswerIn m a q →
    IsAnswerIn m a (result_hull r q)
answer-right m a r q h = record {
  output = output-right a.output r.output q.output h.output;
  decision = decision-right m a.decision r.decision q.decision h.decision;
}

-- results under a fact that holds
pub results_if-in : (m : ℕ) (b : Bool) (a : Answer) (r : AnswerRange) → b ≡ true →
    IsAnswerIn m a r → IsAnswerIn m a (results_if b r)
results_if-in m true a r e h = h
results_if-in m false a r e h = cc

-- `&&`
pub pair_both-in : (m : ℕ) (a b : Answer) (r q : AnswerRange) → IsAnswerIn m a r →
    IsAnswerIn m b q →
    IsAnswerIn m (together later_of a b) (pair_range both_decide r q)
pair_both-in m a b r q g h = record {
  output = (g.output, h.output);
  decision = both-in m a.decision b.decision r.decision q.decision g.decision h.decision;
}

-- `||`
pub pair_either-in : (m : ℕ) (a b : Answer) (r q : AnswerRange) → IsAnswerIn m a r →
    IsAnswerIn m b q →
    IsAnswerIn m (together earlier_of a b) (pair_range either_decides r q)
pair_either-in m a b r q g h = record {
  output = (g.output, h.output);
  decision = either-in m a.decision b.decision r.decision q.decision g.decision h.decision;
}

-- a first part that goes on
pub left_range-in : (m : ℕ) (a : Answer) (r : AnswerRange) → is_next a.decision ≡ true →
    IsAnswerIn m a r →
    IsAnswerIn m (answer (left a.output) a.decision) (left_range r)
left_range-in m a r next h =
    results_if-in m (may_go_on r.decision) (answer (left a.output) a.decision)
    (range (sides r.output nothing) (going_on r.decision))
    (next-may m a.decision r.decision h.decision next)
    (record {
      output = h.output;
      decision = going_on-in m a.decision r.decision h.decision next;
    })

-- a second part
pub right_range-in : (m : ℕ) (a : Answer) (r : AnswerRange) → IsAnswerIn m a r →
    IsAnswerIn m (answer (right a.output) a.decision) (right_range r)
right_range-in m a r h = record {
  output = h.output;
  decision = h.decision;
}

-- a test of a number
pub test_range-in : (m n : ℕ) (t : Test) (o : Option Span) (a : Answer) (r : AnswerRange) →
    IsNumberIn n o → IsAnswerIn m a r →
    IsAnswerIn m (answer a.output (only_if (passes t n) a.decision)) (test_range t o r)
test_range-in m n t o a r is h = record {
  output = h.output;
  decision = test-in m (passes t n) (may_pass t o) (may_fail t o) a.decision r.decision
      (test-may_pass t n o is) (test-may_fail t n o is) h.decision;
}

-- any input
pub input-in : (i : ℕ) → i ≤ max_moment → IsNumberIn i any_input
input-in i le = record {
  low = omega arith;
  high = le;
}

-- a step that resets
pub reset-first : (m : ℕ) (pass fail : Bool) (a : Answer) (r first : AnswerRange) → pass ≡ true →
    IsAnswerIn m a first →
    IsAnswerIn m a (reset_range pass fail r first)
reset-first m true true a r first e h = answer-right m a r first h
reset-first m true false a r first e h = h
reset-first m false fail a r first e h = cc

-- a step that doesn't
pub reset-goes_on : (m : ℕ) (pass fail : Bool) (a : Answer) (r first : AnswerRange) → fail ≡ true →
    IsAnswerIn m a r →
    IsAnswerIn m a (reset_range pass fail r first)
reset-goes_on m true true a r first e h = answer-left m a r first h
reset-goes_on m true false a r first e h = cc
reset-goes_on m false fail a r first e h = h
