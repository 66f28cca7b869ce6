-- An output within one of two ranges is within the range around both.
use Rattle.std.proofs.Common.{ℕ}
use Rattle.zs_term.specs.Output.{Output, number, pair, left, right, listed, count}
use Rattle.zs_bounds.specs.declared.span.Span.{Span}
use Rattle.zs_bounds.specs.Span.{IsIn, hull}
use Rattle.zs_bounds.specs.OutputRange.{OutputRange, nothing, numbers, pairs, sides, lists}
use Rattle.zs_bounds.specs.OutputRange.{anything}
use Rattle.zs_bounds.specs.OutputRange.{IsOutputIn, output_hull}
use Rattle.zs_bounds.proofs.Spans.{in-hull_left, in-hull_right}

-- every output is within `anything`
pub in-anything : (v : Output) → IsOutputIn v anything
in-anything (number n) = tt
in-anything (pair x y) = tt
in-anything (left x) = tt
in-anything (right x) = tt
in-anything (listed xs) = tt

-- and none within `nothing`
pub in-nothing : (v : Output) → IsOutputIn v nothing → ⊥
in-nothing (number n) h = h
in-nothing (pair x y) h = h
in-nothing (left x) h = h
in-nothing (right x) h = h
in-nothing (listed xs) h = h

-- ---- from a range to a wider one of the same kind

numbers-to : (v : Output) (s t : Span) → ((n : ℕ) → IsIn n s → IsIn n t) →
    IsOutputIn v (numbers s) → IsOutputIn v (numbers t)
numbers-to (number n) s t wider h = wider n h
numbers-to (pair x y) s t wider h = h
numbers-to (left x) s t wider h = h
numbers-to (right x) s t wider h = h
numbers-to (listed xs) s t wider h = h

pairs-to : (v : Output) (a b c d : OutputRange) →
    ((x : Output) → IsOutputIn x a → IsOutputIn x c) →
    ((x : Output) → IsOutputIn x b → IsOutputIn x d) →
    IsOutputIn v (pairs a b) → IsOutputIn v (pairs c d)
pairs-to (number n) a b c d first second h = h
pairs-to (pair x y) a b c d first second h = (first x h.0, second y h.1)
pairs-to (left x) a b c d first second h = h
pairs-to (right x) a b c d first second h = h
pairs-to (listed xs) a b c d first second h = h

sides-to : (v : Output) (a b c d : OutputRange) →
    ((x : Output) → IsOutputIn x a → IsOutputIn x c) →
    ((x : Output) → IsOutputIn x b → IsOutputIn x d) →
    IsOutputIn v (sides a b) → IsOutputIn v (sides c d)
sides-to (number n) a b c d first second h = h
sides-to (pair x y) a b c d first second h = h
sides-to (left x) a b c d first second h = first x h
sides-to (right x) a b c d first second h = second x h
sides-to (listed xs) a b c d first second h = h

lists-to : (v : Output) (s t : Span) → ((n : ℕ) → IsIn n s → IsIn n t) →
    IsOutputIn v (lists s) → IsOutputIn v (lists t)
lists-to (number n) s t wider h = h
lists-to (pair x y) s t wider h = h
lists-to (left x) s t wider h = h
lists-to (right x) s t wider h = h
lists-to (listed xs) s t wider h = wider (count xs) h

-- ---- ranges around two

pub output-left : (v : Output) (a b : OutputRange) → IsOutputIn v a →
    IsOutputIn v (output_hull a b)
output-left v nothing r h = absurd (in-nothing v h)
output-left v (numbers s) nothing h = h
output-left v (numbers s) (numbers t) h = numbers-to v s (hull s t) (λ n. in-hull_left n s t) h
output-left v (numbers s) (pairs c d) h = in-anything v
output-left v (numbers s) (sides c d) h = in-anything v
output-left v (numbers s) (lists t) h = in-anything v
output-left v (numbers s) anything h = in-anything v
output-left v (pairs a b) nothing h = h
output-left v (pairs a b) (numbers t) h = in-anything v
output-left v (pairs a b) (pairs c d) h =
    pairs-to v a b (output_hull a c) (output_hull b d) (λ x. output-left x a c)
    (λ x. output-left x b d) h
output-left v (pairs a b) (sides c d) h = in-anything v
output-left v (pairs a b) (lists t) h = in-anything v
output-left v (pairs a b) anything h = in-anything v
output-left v (sides a b) nothing h = h
output-left v (sides a b) (numbers t) h = in-anything v
output-left v (sides a b) (pairs c d) h = in-anything v
output-left v (sides a b) (sides c d) h =
    sides-to v a b (output_hull a c) (output_hull b d) (λ x. output-left x a c)
    (λ x. output-left x b d) h
output-left v (sides a b) (lists t) h = in-anything v
output-left v (sides a b) anything h = in-anything v
output-left v (lists s) nothing h = h
output-left v (lists s) (numbers t) h = in-anything v
output-left v (lists s) (pairs c d) h = in-anything v
output-left v (lists s) (sides c d) h = in-anything v
output-left v (lists s) (lists t) h = lists-to v s (hull s t) (λ n. in-hull_left n s t) h
output-left v (lists s) anything h = in-anything v
output-left v anything r h = in-anything v

pub output-right : (v : Output) (a b : OutputRange) → IsOutputIn v b →
    IsOutputIn v (output_hull a b)
output-right v nothing r h = h
output-right v (numbers s) nothing h = absurd (in-nothing v h)
output-right v (numbers s) (numbers t) h = numbers-to v t (hull s t) (λ n. in-hull_right n s t) h
output-right v (numbers s) (pairs c d) h = in-anything v
output-right v (numbers s) (sides c d) h = in-anything v
output-right v (numbers s) (lists t) h = in-anything v
output-right v (numbers s) anything h = in-anything v
output-right v (pairs a b) nothing h = absurd (in-nothing v h)
output-right v (pairs a b) (numbers t) h = in-anything v
output-right v (pairs a b) (pairs c d) h =
    pairs-to v c d (output_hull a c) (output_hull b d) (λ x. output-right x a c)
    (λ x. output-right x b d) h
output-right v (pairs a b) (sides c d) h = in-anything v
output-right v (pairs a b) (lists t) h = in-anything v
output-right v (pairs a b) anything h = in-anything v
output-right v (sides a b) nothing h = absurd (in-nothing v h)
output-right v (sides a b) (numbers t) h = in-anything v
output-right v (sides a b) (pairs c d) h = in-anything v
output-right v (sides a b) (sides c d) h =
    sides-to v c d (output_hull a c) (output_hull b d) (λ x. output-right x a c)
    (λ x. output-right x b d) h
output-right v (sides a b) (lists t) h = in-anything v
output-right v (sides a b) anything h = in-anything v
output-right v (lists s) nothing h = absurd (in-nothing v h)
output-right v (lists s) (numbers t) h = in-anything v
output-right v (lists s) (pairs c d) h = in-anything v
output-right v (lists s) (sides c d) h = in-anything v
output-right v (lists s) (lists t) h = lists-to v t (hull s t) (λ n. in-hull_right n s t) h
output-right v (lists s) anything h = in-anything v
output-right v anything r h = in-anything v
