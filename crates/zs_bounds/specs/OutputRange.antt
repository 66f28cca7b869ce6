-- What a step may return as its output: a range for each kind of output, and what tests and
-- functions make of it.
use Rattle.std.specs.Prelude.{ℕ, ◌+◌, ◌*◌, Bool, true, not, ◌&&◌, nat_lt, nat_le, nat_eq, Option}
use Rattle.std.specs.Prelude.{Some, None}
use Rattle.zs_term.specs.Saturating.{saturated}
use Rattle.zs_term.specs.Output.{Output, number, pair, left, right, listed, count}
use Rattle.zs_term.specs.declared.term.Test.{Test}
use Rattle.zs_term.specs.declared.term.Cmp.{Cmp}
use Rattle.zs_term.specs.declared.term.Cmp.TheVariants.{Lt, Le, Eq, Ne, Gt, Ge}
use Rattle.zs_term.specs.declared.term.Pick.{Pick}
use Rattle.zs_term.specs.declared.term.Pick.TheVariants.{Whole, First as PickFirst}
use Rattle.zs_term.specs.declared.term.Pick.TheVariants.{Second as PickSecond, Size as PickSize}
use Rattle.zs_term.specs.declared.term.Func.{Func}
use Rattle.zs_term.specs.declared.term.Func.TheVariants.{First, Second, Size, Merge, Const, Add}
use Rattle.zs_term.specs.declared.term.Func.TheVariants.{Mul}
use Rattle.zs_bounds.specs.declared.span.Span.{Span}
use Rattle.zs_bounds.specs.Span.{IsIn, span, hull}

-- Numbers, pairs, sides of a choice, lists by their number of items. `nothing` has no output.
-- `anything` has each.
pub data OutputRange : Type 0 where
  nothing : OutputRange
  numbers : Span → OutputRange
  pairs : OutputRange → OutputRange → OutputRange
  sides : OutputRange → OutputRange → OutputRange
  lists : Span → OutputRange
  anything : OutputRange

-- an output is within a range
abbrev pub IsOutputIn : Output → OutputRange → Type 0
IsOutputIn (number n) (numbers s) = IsIn n s
IsOutputIn (number n) anything = Unit {0}
IsOutputIn (number n) _ = ⊥
IsOutputIn (pair x y) (pairs a b) = IsOutputIn x a × IsOutputIn y b
IsOutputIn (pair x y) anything = Unit {0}
IsOutputIn (pair x y) _ = ⊥
IsOutputIn (left x) (sides a b) = IsOutputIn x a
IsOutputIn (left x) anything = Unit {0}
IsOutputIn (left x) _ = ⊥
IsOutputIn (right x) (sides a b) = IsOutputIn x b
IsOutputIn (right x) anything = Unit {0}
IsOutputIn (right x) _ = ⊥
IsOutputIn (listed xs) (lists s) = IsIn (count xs) s
IsOutputIn (listed xs) anything = Unit {0}
IsOutputIn (listed xs) _ = ⊥

-- a range around two; ranges of two kinds, which no schedule has, give `anything`
abbrev pub output_hull : OutputRange → OutputRange → OutputRange
output_hull nothing r = r
output_hull (numbers s) nothing = numbers s
output_hull (numbers s) (numbers t) = numbers (hull s t)
output_hull (numbers s) _ = anything
output_hull (pairs a b) nothing = pairs a b
output_hull (pairs a b) (pairs c d) = pairs (output_hull a c) (output_hull b d)
output_hull (pairs a b) _ = anything
output_hull (sides a b) nothing = sides a b
output_hull (sides a b) (sides c d) = sides (output_hull a c) (output_hull b d)
output_hull (sides a b) _ = anything
output_hull (lists s) nothing = lists s
output_hull (lists s) (lists t) = lists (hull s t)
output_hull (lists s) _ = anything
output_hull anything r = anything

-- the span of a range's numbers, if it has numbers alone
abbrev pub number_span : OutputRange → Option Span
number_span (numbers s) = Some s
number_span _ = None

-- the range of the first parts of pairs, as `first_in` reads an output
abbrev pub first_range_in : OutputRange → OutputRange
first_range_in (pairs a b) = a
first_range_in r = r

-- the range of the second parts
abbrev pub second_range_in : OutputRange → OutputRange
second_range_in (pairs a b) = b
second_range_in r = r

-- the span of the lengths of lists, if it has lists alone
abbrev pub size_span : OutputRange → Option Span
size_span (lists s) = Some s
size_span _ = None

-- the span of the numbers that a test reads, if they have one
abbrev pub picked_span : Pick → OutputRange → Option Span
picked_span Whole r = number_span r
picked_span PickFirst r = number_span (first_range_in r)
picked_span PickSecond r = number_span (second_range_in r)
picked_span PickSize r = size_span r

-- whether a comparison may hold of a number of a span
abbrev pub may_compare : Cmp → Span → ℕ → Bool
may_compare Lt s k = nat_lt s.low k
may_compare Le s k = nat_le s.low k
may_compare Eq s k = nat_le s.low k && nat_le k s.high
may_compare Ne s k = not (nat_eq s.low k && nat_eq s.high k)
may_compare Gt s k = nat_lt k s.high
may_compare Ge s k = nat_le k s.high

-- the comparison that holds if another one doesn't
abbrev pub opposite : Cmp → Cmp
opposite Lt = Ge
opposite Le = Gt
opposite Eq = Ne
opposite Ne = Eq
opposite Gt = Le
opposite Ge = Lt

-- whether a test may pass
abbrev pub may_pass : Test → Option Span → Bool
may_pass t None = true
may_pass t (Some s) = may_compare t.cmp s t.than

-- whether a test may fail
abbrev pub may_fail : Test → Option Span → Bool
may_fail t None = true
may_fail t (Some s) = may_compare (opposite t.cmp) s t.than

-- numbers, if they have a span
abbrev pub numbers_in : Option Span → OutputRange
numbers_in None = anything
numbers_in (Some s) = numbers s

-- the sums or products of a span's numbers with a number
abbrev pub each_bound : (ℕ → ℕ) → Option Span → Option Span
each_bound f None = None
each_bound f (Some s) = Some (span (f s.low) (f s.high))

-- the range of what is on either side
abbrev pub merge_range : OutputRange → OutputRange
merge_range (sides a b) = output_hull a b
merge_range r = r

-- the range of a function's results
abbrev pub applied_range : Func → OutputRange → OutputRange
applied_range First r = first_range_in r
applied_range Second r = second_range_in r
applied_range Size r = numbers_in (size_span r)
applied_range Merge r = merge_range r
applied_range (Const n) r = numbers (span n n)
applied_range (Add n) r = numbers_in (each_bound (λ x. saturated (x + n)) (number_span r))
applied_range (Mul n) r = numbers_in (each_bound (λ x. saturated (x * n)) (number_span r))
