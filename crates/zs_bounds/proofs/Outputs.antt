-- Ranges of outputs, and what tests and functions make of them.
use Rattle.std.proofs.Common.{ℕ, ◌+◌, ◌*◌, ◌≤◌, Option, Some, None, arith}
use Rattle.std.proofs.Math.Nat.{mul-le-mul_right}
use Rattle.zs_term.specs.Saturating.{saturated}
use Rattle.zs_term.specs.Output.{Output, Outputs, number, pair, left, right, listed, count}
use Rattle.zs_term.specs.Output.{number_in}
use Rattle.zs_term.specs.Output.{first_in, second_in, size_in, merge_in, picked, applied}
use Rattle.zs_term.specs.declared.term.Pick.{Pick}
use Rattle.zs_term.specs.declared.term.Pick.TheVariants.{Whole, First as PickFirst}
use Rattle.zs_term.specs.declared.term.Pick.TheVariants.{Second as PickSecond, Size as PickSize}
use Rattle.zs_term.specs.declared.term.Func.{Func}
use Rattle.zs_term.specs.declared.term.Func.TheVariants.{First, Second, Size, Merge, Const, Add}
use Rattle.zs_term.specs.declared.term.Func.TheVariants.{Mul}
use Rattle.zs_bounds.specs.declared.span.Span.{Span}
use Rattle.zs_bounds.specs.Span.{IsIn}
use Rattle.zs_bounds.specs.OutputRange.{OutputRange, nothing, numbers, pairs, sides, lists}
use Rattle.zs_bounds.specs.OutputRange.{anything, IsOutputIn, number_span, first_range_in}
use Rattle.zs_bounds.specs.OutputRange.{second_range_in, size_span, picked_span, numbers_in}
use Rattle.zs_bounds.specs.OutputRange.{each_bound, merge_range, applied_range}
use Rattle.zs_bounds.proofs.Spans.{IsNumberIn, in-itself}
use Rattle.zs_bounds.proofs.OutputHulls.{in-anything, in-nothing, output-left, output-right}

-- ---- the kinds of outputs

-- what holds of each output within a range, by their kinds
in-range : (P : Output → OutputRange → Type 0) → ((v : Output) → P v anything) →
    ((n : ℕ) (s : Span) → IsIn n s → P (number n) (numbers s)) →
    ((x y : Output) (a b : OutputRange) → IsOutputIn x a → IsOutputIn y b →
    P (pair x y) (pairs a b)) →
    ((x : Output) (a b : OutputRange) → IsOutputIn x a → P (left x) (sides a b)) →
    ((x : Output) (a b : OutputRange) → IsOutputIn x b → P (right x) (sides a b)) →
    ((xs : Outputs) (s : Span) → IsIn (count xs) s → P (listed xs) (lists s)) →
    (v : Output) (r : OutputRange) → IsOutputIn v r → P v r
in-range P any num two one other many v nothing h = absurd (in-nothing v h)
in-range P any num two one other many v anything h = any v
in-range P any num two one other many (number n) (numbers s) h = num n s h
in-range P any num two one other many (number n) (pairs a b) h = absurd h
in-range P any num two one other many (number n) (sides a b) h = absurd h
in-range P any num two one other many (number n) (lists s) h = absurd h
in-range P any num two one other many (pair x y) (numbers s) h = absurd h
in-range P any num two one other many (pair x y) (pairs a b) h = two x y a b h.0 h.1
in-range P any num two one other many (pair x y) (sides a b) h = absurd h
in-range P any num two one other many (pair x y) (lists s) h = absurd h
in-range P any num two one other many (left x) (numbers s) h = absurd h
in-range P any num two one other many (left x) (pairs a b) h = absurd h
in-range P any num two one other many (left x) (sides a b) h = one x a b h
in-range P any num two one other many (left x) (lists s) h = absurd h
in-range P any num two one other many (right x) (numbers s) h = absurd h
in-range P any num two one other many (right x) (pairs a b) h = absurd h
in-range P any num two one other many (right x) (sides a b) h = other x a b h
in-range P any num two one other many (right x) (lists s) h = absurd h
in-range P any num two one other many (listed xs) (numbers s) h = absurd h
in-range P any num two one other many (listed xs) (pairs a b) h = absurd h
in-range P any num two one other many (listed xs) (sides a b) h = absurd h
in-range P any num two one other many (listed xs) (lists s) h = many xs s h

-- ---- what a test reads

number_span-in : (v : Output) (r : OutputRange) → IsOutputIn v r →
    IsNumberIn (number_in v) (number_span r)
number_span-in = in-range (λ v r. IsNumberIn (number_in v) (number_span r)) (λ v. tt)
    (λ n s h. h) (λ x y a b h g. tt) (λ x a b h. tt) (λ x a b h. tt) (λ xs s h. tt)

size_span-in : (v : Output) (r : OutputRange) → IsOutputIn v r →
    IsNumberIn (size_in v) (size_span r)
size_span-in = in-range (λ v r. IsNumberIn (size_in v) (size_span r)) (λ v. tt)
    (λ n s h. tt) (λ x y a b h g. tt) (λ x a b h. tt) (λ x a b h. tt) (λ xs s h. h)

first_range-in : (v : Output) (r : OutputRange) → IsOutputIn v r →
    IsOutputIn (first_in v) (first_range_in r)
first_range-in = in-range (λ v r. IsOutputIn (first_in v) (first_range_in r))
    (λ v. in-anything (first_in v)) (λ n s h. h) (λ x y a b h g. h)
    (λ x a b h. h) (λ x a b h. h) (λ xs s h. h)

second_range-in : (v : Output) (r : OutputRange) → IsOutputIn v r →
    IsOutputIn (second_in v) (second_range_in r)
second_range-in = in-range (λ v r. IsOutputIn (second_in v) (second_range_in r))
    (λ v. in-anything (second_in v)) (λ n s h. h) (λ x y a b h g. g)
    (λ x a b h. h) (λ x a b h. h) (λ xs s h. h)

merge_range-in : (v : Output) (r : OutputRange) → IsOutputIn v r →
    IsOutputIn (merge_in v) (merge_range r)
merge_range-in = in-range (λ v r. IsOutputIn (merge_in v) (merge_range r))
    (λ v. in-anything (merge_in v)) (λ n s h. h) (λ x y a b h g. (h, g))
    (λ x a b h. output-left x a b h) (λ x a b h. output-right x a b h) (λ xs s h. h)

-- the number that a test reads
pub picked-in : (k : Pick) (v : Output) (r : OutputRange) → IsOutputIn v r →
    IsNumberIn (picked k v) (picked_span k r)
picked-in Whole v r h = number_span-in v r h
picked-in PickFirst v r h = number_span-in (first_in v) (first_range_in r) (first_range-in v r h)
picked-in PickSecond v r h =
    number_span-in (second_in v) (second_range_in r) (second_range-in v r h)
picked-in PickSize v r h = size_span-in v r h

-- ---- functions

-- a number of a span, as an output
numbers-in : (n : ℕ) (o : Option Span) → IsNumberIn n o → IsOutputIn (number n) (numbers_in o)
numbers-in n None h = tt
numbers-in n (Some s) h = h

-- a function that doesn't fall, of each bound
each_bound-in : (f : ℕ → ℕ) (n : ℕ) (o : Option Span) → ((i j : ℕ) → i ≤ j → f i ≤ f j) →
    IsNumberIn n o → IsNumberIn (f n) (each_bound f o)
each_bound-in f n None rises h = tt
each_bound-in f n (Some s) rises h = record {
  low = rises s.low n h.low;
  high = rises n s.high h.high;
}

sum-rises : (k i j : ℕ) → i ≤ j → saturated (i + k) ≤ saturated (j + k)
sum-rises k i j le = omega arith

-- a number that is cut doesn't fall
pub saturated-rises : (i j : ℕ) → i ≤ j → saturated i ≤ saturated j
saturated-rises i j le = omega arith

product-rises : (k i j : ℕ) → i ≤ j → saturated (i * k) ≤ saturated (j * k)
product-rises k i j le = saturated-rises (i * k) (j * k) (mul-le-mul_right k le)

-- a function's result
pub applied-in : (f : Func) (v : Output) (r : OutputRange) → IsOutputIn v r →
    IsOutputIn (applied f v) (applied_range f r)
applied-in First v r h = first_range-in v r h
applied-in Second v r h = second_range-in v r h
applied-in Size v r h = numbers-in (size_in v) (size_span r) (size_span-in v r h)
applied-in Merge v r h = merge_range-in v r h
applied-in (Const n) v r h = in-itself n
applied-in (Add k) v r h =
    numbers-in (saturated (number_in v + k)) (each_bound (λ x. saturated (x + k)) (number_span r))
    (each_bound-in (λ x. saturated (x + k)) (number_in v) (number_span r) (sum-rises k)
    (number_span-in v r h))
applied-in (Mul k) v r h =
    numbers-in (saturated (number_in v * k)) (each_bound (λ x. saturated (x * k)) (number_span r))
    (each_bound-in (λ x. saturated (x * k)) (number_in v) (number_span r) (product-rises k)
    (number_span-in v r h))
