-- Spans, tests of their numbers, and facts that are joined by `or` and `and`.
use Rattle.std.proofs.Common.{◌≡◌, ℕ, ◌≤◌, Bool, true, false, not, ◌&&◌, ◌||◌, nat_lt, nat_le}
use Rattle.std.proofs.Common.{nat_eq, Option, Some, None, refl, ap, arith}
use Rattle.zs_term.specs.Output.{compares, passes}
use Rattle.zs_term.specs.declared.term.Test.{Test}
use Rattle.zs_term.specs.declared.term.Cmp.{Cmp}
use Rattle.zs_term.specs.declared.term.Cmp.TheVariants.{Lt, Le, Eq, Ne, Gt, Ge}
use Rattle.zs_bounds.specs.declared.span.Span.{Span}
use Rattle.zs_bounds.specs.Span.{IsIn, hull, span}
use Rattle.zs_bounds.specs.OutputRange.{may_compare, opposite, may_pass, may_fail}

-- ---- truths

pub or-left : (b c : Bool) → b ≡ true → (b || c) ≡ true
or-left true c e = refl
or-left false c e = cc

pub or-right : (b c : Bool) → c ≡ true → (b || c) ≡ true
or-right true c e = refl
or-right false c e = e

pub and-both : (b c : Bool) → b ≡ true → c ≡ true → (b && c) ≡ true
and-both true c e f = f
and-both false c e f = cc

pub and-left : (b c : Bool) → (b && c) ≡ true → b ≡ true
and-left true c e = refl
and-left false c e = e

pub and-right : (b c : Bool) → (b && c) ≡ true → c ≡ true
and-right true c e = e
and-right false c e = cc

-- ---- spans

pub in-hull_left : (n : ℕ) (s t : Span) → IsIn n s → IsIn n (hull s t)
in-hull_left n s t h = record {
  low = omega (arith, h.low);
  high = omega (arith, h.high);
}

pub in-hull_right : (n : ℕ) (s t : Span) → IsIn n t → IsIn n (hull s t)
in-hull_right n s t h = record {
  low = omega (arith, h.low);
  high = omega (arith, h.high);
}

-- a number is within the span of that number alone
pub in-itself : (n : ℕ) → IsIn n (span n n)
in-itself n = record {
  low = omega arith;
  high = omega arith;
}

-- ---- a number of a span, if there is one

abbrev pub IsNumberIn : ℕ → Option Span → Type 0
IsNumberIn n None = Unit {0}
IsNumberIn n (Some s) = IsIn n s

-- ---- comparisons

lt-may : (l n k : ℕ) → l ≤ n → nat_lt n k ≡ true → nat_lt l k ≡ true
lt-may l n k le e = grind arith

le-may : (l n k : ℕ) → l ≤ n → nat_le n k ≡ true → nat_le l k ≡ true
le-may l n k le e = grind arith

gt-may : (h n k : ℕ) → n ≤ h → nat_lt k n ≡ true → nat_lt k h ≡ true
gt-may h n k le e = grind arith

ge-may : (h n k : ℕ) → n ≤ h → nat_le k n ≡ true → nat_le k h ≡ true
ge-may h n k le e = grind arith

-- what isn't less is at least as great, and so on
not-lt : (n k : ℕ) → nat_lt n k ≡ false → nat_le k n ≡ true
not-lt n k e = grind arith

not-le : (n k : ℕ) → nat_le n k ≡ false → nat_lt k n ≡ true
not-le n k e = grind arith

-- an equal number is at least and at most as great
eq-low : (n k : ℕ) → nat_eq n k ≡ true → nat_le n k ≡ true
eq-low n k e = grind arith

eq-high : (n k : ℕ) → nat_eq n k ≡ true → nat_le k n ≡ true
eq-high n k e = grind arith

not-true : (b : Bool) → not b ≡ true → b ≡ false
not-true true e = cc
not-true false e = refl

not-false : (b : Bool) → not b ≡ false → b ≡ true
not-false true e = refl
not-false false e = cc

-- a number between two equal ones is that one
eq-between : (l h n k : ℕ) → l ≤ n → n ≤ h → nat_eq l k ≡ true → nat_eq h k ≡ true →
    nat_eq n k ≡ true
eq-between l h n k low high e f = grind arith

-- if a number of a span differs from another one, the span isn't that one alone
ne-may : (b c : Bool) (l h n k : ℕ) → l ≤ n → n ≤ h → nat_eq l k ≡ b → nat_eq h k ≡ c →
    nat_eq n k ≡ false → not (b && c) ≡ true
ne-may false c l h n k low high e f g = refl
ne-may true false l h n k low high e f g = refl
ne-may true true l h n k low high e f g = let same = eq-between l h n k low high e f in cc

-- a comparison that holds of a number of a span may hold
pub compare-may : (c : Cmp) (n : ℕ) (s : Span) (k : ℕ) → IsIn n s → compares c n k ≡ true →
    may_compare c s k ≡ true
compare-may Lt n s k h e = lt-may s.low n k h.low e
compare-may Le n s k h e = le-may s.low n k h.low e
compare-may Eq n s k h e =
    and-both (nat_le s.low k) (nat_le k s.high) (le-may s.low n k h.low (eq-low n k e))
    (ge-may s.high n k h.high (eq-high n k e))
compare-may Ne n s k h e =
    ne-may (nat_eq s.low k) (nat_eq s.high k) s.low s.high n k h.low h.high refl refl
    (not-true (nat_eq n k) e)
compare-may Gt n s k h e = gt-may s.high n k h.high e
compare-may Ge n s k h e = ge-may s.high n k h.high e

-- if a comparison doesn't hold, the opposite one does
compare-opposite : (c : Cmp) (n k : ℕ) → compares c n k ≡ false → compares (opposite c) n k ≡ true
compare-opposite Lt n k e = not-lt n k e
compare-opposite Le n k e = not-le n k e
compare-opposite Eq n k e = ap not e
compare-opposite Ne n k e = not-false (nat_eq n k) e
compare-opposite Gt n k e = not-lt k n e
compare-opposite Ge n k e = not-le k n e

-- a test that passes may pass
pub test-may_pass : (t : Test) (n : ℕ) (o : Option Span) → IsNumberIn n o → passes t n ≡ true →
    may_pass t o ≡ true
test-may_pass t n None h e = refl
test-may_pass t n (Some s) h e = compare-may t.cmp n s t.than h e

-- a test that fails may fail
pub test-may_fail : (t : Test) (n : ℕ) (o : Option Span) → IsNumberIn n o → passes t n ≡ false →
    may_fail t o ≡ true
test-may_fail t n None h e = refl
test-may_fail t n (Some s) h e =
    compare-may (opposite t.cmp) n s t.than h (compare-opposite t.cmp n t.than e)
