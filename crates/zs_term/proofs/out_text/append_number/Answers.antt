use Rattle.std.proofs.Common.{◌≡◌, ℕ, ◌+◌, ◌-◌, ◌/◌, ◌%◌, ◌^◌, ◌≤◌, ◌<◌, ◌++◌, length, drop, take}
use Rattle.std.proofs.Common.{set, ap, ◌∙◌, arith, append_assoc, append-nil, List, rules}
use Rattle.std.proofs.Common.{length-append, take_all, length-drop}
use Rattle.std.proofs.lemmas.Fmt.{decimal_digit, decimal_step, decimal_nonempty}
use Rattle.std.proofs.lemmas.Fmt.{length-decimal-le, IsAscii-decimal}
use Rattle.std.proofs.lemmas.List.{drop-set, length-set}
use Rattle.std.proofs.lemmas.Str.{IsUtf8-from_ascii}
use Rattle.std.specs.Fmt.{decimal}
use Rattle.zs_term.proofs.out_text.append_number.Goals as goal

-- the front of a number has a digit less, and has one
front : (n : ℕ) → 10 ≤ n → n < 2 ^ 64
    → (length (decimal n) ≡ length (decimal (n / 10)) + 1) × (0 < length (decimal (n / 10)))
front n long fits = (
  ap length (decimal_step n long fits) ∙ length-append _ _,
  decimal_nonempty (n / 10) (omega arith),
)

-- the text that is written once the first digit is
written : (room : List ℕ) (n left at : ℕ) → at ≤ 19 → length room ≡ 20 → left < 10
    → decimal left ++ drop (at + 1) room ≡ decimal n
    → take (20 - at) (drop at (set room at (48 + left))) ≡ decimal n
written room n left at inside size small is =
    let last = set room at (48 + left) in
    let count = length-set room at (48 + left) in
    take_all (20 - at) (drop at last) (omega (arith, length-drop at last, count))
    ∙ drop-set room at (48 + left) (omega arith) ∙ (rw (decimal_digit left small) at is)

-- before the last digit
pub loop-left-init : goal.loop-left-init
loop-left-init c = (
  omega arith,
  omega arith,
  length-decimal-le 20 c.args.n (omega arith) (omega arith) c.ranges.n.fits,
  rw (append-nil),
)

-- there is a place before that of a digit with others before it
pub overflow_sub-at : goal.overflow_sub-at
overflow_sub-at c =
    let l = c.loop-left in
    let before = front l.left c.loop-left-test.true l.auto.left-fits.fits in
    omega (arith, before.0, before.1)

-- one digit more
pub loop-left-preserved : goal.loop-left-preserved
loop-left-preserved c =
    let l = c.loop-left in
    let step = decimal_step l.left c.loop-left-test.true l.auto.left-fits.fits in
    let before = front l.left c.loop-left-test.true l.auto.left-fits.fits in
    let back : l.at - 1 + 1 ≡ l.at = omega (arith, before.0, before.1) in (
      omega arith,
      omega (arith, length-set l.room l.at (48 + l.left % 10)),
      omega (arith, before.0, before.1),
      rw (back, drop-set l.room l.at _ (omega arith)) (rw (step, append_assoc) at l.invariant.3),
    )

-- the digits are a text
pub from_utf8_unchecked-requires : goal.from_utf8_unchecked-requires
from_utf8_unchecked-requires c =
    let l = c.loop-left in
    let i = l.invariant in
    let is = written l.room c.args.n l.left l.at i.0 i.1 c.loop-left-test.false i.3 in
    IsUtf8-from_ascii _ (rw (is) (IsAscii-decimal c.args.n c.ranges.n.fits))

-- the text with the digits
pub returns-clause-ok : goal.returns-clause-ok
returns-clause-ok c =
    let l = c.loop-left in
    let i = l.invariant in
    let is = written l.room c.args.n l.left l.at i.0 i.1 c.loop-left-test.false i.3 in
    search (rules, c.from_utf8_unchecked.ensures, is)
