use Rattle.std.proofs.Common.{◌≡◌, ◌≤◌, ◌-◌, length, drop}
use Rattle.zs_lines.specs.Numbers.{digits_from}
use Rattle.zs_lines.proofs.numbers.digits.Given as goal

-- the digits so far, and those after them, are all digits
abbrev pub invariant-loop-count : goal.invariant-loop-count
invariant-loop-count l =
    (l.count ≤ length l.text)
    × (digits_from l.number l.count (drop l.count l.text) ≡ digits_from 0 0 l.text)

abbrev pub decreases-loop-count : goal.decreases-loop-count
decreases-loop-count l = length l.text - l.count
