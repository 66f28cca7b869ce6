-- The weight of a schedule that is within the limits.
use Rattle.std.proofs.Common.{◌≡◌, ◌≤◌, true, arith}
use Rattle.zs_term.specs.Schedule.{Schedule, leaf, two, over, weight, is_within_limits}

-- it is at most the greatest one
pub weight_within : (t : Schedule) → is_within_limits t ≡ true → weight t ≤ 1000
weight_within t small = grind (arith, small)

-- it is at least that of a leaf
pub weight_positive : (t : Schedule) → 1 ≤ weight t
weight_positive (leaf l) = omega arith
weight_positive (two p a b) = omega arith
weight_positive (over s m) = omega arith
