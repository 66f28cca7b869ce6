use Rattle.std.proofs.Common.{◌≡◌, ◌+◌, ◌≤◌, ◌++◌, length, drop}
use Rattle.std.specs.Fmt.{decimal}
use Rattle.zs_term.proofs.out_text.append_number.Given as goal

-- the digits after `at` are written
abbrev pub invariant-loop-left : goal.invariant-loop-left
invariant-loop-left l = (l.at ≤ 19) × (length l.room ≡ 20) × (length (decimal l.left) ≤ l.at + 1)
    × (decimal l.left ++ drop (l.at + 1) l.room ≡ decimal l.n)

abbrev pub decreases-loop-left : goal.decreases-loop-left
decreases-loop-left l = l.left
