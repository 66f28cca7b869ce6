use Rattle.std.proofs.Common.{◌≡◌, ◌≤◌, ◌-◌, length, drop}
use Rattle.zs_bounds_lines.specs.Words.{dots_from}
use Rattle.zs_bounds_lines.proofs.words.dots.Given as goal

-- there are no two dots so far
abbrev pub invariant-loop-at : goal.invariant-loop-at
invariant-loop-at l = (l.at ≤ length l.text) × (dots_from l.at (drop l.at l.text) ≡ dots_from 0 l.text)

abbrev pub decreases-loop-at : goal.decreases-loop-at
decreases-loop-at l = length l.text - l.at
