use Rattle.std.proofs.Common.{◌≡◌, ◌≤◌, ◌-◌, false}
use Rattle.std.specs.Io.KnownBytes.{prepend_known}
use Rattle.zs_population.specs.Skipped.{Skipped}
use Rattle.zs_population.specs.Sums.{KeepsSums}
use Rattle.zs_population.proofs.block.skip_lines.Given as goal

-- the lines so far were skipped
abbrev pub invariant-loop-number : goal.invariant-loop-number
invariant-loop-number g l = (l.number ≤ l.count) × (g.R.Source.mark l.reader ≡ false)
    × Skipped l.number (prepend_known l.fn.lines.buffer (g.R.Source.remaining l.fn.reader))
    (prepend_known l.lines.buffer (g.R.Source.remaining l.reader))
    × KeepsSums l.fn.lines (prepend_known l.fn.lines.buffer (g.R.Source.remaining l.fn.reader))
    l.lines (prepend_known l.lines.buffer (g.R.Source.remaining l.reader))

abbrev pub decreases-loop-number : goal.decreases-loop-number
decreases-loop-number g l = l.count - l.number
