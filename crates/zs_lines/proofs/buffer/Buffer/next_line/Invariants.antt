use Rattle.std.proofs.Common.{◌≡◌, ◌≤◌, ◌-◌, ◌+◌, length, false}
use Rattle.std.specs.Io.KnownBytes.{Consumes, prepend_known}
use Rattle.zs_lines.specs.Buffers.{IsOneLine, chunk}
use Rattle.zs_lines.proofs.buffer.Buffer.next_line.Given as goal

-- the line so far, in one piece, and not too long
abbrev pub invariant-loop-line : goal.invariant-loop-line
invariant-loop-line g l =
    (length l.line.items ≤ l.limit) × IsOneLine l.line.items × (g.R.Source.mark l.reader ≡ false)
    × Consumes (prepend_known l.fn.self (g.R.Source.remaining l.fn.reader))
    (prepend_known l.self (g.R.Source.remaining l.reader)) l.line.items

-- each turn but the first takes at least one byte
abbrev pub decreases-loop-line : goal.decreases-loop-line
decreases-loop-line g l = (l.limit + chunk) - (length l.line.items + length l.self)
