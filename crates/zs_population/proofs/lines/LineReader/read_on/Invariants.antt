use Rattle.std.proofs.Common.{◌≡◌, ◌-◌, ◌^◌, ℕ, List, false}
use Rattle.std.specs.Io.KnownBytes.{prepend_known}
use Rattle.zs_lines.specs.Buffers.{Took}
use Rattle.zs_population.specs.Sums.{KeepsSums}
use Rattle.zs_population.proofs.lines.LineReader.read_on.Given as goal

-- all lines so far were counted and digested
abbrev pub invariant-loop-line : goal.invariant-loop-line
invariant-loop-line g l = record {
  clear : g.R.Source.mark l.reader ≡ false;
  sums : KeepsSums l.fn.self (prepend_known l.fn.self.buffer (g.R.Source.remaining l.fn.reader))
      l.self (prepend_known l.self.buffer (g.R.Source.remaining l.reader));
  took : (rest : List (List ℕ))
      × Took (prepend_known l.fn.self.buffer (g.R.Source.remaining l.fn.reader))
      (prepend_known l.self.buffer (g.R.Source.remaining l.reader)) rest;
}

abbrev pub decreases-loop-line : goal.decreases-loop-line
decreases-loop-line g l = 2 ^ 64 - l.self.count
