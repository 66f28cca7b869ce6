use Rattle.std.proofs.Common.{◌≡◌, ◌≤◌, ◌-◌, false}
use Rattle.std.specs.Io.KnownBytes.{prepend_known}
use Rattle.std.specs.Prelude.{IfSome}
use Rattle.zs_lines.specs.Lines.{lines_of}
use Rattle.zs_population.specs.Population.{max_population}
use Rattle.zs_population.specs.Sums.{IsSummed}
use Rattle.zs_population.proofs.ReadLemmas.{HasRead}
use Rattle.zs_population.proofs.joining.read_jobs.Given as goal

-- the blocks so far were read, and their lines counted and digested
abbrev pub invariant-loop-names : goal.invariant-loop-names
invariant-loop-names g l = record {
  reader : g.R.Source.mark l.reader ≡ false;
  few : l.count ≤ max_population;
  read : HasRead (g.R.Source.remaining l.fn.reader)
      (prepend_known l.lines.buffer (g.R.Source.remaining l.reader)) l.names l.count;
  sums : IfSome (g.R.Source.remaining l.fn.reader) (λ known. IsSummed (lines_of known) l.lines
      (prepend_known l.lines.buffer (g.R.Source.remaining l.reader)));
}

abbrev pub decreases-loop-names : goal.decreases-loop-names
decreases-loop-names g l = max_population - l.count
