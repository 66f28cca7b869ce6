use Rattle.std.proofs.Common.{◌≡◌, ◌-◌, ◌^◌, false}
use Rattle.std.specs.Io.KnownBytes.{prepend_known}
use Rattle.zs_bounds_lines.specs.Steps.{IsDone}
use Rattle.zs_bounds_lines.proofs.running.run_bounds.Given as goal

-- what belongs to all lines so far was written
abbrev pub invariant-loop-count : goal.invariant-loop-count
invariant-loop-count g l = record {
  reader : g.R.Source.mark l.reader ≡ false;
  writer : g.W.Drain.mark l.writer ≡ false;
  done : IsDone l.options (g.R.Source.remaining l.fn.reader) (prepend_known l.buffer (g.R.Source.remaining l.reader)) l.count
      (record { before = g.W.Drain.contents l.fn.writer; taken = g.W.Drain.contents l.writer; failed = g.W.Drain.mark l.writer; flushed = g.W.Drain.flushed l.writer })
      (l.writer ≡ l.fn.writer);
}

abbrev pub decreases-loop-count : goal.decreases-loop-count
decreases-loop-count g l = 2 ^ 64 - l.count
