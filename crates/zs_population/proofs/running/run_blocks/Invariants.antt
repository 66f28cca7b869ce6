use Rattle.std.proofs.Common.{◌≡◌, ◌≤◌, ◌+◌, ◌*◌, ◌^◌, ◌-◌, false}
use Rattle.std.specs.Io.KnownBytes.{prepend_known}
use Rattle.zs_run.specs.HeadView.{head_record}
use Rattle.zs_population.specs.Blocks.{IsDone}
use Rattle.zs_population.specs.Ending.{IsWhole}
use Rattle.zs_population.specs.Sums.{KeepsSums}
use Rattle.zs_population.specs.Population.{block_jobs, max_population}
use Rattle.zs_population.proofs.running.run_blocks.Given as goal

-- all blocks so far are done
abbrev pub invariant-loop-names : goal.invariant-loop-names
invariant-loop-names g l = record {
  reader : g.R.Source.mark l.reader ≡ false;
  writer : g.W.Drain.mark l.writer ≡ false;
  few : l.part.range.first + l.blocks * block_jobs ≤ max_population;
  within : l.blocks * block_jobs ≤ l.part.range.count;
  polled : l.polls ≤ l.blocks * 2 ^ 64;
  told : l.sent ≤ l.blocks * 2 ^ 64;
  done : IsDone (head_record l.part.head).clock l.part.range.first
      (prepend_known l.fn.lines.buffer (g.R.Source.remaining l.fn.reader))
      (prepend_known l.lines.buffer (g.R.Source.remaining l.reader))
      l.names l.blocks l.polls l.sent (g.W.Drain.contents l.fn.writer)
      (g.W.Drain.contents l.writer) l.digest;
  summed : KeepsSums l.fn.lines (prepend_known l.fn.lines.buffer (g.R.Source.remaining l.fn.reader))
      l.lines (prepend_known l.lines.buffer (g.R.Source.remaining l.reader));
  on : l.digest.is_on ≡ l.part.range.is_part;
  whole : IsWhole l.blocks (g.W.Drain.flushed l.writer) (l.writer ≡ l.fn.writer);
}

abbrev pub decreases-loop-names : goal.decreases-loop-names
decreases-loop-names g l = max_population - l.blocks * block_jobs
