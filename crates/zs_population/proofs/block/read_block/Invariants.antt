use Rattle.std.proofs.Common.{◌≡◌, ◌≤◌, ◌+◌, ◌-◌, length, map, false}
use Rattle.std.specs.Io.KnownBytes.{prepend_known}
use Rattle.zs_drive.specs.Values.{job_record}
use Rattle.zs_population.specs.Population.{max_population}
use Rattle.zs_population.specs.Reads.{BlockReads}
use Rattle.zs_population.specs.Sums.{KeepsSums}
use Rattle.zs_population.proofs.block.read_block.Given as goal

-- the jobs so far are those of the lines that were taken
abbrev pub invariant-loop-alloc : goal.invariant-loop-alloc
invariant-loop-alloc g l =
    (length l.jobs.items ≤ l.size) × (g.R.Source.mark l.reader ≡ false)
    × (l.first + length l.jobs.items ≤ max_population)
    × BlockReads l.first (prepend_known l.fn.lines.buffer (g.R.Source.remaining l.fn.reader))
    (prepend_known l.lines.buffer (g.R.Source.remaining l.reader))
    l.fn.names l.names (map job_record l.jobs.items)
    × KeepsSums l.fn.lines (prepend_known l.fn.lines.buffer (g.R.Source.remaining l.fn.reader))
    l.lines (prepend_known l.lines.buffer (g.R.Source.remaining l.reader))

abbrev pub decreases-loop-alloc : goal.decreases-loop-alloc
decreases-loop-alloc g l = l.size - length l.jobs.items
