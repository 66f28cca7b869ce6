use Rattle.std.proofs.Common.{length, ◌-◌, ◌≡◌, ◌≤◌, take, false}
use Rattle.std.specs.Io.KnownBytes.{Appends}
use Rattle.zs_run.proofs.transfer.write_all.Given as goal

abbrev pub invariant-loop-sent : goal.invariant-loop-sent
invariant-loop-sent g l =
    (l.sent ≤ length l.bytes) × (g.W.Drain.mark l.writer ≡ false)
    × Appends (g.W.Drain.contents l.fn.writer) (g.W.Drain.contents l.writer) (take l.sent l.bytes)

abbrev pub decreases-loop-sent : goal.decreases-loop-sent
decreases-loop-sent g l = length l.bytes - l.sent
