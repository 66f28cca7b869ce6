use Rattle.std.proofs.Common.{◌≡◌, ◌≤◌, ◌*◌, ◌^◌, map, false, string_bytes}
use Rattle.zs_population.specs.Ending.{IsWhole}
use Rattle.zs_population.specs.JoinProgress.{HasJoined}
use Rattle.zs_population.proofs.joining.join_reports.Given as goal

-- the first reports were joined
abbrev pub invariant-loop-path : goal.invariant-loop-path
invariant-loop-path g l = record {
  writer : g.W.Drain.mark l.writer ≡ false;
  count : l.joined.reports ≡ l.path-index;
  room : l.joined.sent ≤ l.joined.reports * 2 ^ 64;
  parts : HasJoined l.sums (map (g.F.Files.contents l.files) (map string_bytes l.paths))
      l.path-index l.joined (g.W.Drain.contents l.fn.writer) (g.W.Drain.contents l.writer);
  whole : IsWhole l.path-index (g.W.Drain.flushed l.writer) (l.writer ≡ l.fn.writer);
}
