use Rattle.std.proofs.Common.{[], List, ℕ, Option}
use Rattle.std.specs.Io.KnownBytes.{prepend_known}
use Rattle.zs_lines.proofs.LineLemmas.{took-nothing}
use Rattle.zs_population.proofs.SumLemmas.{ended-known}
use Rattle.zs_population.proofs.running.end_report.Goals as goal

-- nothing is read for a range that is no part
pub returns-else-range-clause-end : goal.returns-else-range-clause-end
returns-else-range-clause-end g c = λ ended.
    let left : Option (List ℕ) = g.R.Source.remaining c.args.reader.now in
    let ahead : Option (List ℕ) = prepend_known c.args.lines.now.buffer left in
    ended-known ahead left c.args.lines.now.buffer [] (took-nothing ahead) ended
