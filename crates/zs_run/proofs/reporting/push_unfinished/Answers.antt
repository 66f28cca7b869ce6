use Rattle.std.proofs.Common.{rules, append_assoc}
use Rattle.zs_run.proofs.reporting.push_unfinished.Goals as goal

pub returns : goal.returns
returns c = record { text = search (rules, append_assoc) }
