use Rattle.std.proofs.Common.{rules}
use Rattle.zs_term.specs.declared.outputs.Out.{the_lemmas}
use Rattle.zs_term.proofs.Values.{stored_outputs_are, count-outputs_of}
use Rattle.zs_term.proofs.outputs.Out.size.Goals as goal

pub returns-in-Items : goal.returns-in-Items
returns-in-Items c = search (rules, the_lemmas, stored_outputs_are, count-outputs_of)
