use Rattle.std.proofs.Common.{rules}
use Rattle.zs_term.specs.declared.outputs.Out.{the_lemmas}
use Rattle.zs_term.proofs.Values.{stored_outputs_are}
use Rattle.zs_term.proofs.outputs.make_list.Goals as goal

pub returns : goal.returns
returns c = search (rules, the_lemmas, stored_outputs_are)
