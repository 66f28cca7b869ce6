use Rattle.std.proofs.Common.{◌≡◌, take}
use Rattle.zs_term.specs.Output.{outputs_of}
use Rattle.zs_term.proofs.outputs.+copy.Given as goal

abbrev pub invariant-copy_all-loop-out : goal.invariant-copy_all-loop-out
invariant-copy_all-loop-out l = outputs_of l.copies.items ≡ outputs_of (take l.out-index l.outs)
