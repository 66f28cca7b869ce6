use Rattle.zs_run.specs.Tree.{as_whole}
use Rattle.zs_run.proofs.ListLemmas.{HaveGiven}
use Rattle.zs_run.proofs.shapes.wholes_of.Given as goal

abbrev pub invariant-loop-item : goal.invariant-loop-item
invariant-loop-item l = HaveGiven as_whole l.numbers.items l.items l.item-index
