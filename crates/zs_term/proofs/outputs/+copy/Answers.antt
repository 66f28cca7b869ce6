use Rattle.std.proofs.Common.{rules}
use Rattle.zs_term.specs.declared.outputs.Out.{the_lemmas}
use Rattle.zs_term.proofs.Values.{stored_outputs_are, outputs_of-copied}
use Rattle.zs_term.proofs.outputs.+copy.Goals as goal

pub Out::copy-returns-in_ok-copy-in-Items : goal.Out::copy-returns-in_ok-copy-in-Items
Out::copy-returns-in_ok-copy-in-Items t c = search (rules, the_lemmas, stored_outputs_are)

pub copy_all-loop-out-preserved : goal.copy_all-loop-out-preserved
copy_all-loop-out-preserved t c =
    outputs_of-copied _ _ _ _ _ _ c.in_ok-push.ensures.items c.in_ok-copy.ensures.ok c.out-item.is
    c.loop-out-test.true c.loop-out.invariant
