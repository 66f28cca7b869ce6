use Rattle.zs_step.proofs.Histories.{next_run-take}
use Rattle.zs_step.proofs.leaves.fixed_run.Goals as goal

pub loop-at-preserved : goal.loop-at-preserved
loop-at-preserved c =
    next_run-take c.args.period c.args.history.now c.loop-at.at (0, 0) (0, 0) c.loop-at.run
    c.run_after-run.result
    c.loop-at.auto.at c.loop-at-test.true c.loop-at.invariant c.run_after-run.ensures.value
