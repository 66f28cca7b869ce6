use Rattle.std.proofs.Common.{◌==◌, ◌<◌, length}
use Rattle.std.proofs.lemmas.List.Folds.{list_any_more}
use Rattle.zs_agenda.proofs.IndexLemmas.{forget_more}
use Rattle.zs_agenda.proofs.index.forget.Goals as goal

pub loop-job-preserved : goal.loop-job-preserved
loop-job-preserved c = λ q.
    let within : c.loop-job.job-index < length c.args.jobs.now = c.loop-job-test.true in
    rw (list_any_more (λ j. j == q) c.args.jobs.now c.loop-job.job-index 0 within)
    (forget_more _ q _ _ _ _ (c.remove.ensures.updates.0 q) (c.loop-job.invariant q))
