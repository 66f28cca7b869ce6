use Rattle.std.proofs.Common.{List, sym, subst, All}
use Rattle.zs_drive.specs.Tasks.{TaskValue}
use Rattle.zs_pool.specs.Rounds.{IsPollable}
use Rattle.zs_pool.specs.Batches.{BatchValue}
use Rattle.zs_pool.proofs.polling.poll_in.Goals as goal

pub poll_each-requires-clause-pollable : goal.poll_each-requires-clause-pollable
poll_each-requires-clause-pollable g c κs within =
    let P : BatchValue → Type 0 = λ b. All (IsPollable c.args.now) b.tasks in
    let pollable = subst P (sym c.batch.view_is) c.requires.pollable in
    subst (λ (l : List TaskValue). All (IsPollable c.args.now) l)
    (sym c.as_mut_slice.ensures.value) pollable
