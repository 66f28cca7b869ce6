use Rattle.std.proofs.Common.{Some, ◌∙◌, refl, sym}
use Rattle.std.proofs.lemmas.List.{drop_more, drop_all, append-nil}
use Rattle.zs_engine.proofs.SlotLemmas.{taken-next, lifting-step}
use Rattle.zs_engine.proofs.slots.take_tasks.Goals as goal

pub loop-number-init : goal.loop-number-init
loop-number-init c = rw c.clear.ensures.items (record {
  distinct = c.requires.distinct;
  taken = refl;
  emptied_all = refl;
})

pub take_task-requires : goal.take_task-requires
take_task-requires c =
    let l = rw (drop_more c.args.numbers.now c.loop-number.number-index 0 c.loop-number-test.true)
    at c.loop-number.invariant in
    record {
      filled = taken-next (λ task. Some (Some task)) c.loop-number.tasks.items
          c.requires.filled.0 _ _ (sym l.taken ∙ c.requires.filled.1);
    }

pub loop-number-preserved : goal.loop-number-preserved
loop-number-preserved c =
    let l = rw (drop_more c.args.numbers.now c.loop-number.number-index 0 c.loop-number-test.true)
    at c.loop-number.invariant in
    rw (c.take_task.ensures.emptied, c.in_ok-push.ensures.items)
    (lifting-step _ _ _ _ _ _ c.take_task.result c.take_task.ensures.taken l)

pub returns-clause-picks : goal.returns-clause-picks
returns-clause-picks c =
    let l = rw (drop_all c.loop-number.number-index c.args.numbers.now c.loop-number-test.false) at
    c.loop-number.invariant in l.taken ∙ append-nil _

pub returns-clause-emptied : goal.returns-clause-emptied
returns-clause-emptied c =
    let l = rw (drop_all c.loop-number.number-index c.args.numbers.now c.loop-number-test.false) at
    c.loop-number.invariant in l.emptied_all
