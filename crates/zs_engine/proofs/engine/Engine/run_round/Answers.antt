use Rattle.std.proofs.Common.{◌∙◌, ap, refl, sym, arith}
use Rattle.std.specs.Vec.Iter.{drain_items}
use Rattle.std.proofs.lemmas.List.{take_all}
use Rattle.std.proofs.lemmas.Map.Keys.{IsStrictlyIncreasing-from_sorted}
use Rattle.zs_engine.specs.Times.{ticks_of}
use Rattle.zs_engine.specs.Rounds.{jobs_in}
use Rattle.zs_engine.proofs.RoundLemmas.{due-filled, due-all, due-numbers}
use Rattle.zs_engine.proofs.EngineLemmas.{Runs-counted, tasks-few, allowed}
use Rattle.zs_engine.proofs.Settling.{Next, settling-next, settling-end}
use Rattle.zs_engine.proofs.SlotLemmas.{IsDistinct-sorted}
use Rattle.zs_engine.proofs.engine.Engine.run_round.Given.{Over}
use Rattle.zs_engine.proofs.engine.Engine.run_round.Goals.{In-Some}
use Rattle.zs_engine.proofs.engine.Engine.run_round.Goals as goal

pub take_tasks-requires-clause-filled : goal.take_tasks-requires-clause-filled
take_tasks-requires-clause-filled g c =
    due-filled c.requires.due.begins c.args.numbers.now (λ i h. h)

pub take_tasks-requires-clause-distinct : goal.take_tasks-requires-clause-distinct
take_tasks-requires-clause-distinct g c =
    IsDistinct-sorted c.args.numbers.now c.requires.due.in_order

pub round_in-requires-clause-few : goal.round_in-requires-clause-few
round_in-requires-clause-few g c =
    λ _ _. tasks-few c.args.self.now c.requires.due c.in_ok-due.due.items c.in_ok-due.ensures.picks

pub round_in-requires-clause-rising : goal.round_in-requires-clause-rising
round_in-requires-clause-rising g c = λ _ _.
    rw (due-numbers c.requires.due.begins c.in_ok-due.due.items c.in_ok-due.ensures.picks)
    (IsStrictlyIncreasing-from_sorted c.args.numbers.now c.requires.due.in_order)

pub round_in-requires-clause-pollable : goal.round_in-requires-clause-pollable
round_in-requires-clause-pollable g c =
    λ _ _. due-all c.requires.due.begins c.in_ok-due.due.items c.in_ok-due.ensures.picks

pub round_in-requires-clause-allowance : goal.round_in-requires-clause-allowance
round_in-requires-clause-allowance g c = λ _ _.
    let few = tasks-few c.args.self.now c.requires.due c.in_ok-due.due.items
    c.in_ok-due.ensures.picks in
    allowed c.args.self.now c.requires.due c.args.cut.workers _ c.args.cut.within.1 few

pub loop-task-init : goal.loop-task-init
loop-task-init g c =
    let due = c.requires.due in
    let picks = c.in_ok-due.ensures.picks in
    let numbers = due-numbers due.begins c.in_ok-due.due.items picks in
    record {
      settling = (
        c.in_ok-due.due.items,
        record {
          whole = c.args.self.now.slots.items;
          before = c.args.self.now.seat.count;
          begins = rw numbers due.begins;
          distinct = rw numbers (IsDistinct-sorted c.args.numbers.now due.in_order);
          picks = rw numbers picks;
          rest_is = ap drain_items c.into_iter-task-iterator.ensures.into_iter_gives
              ∙ c.drain-task-items.ensures.rest ∙ take_all _ c.in-Ok.polled.items
              (omega (arith, c.in-Ok.polled.ok)) ∙ c.in-Ok.ensures.tasks;
          out = rw numbers c.in_ok-due.ensures.emptied;
          same_jobs = refl;
          counted = c.in-Ok.ensures.count;
        },
      );
      runs = Runs-counted _ due.runs (
        c.in-Ok.ensures.tally ∙ sym due.runs.seated,
        c.in-Ok.ensures.count,
        c.in-Ok.ensures.allowance,
      );
      clock = refl;
    }

-- the task that is put back next
next_task : (g : Over) (c : In-Some g)
    → Next (ticks_of c.args.self.now.clock) c.args.now (jobs_in c.args.self.now.slots.items)
    c.loop-task.self.slots.items c.loop-task.self.agenda c.in-Some.task
    (drain_items c.next.new.self) c.loop-task.self.seat.count
next_task g c = settling-next c.loop-task.invariant.settling.0 _ _
    (rw c.in-Some.ensures.steps.0 at c.loop-task.invariant.settling.1)

pub put_back-requires-clause-slot : goal.put_back-requires-clause-slot
put_back-requires-clause-slot g c =
    let next = next_task g (goal.at.put_back-requires-clause-slot g c).In-Some in
    next.in_range

pub put_back-requires-clause-unset : goal.put_back-requires-clause-unset
put_back-requires-clause-unset g c =
    let next = next_task g (goal.at.put_back-requires-clause-unset g c).In-Some in
    next.unset

pub put_back-requires-clause-later : goal.put_back-requires-clause-later
put_back-requires-clause-later g c =
    let next = next_task g (goal.at.put_back-requires-clause-later g c).In-Some in
    rw c.loop-task.invariant.clock next.later

pub loop-task-preserved : goal.loop-task-preserved
loop-task-preserved g c =
    let next = next_task g (goal.at.loop-task-preserved g c).In-Some in
    let put = c.in_ok-put_back.ensures in
    record {
      settling = rw (put.slots, put.agenda, put.tally.1, c.loop-task.invariant.clock) next.onward;
      runs = rw (put.clock.0, put.clock.1, put.tally.0, put.tally.1) c.loop-task.invariant.runs;
      clock = put.clock.0 ∙ c.loop-task.invariant.clock;
    }

pub returns : goal.returns
returns g c =
    let invariant = c.loop-task.invariant in
    let end = settling-end invariant.settling.0
    (rw c.in-None.ensures.steps.0 at invariant.settling.1) in
    record {
      round = record {
        rests = record { runs = rw end.1 invariant.runs; rests = rw invariant.clock end.0 };
        same = record { clock = invariant.clock; jobs = end.1 };
        taken = end.2;
      };
    }
