use Rattle.std.proofs.Common.{◌≡◌, List, ◌∷◌, ◌++◌, map, Option, Some, ap, ◌∙◌, arith}
use Rattle.std.specs.List.{AllZip}
use Rattle.std.specs.Vec.Iter.{into_iter_items}
use Rattle.zs_drive.specs.Tasks.{TaskValue}
use Rattle.zs_pool.specs.Rounds.{IsPolled, polled_at}
use Rattle.zs_pool.specs.Messages.{PolledValue}
use Rattle.zs_pool.proofs.Places.{goes_from, goes_on, goes_all, has_some}
use Rattle.zs_pool.proofs.rounds.batches.in_order.Goals as goal

pub loop-slot-init : goal.loop-slot-init
loop-slot-init c =
    goes_from c.args.now c.args.batches.now.value.items c.in_ok-all.all.items
    (into_iter_items c.into_iter-slot-iterator.result) c.in_ok-slots.slots.items
    c.into_iter-slot-iterator.ensures.into_iter_gives.0 c.in_ok-all.ensures.items
    c.in_ok-slots.ensures.placed

pub unreachable-requires : goal.unreachable-requires
unreachable-requires c =
    has_some c.args.now c.args.batches.now.value.items c.loop-slot.all.items
    (into_iter_items c.loop-slot.slot-iterator) (into_iter_items c.next.new.self) c.in-Some.slot
    c.in-Some.ensures.steps.0 c.loop-slot.invariant c.in_default.is

pub loop-slot-preserved : goal.loop-slot-preserved
loop-slot-preserved c =
    let rest : List (Option PolledValue) = into_iter_items c.next.new.self in
    let step : into_iter_items c.loop-slot.slot-iterator ≡ Some c.in-Some-slot.message ∷ rest =
    c.in-Some.ensures.steps.0 ∙ ap (λ o. o ∷ rest) c.in-Some-slot.is in
    let more : (ts : List TaskValue) →
    AllZip (IsPolled c.args.now) ts c.in-Some-slot.message.tasks →
    c.append.new.self.items ≡ c.loop-slot.all.items ++ map (polled_at c.args.now) ts =
    λ ts polls. c.in_ok-append.ensures.items ∙ ap (λ l. c.loop-slot.all.items ++ l)
    (c.in_ok-into_tasks.ensures.tasks c.args.now ts polls)
    in
    goes_on c.args.now c.args.batches.now.value.items c.loop-slot.all.items c.append.new.self.items
    (into_iter_items c.loop-slot.slot-iterator) rest c.in-Some-slot.message step more
    c.loop-slot.invariant

pub returns : goal.returns
returns c =
    let it = c.loop-slot.slot-iterator in
    record {
      tasks = goes_all c.args.now c.args.batches.now.value.items c.loop-slot.all.items
          (into_iter_items it) (omega (arith, it.rest.ok.0, c.in-None.ensures.steps.0))
          c.loop-slot.invariant;
      memory = tt;
    }
