use Rattle.std.proofs.Common.{◌≡◌, List, ◌++◌, map}
use Rattle.std.specs.List.{AllZip}
use Rattle.std.specs.Vec.Iter.{into_iter_items}
use Rattle.zs_pool.specs.Rounds.{polled_at}
use Rattle.zs_pool.specs.Batches.{BatchValue, tasks_of}
use Rattle.zs_pool.specs.Messages.{HasPoll}
use Rattle.zs_pool.proofs.rounds.batches.in_order.Given as goal

abbrev pub invariant-loop-slot : goal.invariant-loop-slot
invariant-loop-slot l =
    (bs : List BatchValue) × AllZip (HasPoll l.now) bs (into_iter_items l.slot-iterator)
    × (l.all.items ++ map (polled_at l.now) (tasks_of bs)
    ≡ map (polled_at l.now) (tasks_of l.batches.value.items))
