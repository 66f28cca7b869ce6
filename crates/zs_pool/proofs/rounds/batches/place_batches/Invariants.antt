use Rattle.std.specs.Prelude.{All}
use Rattle.std.specs.Vec.Iter.{into_iter_items}
use Rattle.zs_pool.specs.Messages.{IsPollAmong}
use Rattle.zs_pool.proofs.Places.{Slotted}
use Rattle.zs_pool.proofs.rounds.batches.place_batches.Given as goal

abbrev pub invariant-loop-message : goal.invariant-loop-message
invariant-loop-message l =
    let bs = l.batches.value.items in let rest = into_iter_items l.message-iterator in
    Slotted l.now bs l.slots.items rest × All (IsPollAmong l.now bs) rest
