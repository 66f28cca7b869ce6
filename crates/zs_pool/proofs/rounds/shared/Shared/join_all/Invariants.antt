use Rattle.std.specs.Vec.Iter.{into_iter_items}
use Rattle.zs_pool.proofs.Parts.{Joins}
use Rattle.zs_pool.proofs.rounds.shared.Shared.join_all.Given as goal

abbrev pub invariant-loop-worker : goal.invariant-loop-worker
invariant-loop-worker g l =
    Joins l.self l.initial.served.rights l.initial.served.overflow l.fn.workers.items
    (into_iter_items l.worker-iterator) l.served.rights l.served.overflow
