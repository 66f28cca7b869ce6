use Rattle.std.proofs.Common.{◌≡◌, ◌++◌}
use Rattle.crossbeam_queue.specs.Passes.{view, IsPassOf}
use Rattle.zs_term.specs.Saturating.{max_moment}
use Rattle.zs_pool.proofs.shelf.drain.Given as goal

abbrev pub invariant-loop : goal.invariant-loop
invariant-loop g l =
    let v = view l.pass in let first = view l.initial.pass in
    IsPassOf l.queue l.pass
    × ((v.share ≡ max_moment) × (v.put ≡ first.put) × (v.taken ≡ first.taken ++ l.left.items))
