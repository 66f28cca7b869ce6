use Rattle.std.proofs.Common.{◌≡◌, ◌+◌, length, rules, subst}
use Rattle.atomic_table.specs.Seated.{TableId}
use Rattle.crossbeam_queue.specs.Passes.{view}
use Rattle.zs_term.specs.Saturating.{max_moment}
use Rattle.zs_pool.specs.Shelf.{Shelver}
use Rattle.zs_pool.proofs.ShelfMoves.{puts, learns, all_full}
use Rattle.zs_pool.proofs.shelf.Shelf.put.Goals as goal

pub push_as-requires-clause-rule : goal.push_as-requires-clause-rule
push_as-requires-clause-rule g c = (puts _ _ _ _ (search rules), learns _ _)

pub returns-clause-no_room : goal.returns-clause-no_room
returns-clause-no_room g c =
    let Q : Shelver × TableId → Type 0 =
    λ y. y.0.share ≡ max_moment → length y.0.put ≡ length y.0.taken + y.1.slots in
    subst Q (λ i. (c.pass.view_is i, c.self.view_is i))
    (all_full (view c.pass.inside.queue) c.self.inside.queue.cap _ c.self.inside.queue.sized.1
    c.in-Err.ensures.rule.2)
