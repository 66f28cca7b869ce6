use Rattle.std.proofs.Common.{◌≡◌, ◌∷◌, [], Some, refl, sym, ◌∙◌, arith, append_assoc, append-nil}
use Rattle.std.specs.Vec.Iter.{into_iter_items}
use Rattle.std.proofs.lemmas.List.{nil_from_length, map-append}
use Rattle.zs_engine.proofs.SlotLemmas.{taken-next}
use Rattle.zs_engine.proofs.engine.into_tasks.Goals as goal

pub loop-slot-init : goal.loop-slot-init
loop-slot-init c =
    rw (c.in_ok-tasks.ensures.items, c.into_iter-slot-iterator.ensures.into_iter_gives.0) refl

pub unreachable-requires : goal.unreachable-requires
unreachable-requires c =
    let left = rw c.in-Some.ensures.steps.0 at c.loop-slot.invariant in
    let next = taken-next (λ t. Some t) c.loop-slot.tasks.items c.requires.filled.0 c.in-Some.slot
    (into_iter_items c.next.new.self) (left ∙ c.requires.filled.1) in
    c.in_default.not-Some next.0 next.1

pub loop-slot-preserved : goal.loop-slot-preserved
loop-slot-preserved c =
    rw (
      c.in_ok-push.ensures.items,
      map-append (λ t. Some t) c.loop-slot.tasks.items (c.in-Some-slot.task ∷ []),
      append_assoc,
      ← c.in-Some-slot.is,
    )
    (rw c.in-Some.ensures.steps.0 at c.loop-slot.invariant)

pub returns : goal.returns
returns c =
    let it = c.loop-slot.slot-iterator in
    let none : into_iter_items it ≡ [] =
    nil_from_length (into_iter_items it)
    (omega (arith, it.rest.ok.0, c.in-None.ensures.steps.0)) in
    record { same = sym (rw (none, append-nil) at c.loop-slot.invariant) }
