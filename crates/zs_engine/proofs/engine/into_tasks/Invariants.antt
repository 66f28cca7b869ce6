use Rattle.std.proofs.Common.{◌≡◌, ◌++◌}
use Rattle.std.specs.Vec.Iter.{into_iter_items}
use Rattle.zs_engine.proofs.SlotLemmas.{full}
use Rattle.zs_engine.proofs.engine.into_tasks.Given as goal

abbrev pub invariant-loop-slot : goal.invariant-loop-slot
invariant-loop-slot l = full l.tasks.items ++ into_iter_items l.slot-iterator ≡ l.fn.slots.items
