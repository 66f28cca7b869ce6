use Rattle.std.proofs.Common.{drop}
use Rattle.zs_engine.proofs.SlotLemmas.{Lifting}
use Rattle.zs_engine.proofs.slots.take_tasks.Given as goal

abbrev pub invariant-loop-number : goal.invariant-loop-number
invariant-loop-number l =
    Lifting l.fn.slots.items l.numbers l.slots.items (drop l.number-index l.numbers) l.tasks.items
