use Rattle.std.specs.Prelude.{reverse}
use Rattle.zs_pool.proofs.Cuts.{Cutting}
use Rattle.zs_pool.proofs.rounds.cut_into.Given as goal

abbrev pub invariant-loop-number : goal.invariant-loop-number
invariant-loop-number l =
    Cutting l.grain l.number l.fn.tasks.items l.tasks.items (reverse l.batches.items)
