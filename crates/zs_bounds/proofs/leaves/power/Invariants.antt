use Rattle.std.proofs.Common.{◌≡◌, ◌*◌, ◌^◌}
use Rattle.zs_term.specs.Saturating.{saturated}
use Rattle.zs_bounds.proofs.leaves.power.Given as goal

abbrev pub invariant-loop : goal.invariant-loop
invariant-loop l = l.product ≡ saturated (l.base * l.factor ^ l.counter)
