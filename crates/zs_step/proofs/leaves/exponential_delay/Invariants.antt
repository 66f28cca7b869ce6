use Rattle.std.proofs.Common.{◌≡◌, ◌*◌, ◌^◌, ◌-◌}
use Rattle.zs_term.specs.Saturating.{saturated}
use Rattle.zs_step.proofs.leaves.exponential_delay.Given as goal

abbrev pub invariant-loop : goal.invariant-loop
invariant-loop l = l.delay ≡ saturated (l.base * l.factor ^ (l.counter - 1))
