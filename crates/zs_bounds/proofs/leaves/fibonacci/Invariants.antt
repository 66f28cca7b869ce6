use Rattle.std.proofs.Common.{◌≡◌, ◌*◌, suc}
use Rattle.zs_term.specs.Saturating.{saturated}
use Rattle.zs_step.specs.Answer.{fibonacci_number}
use Rattle.zs_bounds.proofs.leaves.fibonacci.Given as goal

abbrev pub invariant-loop : goal.invariant-loop
invariant-loop l = record {
  product : l.product ≡ saturated (l.one * fibonacci_number l.counter);
  next : l.next ≡ saturated (l.one * fibonacci_number (suc l.counter));
}
