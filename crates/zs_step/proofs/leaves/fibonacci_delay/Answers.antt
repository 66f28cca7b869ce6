use Rattle.std.proofs.Common.{◌≡◌, suc, ◌+◌, ◌*◌, arith, ap, ◌∙◌}
use Rattle.zs_term.specs.Saturating.{saturated}
use Rattle.zs_step.specs.Answer.{fibonacci_number}
use Rattle.zs_step.proofs.Sats.{fibonacci_number-turn}
use Rattle.zs_step.proofs.leaves.fibonacci_delay.Goals as goal

pub loop-preserved : goal.loop-preserved
loop-preserved c =
    let n : suc c.loop.counter ≡ c.loop.counter + 1 = omega arith in
    let m : suc (suc c.loop.counter) ≡ suc (c.loop.counter + 1) = omega arith in
    record {
      delay = c.loop.invariant.next ∙ ap (λ k. saturated (c.args.one * fibonacci_number k)) n;
      next = fibonacci_number-turn c.args.one c.loop.counter c.loop.delay c.loop.next
          c.saturating_add-sum.result c.loop.invariant.delay c.loop.invariant.next
          c.saturating_add-sum.ensures ∙ ap (λ k. saturated (c.args.one * fibonacci_number k)) m;
    }
