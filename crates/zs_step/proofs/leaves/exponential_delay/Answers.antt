use Rattle.std.proofs.Common.{◌≡◌, suc, ◌+◌, ◌-◌, ◌*◌, ◌^◌, arith, ap, ◌∙◌}
use Rattle.zs_term.specs.Saturating.{saturated}
use Rattle.zs_step.proofs.Sats.{power-turn}
use Rattle.zs_step.proofs.leaves.exponential_delay.Goals as goal

pub loop-preserved : goal.loop-preserved
loop-preserved c =
    let n : suc (c.loop.counter - 1) ≡ c.loop.counter + 1 - 1 = omega arith in
    power-turn c.args.base c.args.factor (c.loop.counter - 1) c.loop.delay
    c.saturating_mul-delay.result c.loop.invariant c.saturating_mul-delay.ensures
    ∙ ap (λ k. saturated (c.args.base * c.args.factor ^ k)) n
