use Rattle.std.proofs.Common.{ap, length}
use Rattle.zs_term.specs.Output.{number}
use Rattle.zs_term.specs.Saturating.{saturated}
use Rattle.zs_step.specs.declared.decision.Decision.TheVariants.{Next}
use Rattle.zs_step.specs.History.{last_moment, earlier}
use Rattle.zs_step.specs.Answer.{answer, only_if}
use Rattle.zs_step.proofs.Moments.{below-saturated}
use Rattle.zs_step.proofs.laws.recurs_is_forever_below_its_limit.Goals as goal

pub returns : goal.returns
returns c = record {
  value = λ k h within.
      ap (λ b. answer (number (saturated (length (earlier h)))) (only_if b (Next (last_moment h))))
      (below-saturated (length (earlier h)) k within);
}
