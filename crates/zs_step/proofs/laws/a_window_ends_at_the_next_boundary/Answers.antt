use Rattle.std.proofs.Common.{ap}
use Rattle.zs_step.specs.declared.decision.Decision.TheVariants.{Next}
use Rattle.zs_step.specs.History.{first_moment, last_moment}
use Rattle.zs_step.proofs.Boundaries.{first-last, window_end-is}
use Rattle.zs_step.proofs.laws.a_window_ends_at_the_next_boundary.Goals as goal

pub returns : goal.returns
returns c = record {
  value = λ n x h pos order b. ap (λ m. Next m)
      (window_end-is n (first_moment h) (last_moment h) x pos (first-last h order) b);
}
