use Rattle.std.proofs.Common.{◌∷◌, ap}
use Rattle.zs_term.specs.Saturating.{saturated}
use Rattle.zs_step.specs.declared.decision.Decision.TheVariants.{Next}
use Rattle.zs_step.specs.History.{first_moment}
use Rattle.zs_step.specs.Answer.{next_run}
use Rattle.zs_step.proofs.Boundaries.{first-last, first-boundary, run_after-is, run_after-behind}
use Rattle.zs_step.proofs.laws.a_fixed_run_is_at_the_next_boundary.Goals as goal

pub returns : goal.returns
returns c = record {
  first = λ n x p pos b. ap (λ m. Next (saturated m)) (first-boundary n p.0 x pos b);
  value = λ n x p q h pos r b. ap (λ m. Next m)
      (run_after-is n (first_moment (q ∷ h)) (next_run n (q ∷ h)) p.0 x pos
      (first-last (p ∷ (q ∷ h)) r.order) r.timely b);
  behind = λ n p q h late. ap (λ m. Next m)
      (run_after-behind n (first_moment (q ∷ h)) (next_run n (q ∷ h)) p.0 late);
}
