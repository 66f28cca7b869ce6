use Rattle.std.proofs.Common.{rules, ◌≡◌, true, false, subst, IsOk}
use Rattle.zs_step.specs.Compiled.{compiled_schedule}
use Rattle.zs_step.proofs.Steps.{bare_listless}
use Rattle.zs_step.proofs.compiled.Compiled.step.Goals as goal

pub returns-in_err-decision-clause-steps : goal.returns-in_err-decision-clause-steps
returns-in_err-decision-clause-steps c = record {
  answered = search rules;
  stands = search rules;
  succeeds = λ h stood bare.
      let none : false ≡ true =
      subst (λ r. IsOk r) c.in_err-decision.was (c.advance.ensures.steps.succeeds h stood
      (bare_listless (compiled_schedule c.args.self.now) bare)) in
      cc;
  seen = search rules;
  breaks = search rules;
  stays = search rules;
}
