use Rattle.std.proofs.Common.{rules, ◌≡◌, ◌∙◌}
use Rattle.zs_step.specs.State.{state_schedule, Represents}
use Rattle.zs_step.proofs.Answering.{is-result}
use Rattle.zs_step.proofs.compiled.Compiled.advance.Goals as goal

pub returns-clause-steps : goal.returns-clause-steps
returns-clause-steps c = record {
  answered = λ h stood.
      let joined : Represents c.else-not-self.self.1.0 h = search rules in
      let same : state_schedule c.else-not-self.self.1.0 ≡ state_schedule c.args.self.now.state =
      search rules in
      is-result c.else-not-self.self.1.0 c.step_node-decision.new.state c.args.now c.args.input _
      c.step_node-decision.result _ h
      c.step_node-decision.ensures.answers c.step_node-decision.ensures.counts joined
      (same ∙ stood.made_of);
  stands = search rules;
  succeeds = search rules;
  seen = search rules;
  breaks = search rules;
  stays = search rules;
}
