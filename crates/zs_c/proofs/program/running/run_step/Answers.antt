use Rattle.zs_c.proofs.Running.{opened-safe, opened-stepped}
use Rattle.zs_c.proofs.program.running.run_step.Goals as goal

pub returns-clause-stepped : goal.returns-clause-stepped
returns-clause-stepped c t opens =
    let s = c.step_code-decision in
    opened-stepped c.args.opened t opens c.args.state.now s.new.words c.args.step.now.moment
    c.args.step.now.input s.new.visits s.result c.requires.fits s.auto.words s.ensures.steps

pub returns-clause-safe : goal.returns-clause-safe
returns-clause-safe c program is =
    opened-safe c.args.opened program c.args.state.now c.step_code-decision.new.words
    c.args.step.now.moment is c.requires.fits c.step_code-decision.auto.words
