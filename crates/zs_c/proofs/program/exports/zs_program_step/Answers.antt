use Rattle.std.proofs.Common.{sym, subst}
use Rattle.zs_c.specs.Numbers.{decision_number}
use Rattle.zs_c.specs.Programs.{IsProgramStepped}
use Rattle.zs_c.proofs.program.exports.zs_program_step.Goals as goal

pub returns-in-Ok-clause-stepped : goal.returns-in-Ok-clause-stepped
returns-in-Ok-clause-stepped c small t program =
    let s = c.run_step in
    let parts = c.decision_parts in
    subst (λ n. IsProgramStepped t c.args.state.now s.new.state (c.args.moment, c.args.input) n
    parts.result.1 s.new.visits) (sym parts.ensures.number)
    (subst (λ m. IsProgramStepped t c.args.state.now s.new.state (c.args.moment, c.args.input)
    (decision_number s.result) m
    s.new.visits) (sym parts.ensures.next) (s.ensures.stepped t (c.in-Ok.ensures.ok t program)))
