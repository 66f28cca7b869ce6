use Rattle.std.proofs.Common.{None, Some, refl, ap, ◌∙◌}
use Rattle.zs_c.specs.Plan.{plan_of}
use Rattle.zs_c.proofs.PlanTurns.{turn-planned, late-plan, some-plan}
use Rattle.zs_c.proofs.program.planning.plan_turn.Goals as goal

pub returns-in-Stop-clause-planned : goal.returns-in-Stop-clause-planned
returns-in-Stop-clause-planned c t opens =
    let s = c.run_step in
    turn-planned None t c.args.turn c.moment.result c.args.state.now s.new.state s.result
    s.new.visits 1 0 c.moment.ensures.value (s.ensures.stepped t opens)
    (ap (plan_of c.args.turn c.moment.result) c.in-Stop.is) refl refl

pub returns-in-None-clause-planned : goal.returns-in-None-clause-planned
returns-in-None-clause-planned c t opens =
    let s = c.run_step in
    turn-planned None t c.args.turn c.moment.result c.args.state.now s.new.state s.result
    s.new.visits 1 0 c.moment.ensures.value (s.ensures.stepped t opens)
    (ap (plan_of c.args.turn c.moment.result) c.in-Next.is ∙ late-plan c.args.turn
    c.moment.result c.in-Next.next c.in-None.ensures.none) refl refl

pub returns-in-Some-clause-planned : goal.returns-in-Some-clause-planned
returns-in-Some-clause-planned c t opens =
    let s = c.run_step in
    turn-planned (Some c.in-Some.planned) t c.args.turn c.moment.result c.args.state.now s.new.state
    s.result s.new.visits 0 c.in-Some.planned c.moment.ensures.value (s.ensures.stepped t opens)
    (ap (plan_of c.args.turn c.moment.result) c.in-Next.is ∙ some-plan c.args.turn
    c.moment.result c.in-Next.next c.in-Some.planned c.in-Some.ensures.some
    c.in-Some.ensures.counted) refl refl
