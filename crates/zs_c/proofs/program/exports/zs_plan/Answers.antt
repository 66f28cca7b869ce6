use Rattle.std.proofs.Common.{◌/◌, refl}
use Rattle.zs_c.specs.Plan.{plan_after}
use Rattle.zs_c.proofs.PlanTurns.{turn-fair, turn-denied}
use Rattle.zs_c.proofs.PlannedRuns.{planned-countable, stays-within}
use Rattle.zs_c.proofs.program.exports.zs_plan.Goals as goal

pub returns-in-Ok-clause-planned : goal.returns-in-Ok-clause-planned
returns-in-Ok-clause-planned c small t program =
    c.plan_turn.ensures.planned t (c.in-Ok.ensures.ok t program)

pub returns-in-Ok-clause-fair : goal.returns-in-Ok-clause-fair
returns-in-Ok-clause-fair c none t program h planned kept all =
    let told = (c.plan_turn.ensures.planned t (c.in-Ok.ensures.ok t program)).plan h
    planned kept all in
    turn-fair t h planned c.args.turn.now c.plan_turn.new.state c.plan_turn.result
    c.plan_turn.new.begin c.in-Ok.ensures.counted.draw told none

pub returns-in-Ok-clause-bounded : goal.returns-in-Ok-clause-bounded
returns-in-Ok-clause-bounded c small t d h planned program kept was allows keeps =
    let told =
    (c.plan_turn.ensures.planned t (c.in-Ok.ensures.ok t program)).plan h (planned / 1000000) kept
    (planned-countable t d h planned was) in
    stays-within t d h planned c.args.turn.now c.plan_turn.result c.plan_turn.new.begin
    (plan_after t h (planned / 1000000) c.args.turn.now)
    allows c.in-Ok.ensures.counted was keeps refl told.numbered told.begins

pub returns-in-Err-clause-succeeds : goal.returns-in-Err-clause-succeeds
returns-in-Err-clause-succeeds c t h planned program kept plannable =
    absurd
    (turn-denied t h planned c.args.program.now c.args.state.now c.args.turn.now c.in-Err.why
    program kept plannable.0 c.open_for_turn.ensures.word plannable.1 c.in-Err.ensures.err)
