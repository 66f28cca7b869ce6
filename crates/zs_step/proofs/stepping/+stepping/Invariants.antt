use Rattle.std.proofs.Common.{◌+◌, ◌*◌}
use Rattle.zs_term.specs.Schedule.{weight}
use Rattle.zs_step.specs.State.{state_schedule}
use Rattle.zs_step.proofs.stepping.+stepping.Given as goal

-- a step and a reset don't change the schedule, and so not its weight
abbrev pub decreases-step_node : goal.decreases-step_node
decreases-step_node l = 2 * weight (state_schedule l.state.now)

abbrev pub decreases-step_both : goal.decreases-step_both
decreases-step_both l =
    2 * (weight (state_schedule l.parts.now.0) + weight (state_schedule l.parts.now.1)) + 1

abbrev pub decreases-step_either : goal.decreases-step_either
decreases-step_either l =
    2 * (weight (state_schedule l.parts.now.0) + weight (state_schedule l.parts.now.1)) + 1

abbrev pub decreases-step_and_then : goal.decreases-step_and_then
decreases-step_and_then l =
    2 * (weight (state_schedule l.parts.now.0) + weight (state_schedule l.parts.now.1)) + 1

abbrev pub decreases-step_reset_when : goal.decreases-step_reset_when
decreases-step_reset_when l = 2 * weight (state_schedule l.part.now) + 1
