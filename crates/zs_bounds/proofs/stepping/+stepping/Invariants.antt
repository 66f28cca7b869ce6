use Rattle.std.proofs.Common.{◌+◌, ◌*◌}
use Rattle.zs_term.specs.Schedule.{weight}
use Rattle.zs_bounds.specs.Node.{node_schedule}
use Rattle.zs_bounds.proofs.stepping.+stepping.Given as goal

-- a part weighs less
abbrev pub decreases-step : goal.decreases-step
decreases-step l = 3 * weight (node_schedule l.node.now)

abbrev pub decreases-step_and_then : goal.decreases-step_and_then
decreases-step_and_then l =
    3 * (weight (node_schedule l.first.now) + weight (node_schedule l.second.now)) + 2

abbrev pub decreases-step_if : goal.decreases-step_if
decreases-step_if l = 3 * weight (node_schedule l.part.now) + 1
