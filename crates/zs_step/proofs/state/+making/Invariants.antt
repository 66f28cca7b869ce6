use Rattle.std.proofs.Common.{◌+◌, ◌*◌}
use Rattle.zs_term.specs.Schedule.{schedule_of, weight}
use Rattle.zs_step.proofs.state.+making.Given as goal

-- a part is a smaller term
abbrev pub decreases-part : goal.decreases-part
decreases-part l = 2 * weight (schedule_of l.term.now) + 1

abbrev pub decreases-parts : goal.decreases-parts
decreases-parts l = 2 * (weight (schedule_of l.first.now) + weight (schedule_of l.second.now)) + 1

abbrev pub decreases-state_of : goal.decreases-state_of
decreases-state_of l = 2 * weight (schedule_of l.term.now)
