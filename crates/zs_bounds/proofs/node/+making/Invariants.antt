use Rattle.std.proofs.Common.{◌+◌, ◌*◌}
use Rattle.zs_term.specs.Schedule.{schedule_of, weight}
use Rattle.zs_bounds.proofs.node.+making.Given as goal

-- `part` makes the node of the same term, so its measure is one more
abbrev pub decreases-part : goal.decreases-part
decreases-part l = 2 * weight (schedule_of l.term.now) + 1

abbrev pub decreases-node_of : goal.decreases-node_of
decreases-node_of l = 2 * weight (schedule_of l.term.now)
