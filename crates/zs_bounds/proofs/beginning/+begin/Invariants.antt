use Rattle.zs_term.specs.Schedule.{weight}
use Rattle.zs_bounds.specs.Node.{node_schedule}
use Rattle.zs_bounds.proofs.beginning.+begin.Given as goal

abbrev pub decreases-begin : goal.decreases-begin
decreases-begin l = weight (node_schedule l.node.now)
