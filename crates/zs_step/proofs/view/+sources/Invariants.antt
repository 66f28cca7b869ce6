use Rattle.std.proofs.Common.{◌+◌, ◌*◌}
use Rattle.zs_step.specs.Numbers.{height}
use Rattle.zs_step.proofs.view.+sources.Given as goal

abbrev pub decreases-source : goal.decreases-source
decreases-source l = 2 * height l.state.now

abbrev pub decreases-piece : goal.decreases-piece
decreases-piece l = 2 * height l.part.now + 1
