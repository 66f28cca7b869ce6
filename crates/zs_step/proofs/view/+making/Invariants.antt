use Rattle.std.proofs.Common.{◌+◌, ◌*◌}
use Rattle.zs_step.specs.Numbers.{height}
use Rattle.zs_step.proofs.view.+making.Given as goal

abbrev pub decreases-make_out : goal.decreases-make_out
decreases-make_out l = 2 * height l.state.now

abbrev pub decreases-make_both : goal.decreases-make_both
decreases-make_both l = 2 * (height l.parts.now.0 + height l.parts.now.1) + 1
