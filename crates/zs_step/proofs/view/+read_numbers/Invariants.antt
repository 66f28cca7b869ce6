use Rattle.zs_step.specs.Numbers.{height}
use Rattle.zs_step.proofs.view.+read_numbers.Given as goal

abbrev pub decreases-read_numbers : goal.decreases-read_numbers
decreases-read_numbers l = height l.state.now
