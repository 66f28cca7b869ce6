use Rattle.zs_step.proofs.Moments.{answer_of-late}
use Rattle.zs_step.proofs.laws.decisions_are_not_in_the_past.Goals as goal

pub returns : goal.returns
returns c = record { value = answer_of-late }
