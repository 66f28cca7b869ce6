use Rattle.zs_step.proofs.Histories.{first_moment-list}
use Rattle.zs_step.proofs.leaves.first_moment.Goals as goal

pub returns : goal.returns
returns c = record { value = first_moment-list _ _ c.requires.some }
