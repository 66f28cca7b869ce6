use Rattle.zs_step.proofs.OutputKinds.{answer_of-has_kind}
use Rattle.zs_step.proofs.laws.outputs_have_kinds.Goals as goal

pub returns : goal.returns
returns c = record { value = answer_of-has_kind }
