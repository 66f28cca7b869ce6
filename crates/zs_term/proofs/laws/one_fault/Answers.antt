use Rattle.zs_term.proofs.Verdicts.{one_fault}
use Rattle.zs_term.proofs.laws.one_fault.Goals as goal

pub returns : goal.returns
returns c = record { law = one_fault }
