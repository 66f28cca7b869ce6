use Rattle.zs_term.proofs.Verdicts.{one_verdict}
use Rattle.zs_term.proofs.laws.one_verdict.Goals as goal

pub returns : goal.returns
returns c = record { law = one_verdict }
