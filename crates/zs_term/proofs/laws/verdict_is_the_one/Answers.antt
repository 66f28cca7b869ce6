use Rattle.zs_term.proofs.Computed.{verdict_is_the_one}
use Rattle.zs_term.proofs.laws.verdict_is_the_one.Goals as goal

pub returns : goal.returns
returns c = record { law = verdict_is_the_one }
