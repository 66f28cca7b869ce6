use Rattle.zs_term.proofs.Runs.{spells_one}
use Rattle.zs_term.proofs.laws.one_term.Goals as goal

pub returns : goal.returns
returns c = record { law = spells_one }
