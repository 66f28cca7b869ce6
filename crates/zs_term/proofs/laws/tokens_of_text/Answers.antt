use Rattle.zs_term.proofs.Places.{tokens_of_text}
use Rattle.zs_term.proofs.laws.tokens_of_text.Goals as goal

pub returns : goal.returns
returns c = record { law = tokens_of_text }
