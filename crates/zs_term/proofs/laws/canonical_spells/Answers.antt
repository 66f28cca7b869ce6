use Rattle.zs_term.proofs.Canonical.{canonical_spells}
use Rattle.zs_term.proofs.laws.canonical_spells.Goals as goal

pub returns : goal.returns
returns c = record { law = canonical_spells }
