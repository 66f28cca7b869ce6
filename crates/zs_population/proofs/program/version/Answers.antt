use Rattle.std.specs.Prelude.{refl}
use Rattle.zs_population.specs.Words.{version_text}
use Rattle.zs_population.proofs.program.version.Goals as goal

pub returns : goal.returns
unfolding version_text
returns c = record { text = refl }
