use Rattle.std.specs.Prelude.{refl}
use Rattle.zs_bounds_lines.specs.Words.{version_text}
use Rattle.zs_bounds_lines.proofs.program.version.Goals as goal

pub returns : goal.returns
unfolding version_text
returns c = record { text = refl }
