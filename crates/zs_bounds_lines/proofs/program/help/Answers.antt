use Rattle.std.specs.Prelude.{refl}
use Rattle.zs_bounds_lines.specs.Words.{help_text}
use Rattle.zs_bounds_lines.proofs.program.help.Goals as goal

pub returns : goal.returns
unfolding help_text
returns c = record { text = refl }
