use Rattle.std.proofs.Common.{◌+◌, ◌*◌}
use Rattle.zs_c.proofs.program.outputs.+viewing.Given as goal

-- a part is one level deeper
abbrev pub decreases-read_view : goal.decreases-read_view
decreases-read_view l = 2 * l.place.levels

abbrev pub decreases-read_mapped : goal.decreases-read_mapped
decreases-read_mapped l = 2 * l.part.levels + 1
