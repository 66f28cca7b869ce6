use Rattle.std.proofs.Common.{◌+◌, ◌*◌, max}
use Rattle.zs_c.proofs.program.output_text.+texts.Given as goal

-- a part of an output is one level deeper
abbrev pub decreases-put_output : goal.decreases-put_output
decreases-put_output l = 2 * l.place.levels

abbrev pub decreases-put_pair : goal.decreases-put_pair
decreases-put_pair l = 2 * max l.first.levels l.second.levels + 1

abbrev pub decreases-put_side : goal.decreases-put_side
decreases-put_side l = 2 * l.part.levels + 1
