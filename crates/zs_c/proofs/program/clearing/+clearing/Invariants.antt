use Rattle.std.proofs.Common.{◌+◌, ◌*◌}
use Rattle.zs_c.proofs.program.clearing.+clearing.Given as goal

-- a part is one level deeper
abbrev pub decreases-clear : goal.decreases-clear
decreases-clear l = 2 * l.levels

abbrev pub decreases-clear_parts : goal.decreases-clear_parts
decreases-clear_parts l = 2 * l.levels + 1
