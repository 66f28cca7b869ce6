use Rattle.std.proofs.Common.{◌+◌, ◌*◌}
use Rattle.zs_c.proofs.program.stepping.+stepping.Given as goal

-- a part is one level deeper
abbrev pub decreases-step_code : goal.decreases-step_code
decreases-step_code l = 2 * l.levels

abbrev pub decreases-step_parts : goal.decreases-step_parts
decreases-step_parts l = 2 * l.levels + 1

abbrev pub decreases-step_and_then : goal.decreases-step_and_then
decreases-step_and_then l = 2 * l.levels + 1
