use Rattle.std.proofs.Common.{◌+◌, ◌*◌}
use Rattle.zs_term.specs.Schedule.{schedule_of, weight}
use Rattle.zs_c.proofs.program.coding.+coding.Given as goal

-- a part is a smaller term
abbrev pub decreases-write_code : goal.decreases-write_code
decreases-write_code l = 2 * weight (schedule_of l.term.now)

abbrev pub decreases-write_parts : goal.decreases-write_parts
decreases-write_parts l = 2 * (weight (schedule_of l.a.now) + weight (schedule_of l.b.now)) + 1
