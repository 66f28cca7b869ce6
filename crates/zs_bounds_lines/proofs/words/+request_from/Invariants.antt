use Rattle.std.proofs.Common.{length}
use Rattle.zs_bounds_lines.proofs.words.+request_from.Given as goal

abbrev pub decreases-request_from : goal.decreases-request_from
decreases-request_from l = length l.words.now
