use Rattle.std.proofs.Common.{length}
use Rattle.zs_term.proofs.dropping.+whole_sizes.Given as goal

abbrev pub decreases-whole_sizes : goal.decreases-whole_sizes
decreases-whole_sizes l = length l.joined.now
