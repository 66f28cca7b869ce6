use Rattle.zs_bounds.specs.OutRange.{output_range_of}
use Rattle.zs_bounds.specs.Sizes.{range_size}
use Rattle.zs_bounds.proofs.ranges.+copying.Given as goal

-- a part of a range is smaller
abbrev pub decreases-copy_range : goal.decreases-copy_range
decreases-copy_range l = range_size (output_range_of l.range.now)
