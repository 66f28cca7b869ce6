use Rattle.zs_bounds.specs.OutRange.{output_range_of}
use Rattle.zs_bounds.specs.Sizes.{range_size}
use Rattle.zs_bounds.proofs.ranges.+joining.Given as goal

-- a part of a range is smaller
abbrev pub decreases-join : goal.decreases-join
decreases-join l = range_size (output_range_of l.other)
