-- The size of a range of outputs, which its walks go down.
use Rattle.std.specs.Prelude.{ℕ, ◌+◌}
use Rattle.zs_bounds.specs.OutputRange.{OutputRange, nothing, numbers, pairs, sides, lists}
use Rattle.zs_bounds.specs.OutputRange.{anything}

-- the number of ranges in a range, with itself
abbrev pub range_size : OutputRange → ℕ
range_size nothing = 1
range_size (numbers s) = 1
range_size (pairs a b) = 1 + range_size a + range_size b
range_size (sides a b) = 1 + range_size a + range_size b
range_size (lists s) = 1
range_size anything = 1
