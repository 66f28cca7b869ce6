-- The plain value of a place in an output, whatever memory the place is in.
use Rattle.zs_bounds.specs.LatestStep.{Spot, here, in_first, in_second}
use Rattle.zs_bounds.specs.declared.latest.Place.{Place}
use Rattle.zs_bounds.specs.declared.latest.Place.TheVariants.{Whole, First', Second'}

-- the place itself
abbrev pub spot_of : Place → Spot
spot_of Whole = here
spot_of (First' p rest) = in_first (spot_of rest)
spot_of (Second' p rest) = in_second (spot_of rest)
