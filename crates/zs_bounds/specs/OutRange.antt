-- The plain value of a range of outputs, whatever memory it is in.
use Rattle.zs_bounds.specs.declared.ranges.OutRange.{OutRange}
use Rattle.zs_bounds.specs.declared.ranges.OutRange.TheVariants.{Nothing, Numbers, Pairs', Sides'}
use Rattle.zs_bounds.specs.declared.ranges.OutRange.TheVariants.{Lists, Anything}
use Rattle.zs_bounds.specs.OutputRange.{OutputRange, nothing, numbers, pairs, sides, lists}
use Rattle.zs_bounds.specs.OutputRange.{anything}
use Rattle.zs_bounds.specs.declared.decisions.Decisions.{Decisions}
use Rattle.zs_bounds.specs.AnswerRange.{AnswerRange, range}

-- the plain value of a range
abbrev pub output_range_of : OutRange → OutputRange
output_range_of Nothing = nothing
output_range_of (Numbers s) = numbers s
output_range_of (Pairs' p a q b) = pairs (output_range_of a) (output_range_of b)
output_range_of (Sides' p a q b) = sides (output_range_of a) (output_range_of b)
output_range_of (Lists s) = lists s
output_range_of Anything = anything

-- and of a result
abbrev pub result_range : OutRange × Decisions → AnswerRange
result_range r = range (output_range_of r.0) r.1
