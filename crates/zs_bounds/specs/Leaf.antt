-- The plain value of a leaf.
use Rattle.zs_term.specs.Schedule.{Leaf as Bare, forever, recurs, spaced, fixed, exponential}
use Rattle.zs_term.specs.Schedule.{fibonacci, identity, elapsed, linear, windowed}
use Rattle.zs_bounds.specs.declared.leaves.Leaf.{Leaf}
use Rattle.zs_bounds.specs.declared.leaves.Leaf.TheVariants.{Forever, Recurs, Spaced, Fixed}
use Rattle.zs_bounds.specs.declared.leaves.Leaf.TheVariants.{Exponential, Fibonacci, Identity}
use Rattle.zs_bounds.specs.declared.leaves.Leaf.TheVariants.{Elapsed, Linear, Windowed}

-- the leaf of a schedule that a node's leaf represents
abbrev pub bare_leaf : Leaf → Bare
bare_leaf Forever = forever
bare_leaf (Recurs k) = recurs k
bare_leaf (Spaced d) = spaced d
bare_leaf (Fixed p) = fixed p
bare_leaf (Exponential b f) = exponential b f
bare_leaf (Fibonacci o) = fibonacci o
bare_leaf Identity = identity
bare_leaf Elapsed = elapsed
bare_leaf (Linear n) = linear n
bare_leaf (Windowed n) = windowed n
