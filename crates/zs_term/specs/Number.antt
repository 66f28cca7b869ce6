-- Numbers that fit in 64 bits.
use Rattle.std.specs.Prelude.{ℕ, nat_lt, ◌^◌, ◌<◌, Option, Some, None, if◌then◌else◌}
use Rattle.zs_term.specs.declared.term.Func.{Func}
use Rattle.zs_term.specs.declared.term.Func.TheVariants.{First, Second, Size, Merge, Const, Add}
use Rattle.zs_term.specs.declared.term.Func.TheVariants.{Mul}
use Rattle.zs_term.specs.Schedule.{Schedule, leaf, two, over, Leaf, plain, counted, exponential}
use Rattle.zs_term.specs.Schedule.{Modifier, while_input, while_output, collect_all, mapped}
use Rattle.zs_term.specs.Schedule.{reset_when}

-- a number, if it fits in 64 bits
abbrev pub fit : ℕ → Option ℕ
fit n = if nat_lt n (2 ^ 64) then Some n else None

-- the number of a function fits, if it has one
abbrev pub FuncFits : Func → Type 0
FuncFits First = Unit {0}
FuncFits Second = Unit {0}
FuncFits Size = Unit {0}
FuncFits Merge = Unit {0}
FuncFits (Const n) = n < 2 ^ 64
FuncFits (Add n) = n < 2 ^ 64
FuncFits (Mul n) = n < 2 ^ 64

-- each number of a leaf fits
abbrev pub LeafFits : Leaf → Type 0
LeafFits (plain p) = Unit {0}
LeafFits (counted c n) = n < 2 ^ 64
LeafFits (exponential b f) = (b < 2 ^ 64) × (f < 2 ^ 64)

-- the number of a modifier fits, if it has one
abbrev pub ModifierFits : Modifier → Type 0
ModifierFits (while_input t) = t.than < 2 ^ 64
ModifierFits (while_output p t) = t.than < 2 ^ 64
ModifierFits collect_all = Unit {0}
ModifierFits (mapped f) = FuncFits f
ModifierFits (reset_when p t) = t.than < 2 ^ 64

-- each number of a term fits
abbrev pub HasFittingNumbers : Schedule → Type 0
HasFittingNumbers (leaf l) = LeafFits l
HasFittingNumbers (two p a b) = HasFittingNumbers a × HasFittingNumbers b
HasFittingNumbers (over s m) = HasFittingNumbers s × ModifierFits m
