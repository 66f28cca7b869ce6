-- Which schedules are stepped without memory allocation.
use Rattle.std.specs.Prelude.{Bool, true, false, ◌&&◌}
use Rattle.zs_term.specs.Schedule.{Schedule, leaf, two, over, Modifier, while_input, while_output}
use Rattle.zs_term.specs.Schedule.{collect_all, mapped, reset_when}

-- a schedule without parts
abbrev pub is_leaf : Schedule → Bool
is_leaf (leaf l) = true
is_leaf (two p a b) = false
is_leaf (over s m) = false

-- the same for a schedule under a modifier: only a list takes memory
abbrev pub is_bare_over : Modifier → Bool → Bool
is_bare_over (while_input t) bare = bare
is_bare_over (while_output k t) bare = bare
is_bare_over collect_all bare = false
is_bare_over (mapped f) bare = bare
is_bare_over (reset_when k t) bare = bare

-- a schedule whose outputs are numbers: it makes no pair, no side of a choice and no list
abbrev pub is_bare : Schedule → Bool
is_bare (leaf l) = true
is_bare (two p a b) = false
is_bare (over s m) = is_bare_over m (is_bare s)

-- a schedule that collects no outputs
abbrev pub keeps_no_list : Schedule → Bool
keeps_no_list (leaf l) = true
keeps_no_list (two p a b) = keeps_no_list a && keeps_no_list b
keeps_no_list (over s m) = is_bare_over m (keeps_no_list s)
