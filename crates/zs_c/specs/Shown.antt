-- Which schedules show no list in their outputs, and up to which step 64 bits hold the sizes of
-- their lists. Words store the size of a list, and not its elements, which no operator reads.
use Rattle.std.specs.Prelude.{◌≡◌, ◌<◌, Bool, true, false, ◌&&◌, Option, Some, None, length}
use Rattle.zs_term.specs.Saturating.{max_moment}
use Rattle.zs_term.specs.Schedule.{Schedule}
use Rattle.zs_term.specs.OutputKind.{OutputKind, num, pair_of, sum_of, list_of}
use Rattle.zs_term.specs.Kinds.{kind_of}
use Rattle.zs_step.specs.History.{History}
use Rattle.zs_step.specs.Memory.{keeps_no_list}

-- whether outputs of a kind have no list in them
abbrev pub has_no_list : OutputKind → Bool
has_no_list num = true
has_no_list (pair_of a b) = has_no_list a && has_no_list b
has_no_list (sum_of a b) = has_no_list a && has_no_list b
has_no_list (list_of a) = false

-- whether there is a kind, and its outputs have no list in them
abbrev pub is_without_list : Option OutputKind → Bool
is_without_list (Some k) = has_no_list k
is_without_list None = false

-- a schedule whose output shows no list, by the kind that each operator passes on
abbrev pub shows_no_list : Schedule → Bool
shows_no_list t = is_without_list (kind_of t)

-- 64 bits hold the sizes of a schedule's lists after one more step, because fewer than 2^64 - 1
-- steps were made. A schedule without lists may make any number of steps.
abbrev pub IsCountable : Schedule → History → Type 0
IsCountable t h = keeps_no_list t ≡ false → length h < max_moment
