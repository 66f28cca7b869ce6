-- Limits that a schedule's form shows, and how they are joined: of the time since the first step up
-- to a step that goes on, as 59999 ms of `elapsed.whileOutput(< 60000)`.
use Rattle.std.specs.Prelude.{ℕ, ◌+◌, ◌-◌, min, max, nat_le, Bool, true, false, if◌then◌else◌}
use Rattle.std.specs.Prelude.{Option, Some, None}
use Rattle.zs_term.specs.Saturating.{max_moment}
use Rattle.zs_term.specs.Schedule.{Schedule, Leaf, plain, counted, exponential, leaf, two, over}
use Rattle.zs_term.specs.Schedule.{both, either, and_then}
use Rattle.zs_term.specs.Schedule.{while_input, while_output, collect_all, mapped, reset_when}
use Rattle.zs_term.specs.Output.{Output, first_in, second_in}
use Rattle.zs_term.specs.declared.forms.Plain.TheVariants.{Forever, Identity, Elapsed}
use Rattle.zs_term.specs.declared.term.Test.{Test}
use Rattle.zs_term.specs.declared.term.Cmp.{Cmp}
use Rattle.zs_term.specs.declared.term.Cmp.TheVariants.{Lt, Le, Eq, Ne, Gt, Ge}
use Rattle.zs_term.specs.declared.term.Pick.{Pick}
use Rattle.zs_term.specs.declared.term.Pick.TheVariants.{Whole, First as PickFirst}
use Rattle.zs_term.specs.declared.term.Pick.TheVariants.{Second as PickSecond, Size as PickSize}
use Rattle.zs_term.specs.declared.term.Func.TheVariants.{First, Second, Size, Merge, Const, Add}
use Rattle.zs_term.specs.declared.term.Func.TheVariants.{Mul}

-- A place in an output: all of it, or a place in the first or in the second part of a pair.
pub data Spot : Type 0 where
  here : Spot
  in_first : Spot → Spot
  in_second : Spot → Spot

-- what an output has in a place
abbrev pub part_at : Spot → Output → Output
part_at here v = v
part_at (in_first p) v = part_at p (first_in v)
part_at (in_second p) v = part_at p (second_in v)

-- whether a leaf returns the time since the first step
abbrev pub is_elapsed : Leaf → Bool
is_elapsed (plain Forever) = false
is_elapsed (plain Identity) = false
is_elapsed (plain Elapsed) = true
is_elapsed (counted c n) = false
is_elapsed (exponential b f) = false

-- Whether a schedule's form shows that its outputs have the time since the first step in a place.
abbrev pub shows_time : Schedule → Spot → Bool
shows_time (leaf l) here = is_elapsed l
shows_time (leaf l) (in_first p) = false
shows_time (leaf l) (in_second p) = false
shows_time (two both a b) here = false
shows_time (two both a b) (in_first p) = shows_time a p
shows_time (two both a b) (in_second p) = shows_time b p
shows_time (two either a b) here = false
shows_time (two either a b) (in_first p) = shows_time a p
shows_time (two either a b) (in_second p) = shows_time b p
shows_time (two and_then a b) p = false
shows_time (over s (while_input t)) p = shows_time s p
shows_time (over s (while_output k t)) p = shows_time s p
shows_time (over s collect_all) p = false
shows_time (over s (mapped First)) p = shows_time s (in_first p)
shows_time (over s (mapped Second)) p = shows_time s (in_second p)
shows_time (over s (mapped Size)) p = false
shows_time (over s (mapped Merge)) p = false
shows_time (over s (mapped (Const n))) p = false
shows_time (over s (mapped (Add n))) p = false
shows_time (over s (mapped (Mul n))) p = false
shows_time (over s (reset_when k t)) p = false

-- whether the number that a test reads is the time since the first step
abbrev pub reads_time : Pick → Schedule → Bool
reads_time Whole s = shows_time s here
reads_time PickFirst s = shows_time s (in_first here)
reads_time PickSecond s = shows_time s (in_second here)
reads_time PickSize s = false

-- a limit of the numbers that pass a test, if there is one
abbrev pub passing_limit : Cmp → ℕ → Option ℕ
passing_limit Lt n = Some (n - 1)
passing_limit Le n = Some n
passing_limit Eq n = Some n
passing_limit Ne n = None
passing_limit Gt n = None
passing_limit Ge n = None

-- the limit that a test sets, if it reads the time
abbrev pub limit_if : Bool → Test → Option ℕ
limit_if true t = passing_limit t.cmp t.than
limit_if false t = None

-- the smaller of two limits, or the one that there is
abbrev pub smaller_limit : Option ℕ → Option ℕ → Option ℕ
smaller_limit None y = y
smaller_limit (Some x) None = Some x
smaller_limit (Some x) (Some y) = Some (min x y)

-- the greater of two limits, if there are both
abbrev pub greater_limit : Option ℕ → Option ℕ → Option ℕ
greater_limit None y = None
greater_limit (Some x) None = None
greater_limit (Some x) (Some y) = Some (max x y)

-- the sum of two limits, if there are both and it is at most the greatest number
abbrev pub limit_sum : Option ℕ → Option ℕ → Option ℕ
limit_sum None y = None
limit_sum (Some x) None = None
limit_sum (Some x) (Some y) = (if nat_le (x + y) max_moment then Some (x + y) else None)
