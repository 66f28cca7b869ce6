-- The kinds of terms: what a pick or a function needs, and which terms have such outputs.
use Rattle.std.specs.Prelude.{◌≡◌, Bool, true, false, Option, Some, None, IsSome, if◌then◌else◌}
use Rattle.zs_term.specs.declared.term.Pick.{Pick}
use Rattle.zs_term.specs.declared.term.Pick.TheVariants.{Whole, First as PickFirst}
use Rattle.zs_term.specs.declared.term.Pick.TheVariants.{Second as PickSecond, Size as PickSize}
use Rattle.zs_term.specs.declared.term.Func.{Func}
use Rattle.zs_term.specs.declared.term.Func.TheVariants.{First, Second, Size, Merge, Const, Add}
use Rattle.zs_term.specs.declared.term.Func.TheVariants.{Mul}
use Rattle.zs_term.specs.OutputKind.{OutputKind, num, pair_of, sum_of, list_of, is_same_kind}
use Rattle.zs_term.specs.Schedule.{Schedule, leaf, two, over, Pairing, both, either, and_then}
use Rattle.zs_term.specs.Schedule.{Modifier, while_input, while_output, collect_all, mapped}
use Rattle.zs_term.specs.Schedule.{reset_when, is_within_limits, has_factors, has_windows}

-- whether a kind is number
abbrev pub is_num : OutputKind → Bool
is_num num = true
is_num (pair_of a b) = false
is_num (sum_of a b) = false
is_num (list_of a) = false

-- whether a pick fits a kind
abbrev pub fits : Pick → OutputKind → Bool
fits Whole num = true
fits Whole (pair_of a b) = false
fits Whole (sum_of a b) = false
fits Whole (list_of a) = false
fits PickFirst num = false
fits PickFirst (pair_of a b) = is_num a
fits PickFirst (sum_of a b) = false
fits PickFirst (list_of a) = false
fits PickSecond num = false
fits PickSecond (pair_of a b) = is_num b
fits PickSecond (sum_of a b) = false
fits PickSecond (list_of a) = false
fits PickSize num = false
fits PickSize (pair_of a b) = false
fits PickSize (sum_of a b) = false
fits PickSize (list_of a) = true

-- the kind of a function's results
abbrev pub answers : Func → OutputKind → Option OutputKind
answers First num = None
answers First (pair_of a b) = Some a
answers First (sum_of a b) = None
answers First (list_of a) = None
answers Second num = None
answers Second (pair_of a b) = Some b
answers Second (sum_of a b) = None
answers Second (list_of a) = None
answers Size num = None
answers Size (pair_of a b) = None
answers Size (sum_of a b) = None
answers Size (list_of a) = Some num
answers Merge num = None
answers Merge (pair_of a b) = None
answers Merge (sum_of a b) = (if is_same_kind a b then Some a else None)
answers Merge (list_of a) = None
answers (Const n) num = Some num
answers (Const n) (pair_of a b) = Some num
answers (Const n) (sum_of a b) = Some num
answers (Const n) (list_of a) = Some num
answers (Add n) num = Some num
answers (Add n) (pair_of a b) = None
answers (Add n) (sum_of a b) = None
answers (Add n) (list_of a) = None
answers (Mul n) num = Some num
answers (Mul n) (pair_of a b) = None
answers (Mul n) (sum_of a b) = None
answers (Mul n) (list_of a) = None

-- the kind of two joined schedules, if both have one
abbrev pub joined : (OutputKind → OutputKind → OutputKind)
    → Option OutputKind → Option OutputKind → Option OutputKind
joined f (Some a) (Some b) = Some (f a b)
joined f (Some a) None = None
joined f None b = None

-- the kind of a part, if the pick fits it
abbrev pub where_fits : Pick → Option OutputKind → Option OutputKind
where_fits k (Some a) = (if fits k a then Some a else None)
where_fits k None = None

-- the kind of lists of a part's outputs
abbrev pub list_kind : Option OutputKind → Option OutputKind
list_kind (Some a) = Some (list_of a)
list_kind None = None

-- the kind of a function's results over a part
abbrev pub mapped_kind : Func → Option OutputKind → Option OutputKind
mapped_kind f (Some a) = answers f a
mapped_kind f None = None

-- the kind of the outputs of two joined schedules
abbrev pub pairing_kind : Pairing → OutputKind → OutputKind → OutputKind
pairing_kind both a b = pair_of a b
pairing_kind either a b = pair_of a b
pairing_kind and_then a b = sum_of a b

-- the kind of the outputs of a modifier over a part
abbrev pub modifier_kind : Modifier → Option OutputKind → Option OutputKind
modifier_kind (while_input t) a = a
modifier_kind (while_output k t) a = where_fits k a
modifier_kind collect_all a = list_kind a
modifier_kind (mapped f) a = mapped_kind f a
modifier_kind (reset_when k t) a = where_fits k a

-- the kind of a term, if it has one; each leaf returns numbers
abbrev pub kind_of : Schedule → Option OutputKind
kind_of (leaf l) = Some num
kind_of (two p a b) = joined (pairing_kind p) (kind_of a) (kind_of b)
kind_of (over s m) = modifier_kind m (kind_of s)

-- whether the kind has parts, so that storing it takes memory: that of two schedules, or of lists
abbrev pub takes_memory : Schedule → Bool
takes_memory (leaf l) = false
takes_memory (two p a b) = true
takes_memory (over s (while_input t)) = takes_memory s
takes_memory (over s (while_output k t)) = takes_memory s
takes_memory (over s collect_all) = true
takes_memory (over s (mapped f)) = takes_memory s
takes_memory (over s (reset_when k t)) = takes_memory s

-- a term is a schedule: within the limits, with a kind, and factors and windows of at least 1
pub record IsSchedule (t : Schedule) : Type 0 where
  pub small : is_within_limits t ≡ true
  pub factors : has_factors t ≡ true
  pub kinded : IsSome (kind_of t)
  pub windows : has_windows t ≡ true
