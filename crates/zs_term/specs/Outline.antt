-- How the code sees the kind of a term: as its outermost form over parts of the term.
use Rattle.std.specs.Prelude.{ℕ, ◌+◌, max}
use Rattle.zs_term.specs.declared.term.Func.{Func}
use Rattle.zs_term.specs.declared.term.Func.TheVariants.{First, Second, Merge}
use Rattle.zs_term.specs.declared.inference.Outline.{Outline}
use Rattle.zs_term.specs.declared.inference.Outline.TheVariants.{Num, Pair, Sum, Items}
use Rattle.zs_term.specs.OutputKind.{OutputKind, num, pair_of, sum_of, list_of}
use Rattle.zs_term.specs.Schedule.{Schedule, leaf, two, over, while_input, while_output}
use Rattle.zs_term.specs.Schedule.{collect_all, mapped, reset_when, schedule_of, depth}
use Rattle.zs_term.specs.Kinds.{pairing_kind}

-- the kind of a function's results, if it applies to the kind
abbrev pub unchecked_result : Func → OutputKind → OutputKind
unchecked_result First (pair_of a b) = a
unchecked_result Second (pair_of a b) = b
unchecked_result Merge (sum_of a b) = a
unchecked_result _ _ = num

-- the kind of a term, if it has one
abbrev pub unchecked_kind : Schedule → OutputKind
unchecked_kind (leaf l) = num
unchecked_kind (two p a b) = pairing_kind p (unchecked_kind a) (unchecked_kind b)
unchecked_kind (over s (while_input t)) = unchecked_kind s
unchecked_kind (over s (while_output k t)) = unchecked_kind s
unchecked_kind (over s collect_all) = list_of (unchecked_kind s)
unchecked_kind (over s (mapped f)) = unchecked_result f (unchecked_kind s)
unchecked_kind (over s (reset_when k t)) = unchecked_kind s

-- the kind with this outermost form
abbrev pub outline_kind : Outline → OutputKind
outline_kind Num = num
outline_kind (Pair a b) =
    pair_of (unchecked_kind (schedule_of a.now)) (unchecked_kind (schedule_of b.now))
outline_kind (Sum a b) =
    sum_of (unchecked_kind (schedule_of a.now)) (unchecked_kind (schedule_of b.now))
outline_kind (Items a) = list_of (unchecked_kind (schedule_of a.now))

-- 1 more than the depth of the deepest term in a form, 0 if it has none
abbrev pub outline_depth : Outline → ℕ
outline_depth Num = 0
outline_depth (Pair a b) = 1 + max (depth (schedule_of a.now)) (depth (schedule_of b.now))
outline_depth (Sum a b) = 1 + max (depth (schedule_of a.now)) (depth (schedule_of b.now))
outline_depth (Items a) = 1 + depth (schedule_of a.now)
