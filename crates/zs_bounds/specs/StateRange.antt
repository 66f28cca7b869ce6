-- In which states a schedule may be after some steps, as intervals in place of a state's numbers,
-- and what the next step makes of them. `proofs/Covers.antt` says when a range of states covers a
-- history. No reader has to believe this file, since `bounds_hold` says of its results what
-- `Bounds` promises.
use Rattle.std.specs.Prelude.{◌+◌, min, Bool, true, false, ◌&&◌, ◌||◌, if◌then◌else◌}
use Rattle.zs_term.specs.Saturating.{saturated}
use Rattle.zs_term.specs.Schedule.{Schedule, leaf, two, over, both, either, and_then, while_input}
use Rattle.zs_term.specs.Schedule.{while_output, collect_all, mapped, reset_when}
use Rattle.zs_bounds.specs.declared.span.Span.{Span}
use Rattle.zs_bounds.specs.declared.decisions.Decisions.{Decisions}
use Rattle.zs_bounds.specs.Driven.{max_tick}
use Rattle.zs_bounds.specs.Span.{span, hull}
use Rattle.zs_bounds.specs.DecisionRange.{may_go_on, both_decide, either_decides}
use Rattle.zs_bounds.specs.OutputRange.{picked_span, may_pass, may_fail}
use Rattle.zs_bounds.specs.AnswerRange.{AnswerRange, result_hull, results_if, leaf_range}
use Rattle.zs_bounds.specs.AnswerRange.{pair_range, left_range, right_range, modified_range}

-- The shape of a schedule's state. A leaf has its number of steps and the time since the first one.
-- `andThenEither` has whether its first part may still be on, and whether its second part may be.
-- `collectAll` has the number of its items.
pub data StateRange : Type 0 where
  counts : Span → Span → StateRange
  parts : StateRange → StateRange → StateRange
  turns : Bool → Bool → StateRange → StateRange → StateRange
  items : Span → StateRange → StateRange

-- ---- what a range has; no schedule has the other cases

-- the number of steps of a leaf
abbrev pub steps_in : StateRange → Span
steps_in (counts n t) = n
steps_in _ = span 0 0

-- the time since the first step of a leaf
abbrev pub time_in : StateRange → Span
time_in (counts n t) = t
time_in _ = span 0 0

-- the states of the first of two parts
abbrev pub first_in : StateRange → StateRange
first_in (parts x y) = x
first_in (turns p q x y) = x
first_in c = c

-- the states of the second of two parts
abbrev pub second_in : StateRange → StateRange
second_in (parts x y) = y
second_in (turns p q x y) = y
second_in c = c

-- whether the first of two parts in turn may be on
abbrev pub is_first_on : StateRange → Bool
is_first_on (turns p q x y) = p
is_first_on _ = false

-- whether the second of two parts in turn may be on
abbrev pub is_second_on : StateRange → Bool
is_second_on (turns p q x y) = q
is_second_on _ = false

-- the number of items of `collectAll`
abbrev pub items_in : StateRange → Span
items_in (items n x) = n
items_in _ = span 0 0

-- the states of the part of `collectAll`
abbrev pub part_in : StateRange → StateRange
part_in (items n x) = x
part_in c = c

-- ---- the first step

-- the results of a first part, or those of a second part's first step if the first may be done at
-- once
abbrev pub first_turn : AnswerRange → AnswerRange → AnswerRange
first_turn a b = result_hull (left_range a) (results_if a.decision.stops (right_range b))

-- what the first step may return
abbrev pub first_range : Schedule → AnswerRange
first_range (leaf l) = leaf_range l (span 1 1) (span 0 0)
first_range (two both a b) = pair_range both_decide (first_range a) (first_range b)
first_range (two either a b) = pair_range either_decides (first_range a) (first_range b)
first_range (two and_then a b) = first_turn (first_range a) (first_range b)
first_range (over s (while_input t)) =
    modified_range (while_input t) (span 0 0) (first_range s) (first_range s)
first_range (over s (while_output k t)) =
    modified_range (while_output k t) (span 0 0) (first_range s) (first_range s)
first_range (over s collect_all) =
    modified_range collect_all (span 0 0) (first_range s) (first_range s)
first_range (over s (mapped f)) =
    modified_range (mapped f) (span 0 0) (first_range s) (first_range s)
first_range (over s (reset_when k t)) = first_range s

-- one more item if a step goes on
abbrev pub more_items : Decisions → Span → Span
more_items d n =
    span (if d.stops then n.low else saturated (n.low + 1))
    (if may_go_on d then saturated (n.high + 1) else n.high)

-- the states after the first step
abbrev pub first_state : Schedule → StateRange
first_state (leaf l) = counts (span 1 1) (span 0 0)
first_state (two both a b) = parts (first_state a) (first_state b)
first_state (two either a b) = parts (first_state a) (first_state b)
first_state (two and_then a b) =
    turns (may_go_on (first_range a).decision) (first_range a).decision.stops (first_state a)
    (first_state b)
first_state (over s (while_input t)) = first_state s
first_state (over s (while_output k t)) = first_state s
first_state (over s collect_all) =
    items (more_items (first_range s).decision (span 0 0)) (first_state s)
first_state (over s (mapped f)) = first_state s
first_state (over s (reset_when k t)) = first_state s

-- ---- a part that may begin at a step: at its first step, if it was not on; or in either way

-- By whether it may begin and may have been on: its states with those after the first step, those
-- after the first step alone, or its states unchanged.
abbrev pub begun : Bool → Bool → StateRange → StateRange → StateRange → StateRange
begun true true with_first first c = with_first
begun true false with_first first c = first
begun false on with_first first c = c

-- the states of a range, with those after the first step
abbrev pub with_first : Schedule → StateRange → StateRange
with_first (leaf l) c = counts (hull (steps_in c) (span 1 1)) (hull (time_in c) (span 0 0))
with_first (two both a b) c = parts (with_first a (first_in c)) (with_first b (second_in c))
with_first (two either a b) c = parts (with_first a (first_in c)) (with_first b (second_in c))
with_first (two and_then a b) c =
    turns (is_first_on c || may_go_on (first_range a).decision)
    (is_second_on c || (first_range a).decision.stops)
    (begun (may_go_on (first_range a).decision) (is_first_on c) (with_first a (first_in c))
    (first_state a) (first_in c))
    (begun (first_range a).decision.stops (is_second_on c) (with_first b (second_in c))
    (first_state b) (second_in c))
with_first (over s (while_input t)) c = with_first s c
with_first (over s (while_output k t)) c = with_first s c
with_first (over s collect_all) c =
    items (hull (items_in c) (more_items (first_range s).decision (span 0 0)))
    (with_first s (part_in c))
with_first (over s (mapped f)) c = with_first s c
with_first (over s (reset_when k t)) c = with_first s c

-- ---- a later step, by the times up to it since the one before

-- The results of two parts in turn: of the first if it may be on, of the second if it may be, and
-- of the second's first step if the first may be done.
abbrev pub turn_range : Bool → Bool → AnswerRange → AnswerRange → AnswerRange → AnswerRange
turn_range first_on second_on a b begins =
    result_hull
    (result_hull (results_if first_on (left_range a)) (results_if second_on (right_range b)))
    (results_if (first_on && a.decision.stops) (right_range begins))

-- one more step
abbrev pub more_steps : Span → Span
more_steps n = span (saturated (n.low + 1)) (saturated (n.high + 1))

-- some more time, and at most a whole clock
abbrev pub more_time : Span → Span → Span
more_time d t = span (saturated (t.low + d.low)) (min (saturated (t.high + d.high)) max_tick)

-- what the next step may return
abbrev pub next_range : Schedule → StateRange → Span → AnswerRange
next_range (leaf l) c d = leaf_range l (more_steps (steps_in c)) (more_time d (time_in c))
next_range (two both a b) c d =
    pair_range both_decide (next_range a (first_in c) d) (next_range b (second_in c) d)
next_range (two either a b) c d =
    pair_range either_decides (next_range a (first_in c) d) (next_range b (second_in c) d)
next_range (two and_then a b) c d =
    turn_range (is_first_on c) (is_second_on c) (next_range a (first_in c) d)
    (next_range b (second_in c) d) (first_range b)
next_range (over s (while_input t)) c d =
    modified_range (while_input t) (items_in c) (next_range s c d) (first_range s)
next_range (over s (while_output k t)) c d =
    modified_range (while_output k t) (items_in c) (next_range s c d) (first_range s)
next_range (over s collect_all) c d =
    modified_range collect_all (items_in c) (next_range s (part_in c) d) (first_range s)
next_range (over s (mapped f)) c d =
    modified_range (mapped f) (items_in c) (next_range s c d) (first_range s)
next_range (over s (reset_when k t)) c d =
    modified_range (reset_when k t) (items_in c) (next_range s c d) (first_range s)

-- The states of two parts in turn after a step.
abbrev pub turn_state : Bool → Bool → Decisions → StateRange → StateRange → StateRange → StateRange
    → StateRange → StateRange → StateRange
turn_state first_on second_on d old_first new_first old_second new_second with_first_second
    first_second =
    turns (first_on && may_go_on d) (second_on || (first_on && d.stops))
    (if first_on then new_first else old_first)
    (begun (first_on && d.stops) second_on with_first_second first_second
    (if second_on then new_second else old_second))

-- the states after the next step
abbrev pub next_state : Schedule → StateRange → Span → StateRange
next_state (leaf l) c d = counts (more_steps (steps_in c)) (more_time d (time_in c))
next_state (two both a b) c d = parts (next_state a (first_in c) d) (next_state b (second_in c) d)
next_state (two either a b) c d = parts (next_state a (first_in c) d) (next_state b (second_in c) d)
next_state (two and_then a b) c d =
    turn_state (is_first_on c) (is_second_on c) (next_range a (first_in c) d).decision (first_in c)
    (next_state a (first_in c) d)
    (second_in c) (next_state b (second_in c) d) (with_first b (next_state b (second_in c) d))
    (first_state b)
next_state (over s (while_input t)) c d = next_state s c d
next_state (over s (while_output k t)) c d = next_state s c d
next_state (over s collect_all) c d =
    items (more_items (next_range s (part_in c) d).decision (items_in c))
    (next_state s (part_in c) d)
next_state (over s (mapped f)) c d = next_state s c d
next_state (over s (reset_when k t)) c d =
    begun (may_pass t (picked_span k (next_range s c d).output))
    (may_fail t (picked_span k (next_range s c d).output))
    (with_first s (next_state s c d)) (first_state s) (next_state s c d)
