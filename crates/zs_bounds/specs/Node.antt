-- The schedule that a node was made of, the range of states that it has, what it knows of first
-- steps, and the node after a step. No reader has to believe this file.
use Rattle.std.specs.Prelude.{◌≡◌, ℕ, Bool, true, false, if◌then◌else◌}
use Rattle.zs_term.specs.Schedule.{Schedule, leaf, two, over, both, either, and_then, while_input}
use Rattle.zs_term.specs.Schedule.{while_output, collect_all, mapped, reset_when}
use Rattle.zs_bounds.specs.declared.decisions.Decisions.{Decisions}
use Rattle.zs_bounds.specs.declared.span.Span.{Span}
use Rattle.zs_bounds.specs.declared.node.Turns.{Turns}
use Rattle.zs_bounds.specs.declared.driver.Driver.{Driver}
use Rattle.zs_bounds.specs.declared.told.Bounds.{Bounds}
use Rattle.zs_bounds.specs.BoundsOf.{bounds_from, no_bounds}
use Rattle.zs_bounds.specs.declared.node.Node.{Node}
use Rattle.zs_bounds.specs.declared.ranges.OutRange.{OutRange}
use Rattle.zs_bounds.specs.declared.node.Node.TheVariants.{Leaf, Both', Either', AndThen'}
use Rattle.zs_bounds.specs.declared.node.Node.TheVariants.{WhileInput', WhileOutput', CollectAll'}
use Rattle.zs_bounds.specs.declared.node.Node.TheVariants.{Map', ResetWhen'}
use Rattle.zs_bounds.specs.Leaf.{bare_leaf}
use Rattle.zs_bounds.specs.Span.{hull}
use Rattle.zs_bounds.specs.AnswerRange.{AnswerRange, result_hull, results_if, left_range}
use Rattle.zs_bounds.specs.AnswerRange.{right_range}
use Rattle.zs_bounds.specs.OutRange.{result_range}
use Rattle.zs_bounds.specs.StateRange.{StateRange, counts, parts, turns, items, first_range}
use Rattle.zs_bounds.specs.StateRange.{first_state, with_first, begun, next_range, next_state}

-- the schedule that a node was made of
abbrev pub node_schedule : Node → Schedule
node_schedule (Leaf l n t) = leaf (bare_leaf l)
node_schedule (Both' p a q b) = two both (node_schedule a) (node_schedule b)
node_schedule (Either' p a q b) = two either (node_schedule a) (node_schedule b)
node_schedule (AndThen' t p a q b) = two and_then (node_schedule a) (node_schedule b)
node_schedule (WhileInput' p s t) = over (node_schedule s) (while_input t)
node_schedule (WhileOutput' p s k t) = over (node_schedule s) (while_output k t)
node_schedule (CollectAll' p s d n) = over (node_schedule s) collect_all
node_schedule (Map' p s f) = over (node_schedule s) (mapped f)
node_schedule (ResetWhen' p s k t r) = over (node_schedule s) (reset_when k t)

-- a span of numbers with the first one, or that alone if they are not on
abbrev pub begun_span : Bool → Span → Span → Span
begun_span true s first = hull s first
begun_span false s first = first

-- the range of states that a node has
abbrev pub node_state : Node → StateRange
node_state (Leaf l n t) = counts n t
node_state (Both' p a q b) = parts (node_state a) (node_state b)
node_state (Either' p a q b) = parts (node_state a) (node_state b)
node_state (AndThen' t p a q b) = turns t.first_on t.second_on (node_state a) (node_state b)
node_state (WhileInput' p s t) = node_state s
node_state (WhileOutput' p s k t) = node_state s
node_state (CollectAll' p s d n) = items n (node_state s)
node_state (Map' p s f) = node_state s
node_state (ResetWhen' p s k t r) = node_state s

-- ---- the next step, by the times up to it: what it may return, and the states after it

-- of a node
abbrev pub node_range : Node → Span → AnswerRange
node_range n d = next_range (node_schedule n) (node_state n) d

abbrev pub node_next : Node → Span → StateRange
node_next n d = next_state (node_schedule n) (node_state n) d

-- of a node whose part may begin, and may have been on
abbrev pub node_begun : Bool → Bool → Node → StateRange
node_begun begins on n =
    begun begins on (with_first (node_schedule n) (node_state n)) (first_state (node_schedule n))
    (node_state n)

-- the states of a part after the step, if a fact holds
abbrev pub state_if : Bool → Node → Span → StateRange
state_if holds n d = if holds then node_next n d else node_state n

-- of two parts in turn
abbrev pub turns_range : Turns → Node → Node → Span → AnswerRange
turns_range t a b d =
    next_range (two and_then (node_schedule a) (node_schedule b))
    (turns t.first_on t.second_on (node_state a) (node_state b)) d

abbrev pub turns_next : Turns → Node → Node → Span → StateRange
turns_next t a b d =
    next_state (two and_then (node_schedule a) (node_schedule b))
    (turns t.first_on t.second_on (node_state a) (node_state b)) d

-- as they are joined, by whether the second may have been on
abbrev pub turns_joined : Bool → AnswerRange → AnswerRange → AnswerRange → AnswerRange
turns_joined second_on a b begins =
    result_hull (result_hull (left_range a) (results_if second_on (right_range b)))
    (results_if a.decision.stops (right_range begins))

-- ---- what first steps may return: of both parts in turn, of a part that is collected, and of a
-- ---- part that may be reset

-- What is known of the first steps of a schedule's parts. Leaves have none.
pub data Firsts : Type 0 where
  no_firsts : Firsts
  part_firsts : Firsts → Firsts → Firsts
  turn_firsts : Decisions → AnswerRange → Firsts → Firsts → Firsts
  item_firsts : Decisions → Firsts → Firsts
  reset_firsts : AnswerRange → Firsts → Firsts

-- as a node has them
abbrev pub node_firsts : Node → Firsts
node_firsts (Leaf l n t) = no_firsts
node_firsts (Both' p a q b) = part_firsts (node_firsts a) (node_firsts b)
node_firsts (Either' p a q b) = part_firsts (node_firsts a) (node_firsts b)
node_firsts (AndThen' t p a q b) =
    turn_firsts t.begins (result_range t.start) (node_firsts a) (node_firsts b)
node_firsts (WhileInput' p s t) = node_firsts s
node_firsts (WhileOutput' p s k t) = node_firsts s
node_firsts (CollectAll' p s d n) = item_firsts d (node_firsts s)
node_firsts (Map' p s f) = node_firsts s
node_firsts (ResetWhen' p s k t r) = reset_firsts (result_range r) (node_firsts s)

-- as they are
abbrev pub firsts_of : Schedule → Firsts
firsts_of (leaf l) = no_firsts
firsts_of (two both a b) = part_firsts (firsts_of a) (firsts_of b)
firsts_of (two either a b) = part_firsts (firsts_of a) (firsts_of b)
firsts_of (two and_then a b) =
    turn_firsts (first_range a).decision (first_range b) (firsts_of a) (firsts_of b)
firsts_of (over s (while_input t)) = firsts_of s
firsts_of (over s (while_output k t)) = firsts_of s
firsts_of (over s collect_all) = item_firsts (first_range s).decision (firsts_of s)
firsts_of (over s (mapped f)) = firsts_of s
firsts_of (over s (reset_when k t)) = reset_firsts (first_range s) (firsts_of s)

-- a node has them right
abbrev pub KnowsFirsts : Node → Type 0
KnowsFirsts n = node_firsts n ≡ firsts_of (node_schedule n)

-- two parts in turn have their first steps right, as does what is stored of the second's
abbrev pub KnowsTurns : Turns → Node → Node → Type 0
KnowsTurns t a b =
    KnowsFirsts a × KnowsFirsts b × (result_range t.start ≡ first_range (node_schedule b))

-- two nodes in turn
abbrev pub in_turn : Node → Node → Schedule
in_turn a b = two and_then (node_schedule a) (node_schedule b)

-- a node is that of a schedule after its first step, and these are the results of that step
pub record IsMade (s : Schedule) (n : Node) (r : OutRange × Decisions) : Type 0 where
  pub schedule : node_schedule n ≡ s
  pub firsts : KnowsFirsts n
  pub state : node_state n ≡ first_state s
  pub first : result_range r ≡ first_range (node_schedule n)

-- and that of the schedule that it was made of
abbrev pub IsMadeNode : Node → OutRange × Decisions → Type 0
IsMadeNode n r = IsMade (node_schedule n) n r

-- ---- what a step leaves unchanged

-- a node's schedule, and what it knows of first steps
abbrev pub SameNode : Node → Node → Type 0
SameNode n m = (node_schedule m ≡ node_schedule n) × (node_firsts m ≡ node_firsts n)

-- what two parts in turn know of first steps
abbrev pub SameTurns : Turns → Turns → Type 0
SameTurns t u = (u.begins ≡ t.begins) × (result_range u.start ≡ result_range t.start)

-- ---- a step, and all steps

-- a node and that node after a step
pub record Moves (old new : Node) (later : Span) : Type 0 where
  pub state : node_state new ≡ node_next old later
  pub same : SameNode old new

-- two parts in turn
pub record MovesTurns (t u : Turns) (a b x y : Node) (later : Span) : Type 0 where
  pub state : turns u.first_on u.second_on (node_state b) (node_state y) ≡ turns_next t a x later
  pub first : SameNode a b
  pub second : SameNode x y
  pub begins : SameTurns t u

-- the bounds of a node that has been stepped once, by what that step may decide
abbrev pub bounds_at : Node → Driver → ℕ → Decisions → Bounds
bounds_at n d steps first =
    bounds_from (node_schedule n) d steps (node_state n) first 0 (no_bounds d)
