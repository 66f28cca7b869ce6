-- The output of a state's last step, and which histories it represents: its next step returns what
-- `answer_of` returns on the longer history. `step_node` preserves this relation.
use Rattle.std.specs.Prelude.{◌≡◌, ℕ, ◌+◌, ◌≤◌, Bool, true, false, Option, Some, None, [], ◌∷◌}
use Rattle.zs_term.specs.Output.{Output, number, pair, left, right, listed, applied}
use Rattle.zs_term.specs.Schedule.{Schedule, weight, leaf, two, over, both, either, and_then}
use Rattle.zs_term.specs.Schedule.{while_input, while_output, collect_all, mapped, reset_when}
use Rattle.zs_step.specs.declared.decision.Decision.{Decision}
use Rattle.zs_step.specs.declared.state.State.{State}
use Rattle.zs_step.specs.declared.state.State.TheVariants.{Leaf, Both', Either', AndThen'}
use Rattle.zs_step.specs.declared.state.State.TheVariants.{WhileInput', WhileOutput', CollectAll'}
use Rattle.zs_step.specs.declared.state.State.TheVariants.{Map', ResetWhen'}
use Rattle.zs_step.specs.History.{History}
use Rattle.zs_step.specs.LeafState.{state_leaf, leaf_output, LeafRepresents}
use Rattle.zs_step.specs.Collected.{earlier_outputs, collected_outputs}
use Rattle.zs_step.specs.Answer.{answer, answer_of, from_done, collected, since_reset}
use Rattle.zs_step.specs.Visits.{visits}

-- the schedule of a state
abbrev pub state_schedule : State → Schedule
state_schedule (Leaf l) = leaf (state_leaf l)
state_schedule (Both' p a b) = two both (state_schedule a) (state_schedule b)
state_schedule (Either' p a b) = two either (state_schedule a) (state_schedule b)
state_schedule (AndThen' done p a b) = two and_then (state_schedule a) (state_schedule b)
state_schedule (WhileInput' p s t) = over (state_schedule s) (while_input t)
state_schedule (WhileOutput' p s k t) = over (state_schedule s) (while_output k t)
state_schedule (CollectAll' p s kept) = over (state_schedule s) collect_all
state_schedule (Map' p s f) = over (state_schedule s) (mapped f)
state_schedule (ResetWhen' p s k t) = over (state_schedule s) (reset_when k t)

-- the output of the second part once the first is done, else that of the first
abbrev pub side_output : Bool → Output → Output → Output
side_output false first second = left first
side_output true first second = right second

-- the output of the last step
abbrev pub last_output : State → Output
last_output (Leaf l) = number (leaf_output l)
last_output (Both' p a b) = pair (last_output a) (last_output b)
last_output (Either' p a b) = pair (last_output a) (last_output b)
last_output (AndThen' done p a b) = side_output done (last_output a) (last_output b)
last_output (WhileInput' p s t) = last_output s
last_output (WhileOutput' p s k t) = last_output s
last_output (CollectAll' p s kept) = listed (earlier_outputs kept.value)
last_output (Map' p s f) = applied f (last_output s)
last_output (ResetWhen' p s k t) = last_output s

-- The first part represents the history and the second an empty one. Once the first part is done,
-- the second represents the history from there on.
abbrev pub SequelRepresents : Bool → Option History → Type 0 → (History → Type 0) → Type 0
SequelRepresents false None first second = first × second []
SequelRepresents true (Some g) first second = second g
SequelRepresents false (Some g) first second = ⊥
SequelRepresents true None first second = ⊥

-- a state represents a history
abbrev pub Represents : State → History → Type 0
Represents (Leaf l) h = LeafRepresents l h
Represents (Both' p a b) h = Represents a h × Represents b h
Represents (Either' p a b) h = Represents a h × Represents b h
Represents (AndThen' done p a b) h =
    SequelRepresents done (from_done (answer_of (state_schedule a)) h)
    (Represents a h) (Represents b)
Represents (WhileInput' p s t) h = Represents s h
Represents (WhileOutput' p s k t) h = Represents s h
Represents (CollectAll' p s kept) h =
    Represents s h
    × (collected_outputs kept.value (last_output s) ≡ collected (answer_of (state_schedule s)) h)
Represents (Map' p s f) h = Represents s h
Represents (ResetWhen' p s k t) h = Represents s (since_reset (answer_of (state_schedule s)) k t h)

-- no output is still to join a list
abbrev pub IsJoined : State → Type 0
IsJoined (Leaf l) = Unit {0}
IsJoined (Both' p a b) = IsJoined a × IsJoined b
IsJoined (Either' p a b) = IsJoined a × IsJoined b
IsJoined (AndThen' done p a b) = IsJoined a × IsJoined b
IsJoined (WhileInput' p s t) = IsJoined s
IsJoined (WhileOutput' p s k t) = IsJoined s
IsJoined (CollectAll' p s kept) = IsJoined s × (kept.value.due ≡ false)
IsJoined (Map' p s f) = IsJoined s
IsJoined (ResetWhen' p s k t) = IsJoined s

-- what a step decides, with the output that the state then has, is the schedule's result on every
-- history that the old state represents
pub record Answers (old new : State) (now input : ℕ) (d : Decision) : Type 0 where
  pub answered : (h : History) → Represents old h
      → answer (last_output new) d ≡ answer_of (state_schedule old) ((now, input) ∷ h)

-- A step counts visits: `before` has those before it with the node itself, `after` also those of
-- its parts. The new state represents the old one's histories with the step.
pub record CountsOn (old new : State) (now input before after : ℕ) : Type 0 where
  pub bound : 1 + after ≤ before + weight (state_schedule old)
  pub visited : (h : History) → Represents old h
      → 1 + after ≡ before + visits (state_schedule old) ((now, input) ∷ h)
  pub stands : (h : History) → Represents old h → Represents new ((now, input) ∷ h)
