-- What a schedule decides if each of its leaves draws its own waits, as jitter of its parts does.
-- Outputs are those without a draw, so this is for tests that read no wait.
use Rattle.std.specs.Prelude.{◌≡◌, ℕ, ◌+◌, ◌-◌, Option, Some, None}
use Rattle.zs_term.specs.Output.{passes, picked}
use Rattle.zs_term.specs.Schedule.{Schedule, leaf, two, over, both, either, and_then, while_input}
use Rattle.zs_term.specs.Schedule.{while_output, collect_all, mapped, reset_when}
use Rattle.zs_step.specs.declared.decision.Decision.{Decision}
use Rattle.zs_step.specs.declared.decision.Decision.TheVariants.{Stop, Next}
use Rattle.zs_step.specs.History.{History, last_input, last_moment}
use Rattle.zs_step.specs.Answer.{leaf_answer, answer_of, later_of, earlier_of, only_if, from_done}
use Rattle.zs_step.specs.Answer.{since_reset}
use Rattle.zs_bounds.specs.declared.waits.Waits.{Waits}
use Rattle.zs_bounds.specs.Driven.{IsWait}

-- a decision at a moment with a drawn wait: to stop as without a draw, or to go on at its end
abbrev pub IsDrawn : Waits → ℕ → Decision → Decision → Type 0
IsDrawn v m Stop e = e ≡ Stop
IsDrawn v m (Next x) e = (u : ℕ) × (IsWait v (x - m) u × (e ≡ Next (m + u)))

-- one of two parts in turn: the second one on its history, if it has begun
abbrev pub InTurn : Option History → Type 0 → (History → Type 0) → Type 0
InTurn None first second = first
InTurn (Some g) first second = second g

-- a decision of a schedule after a history, if each leaf draws its waits
abbrev pub LeavesDraw : Waits → Schedule → History → Decision → Type 0
LeavesDraw v (leaf l) h e = IsDrawn v (last_moment h) (leaf_answer l h).decision e
LeavesDraw v (two both a b) h e =
    (x : Decision) × ((y : Decision)
    × (LeavesDraw v a h x × (LeavesDraw v b h y × (e ≡ later_of x y))))
LeavesDraw v (two either a b) h e =
    (x : Decision) × ((y : Decision)
    × (LeavesDraw v a h x × (LeavesDraw v b h y × (e ≡ earlier_of x y))))
LeavesDraw v (two and_then a b) h e =
    InTurn (from_done (answer_of a) h) (LeavesDraw v a h e) (λ g. LeavesDraw v b g e)
LeavesDraw v (over s (while_input t)) h e =
    (x : Decision) × (LeavesDraw v s h x × (e ≡ only_if (passes t (last_input h)) x))
LeavesDraw v (over s (while_output k t)) h e =
    (x : Decision) × (LeavesDraw v s h x
    × (e ≡ only_if (passes t (picked k (answer_of s h).output)) x))
LeavesDraw v (over s collect_all) h e = LeavesDraw v s h e
LeavesDraw v (over s (mapped f)) h e = LeavesDraw v s h e
LeavesDraw v (over s (reset_when k t)) h e =
    LeavesDraw v s (since_reset (answer_of s) k t h) e
