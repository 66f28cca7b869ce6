use Rattle.std.proofs.Common.{sym, subst, ◌∷◌}
use Rattle.zs_term.specs.Output.{passes, picked}
use Rattle.zs_term.specs.Schedule.{Schedule, leaf, two, over, both, either, and_then, while_input}
use Rattle.zs_term.specs.Schedule.{while_output, collect_all, mapped, reset_when}
use Rattle.zs_step.specs.Answer.{answer_of, is_next, later_of, earlier_of, only_if, from_done}
use Rattle.zs_step.specs.Answer.{since_reset}
use Rattle.zs_bounds.specs.declared.waits.Waits.{Waits}
use Rattle.zs_bounds.specs.Drawn.{IsDrawn, LeavesDraw}
use Rattle.zs_bounds.proofs.Draws.{Draws, later-drawn, earlier-drawn, only_if-drawn, turn-drawn}
use Rattle.zs_bounds.proofs.Draws.{reset-drawn}
use Rattle.zs_bounds.proofs.laws.drawn_leaves_are_a_drawn_whole.Goals as goal

-- the schedule draws its own waits
leaves-draw : (v : Waits) (s : Schedule) → Draws v (LeavesDraw v s) (answer_of s)
leaves-draw v (leaf l) p h e drawn = drawn
leaves-draw v (two both a b) p h e drawn =
    subst (IsDrawn v p.0 (later_of (answer_of a (p ∷ h)).decision (answer_of b (p ∷ h)).decision))
    (sym drawn.1.1.1.1)
    (later-drawn v p.0 (answer_of a (p ∷ h)).decision (answer_of b (p ∷ h)).decision
    drawn.0 drawn.1.0
    (leaves-draw v a p h drawn.0 drawn.1.1.0) (leaves-draw v b p h drawn.1.0 drawn.1.1.1.0))
leaves-draw v (two either a b) p h e drawn =
    subst (IsDrawn v p.0 (earlier_of (answer_of a (p ∷ h)).decision (answer_of b (p ∷ h)).decision))
    (sym drawn.1.1.1.1)
    (earlier-drawn v p.0 (answer_of a (p ∷ h)).decision (answer_of b (p ∷ h)).decision
    drawn.0 drawn.1.0
    (leaves-draw v a p h drawn.0 drawn.1.1.0) (leaves-draw v b p h drawn.1.0 drawn.1.1.1.0))
leaves-draw v (two and_then a b) p h e drawn =
    turn-drawn v (from_done (answer_of a) h) p h (is_next (answer_of a (p ∷ h)).decision)
    (answer_of a) (answer_of b) (LeavesDraw v a) (LeavesDraw v b) e (leaves-draw v a)
    (leaves-draw v b) drawn
leaves-draw v (over s (while_input t)) p h e drawn =
    subst (IsDrawn v p.0 (only_if (passes t p.1) (answer_of s (p ∷ h)).decision)) (sym drawn.1.1)
    (only_if-drawn v p.0 (passes t p.1) (answer_of s (p ∷ h)).decision drawn.0
    (leaves-draw v s p h drawn.0 drawn.1.0))
leaves-draw v (over s (while_output k t)) p h e drawn =
    let b = passes t (picked k (answer_of s (p ∷ h)).output) in
    subst (IsDrawn v p.0 (only_if b (answer_of s (p ∷ h)).decision)) (sym drawn.1.1)
    (only_if-drawn v p.0 b (answer_of s (p ∷ h)).decision drawn.0
    (leaves-draw v s p h drawn.0 drawn.1.0))
leaves-draw v (over s collect_all) p h e drawn = leaves-draw v s p h e drawn
leaves-draw v (over s (mapped f)) p h e drawn = leaves-draw v s p h e drawn
leaves-draw v (over s (reset_when k t)) p h e drawn =
    let g = since_reset (answer_of s) k t h in
    reset-drawn v (passes t (picked k (answer_of s (p ∷ g)).output)) p g (answer_of s)
    (LeavesDraw v s) e
    (leaves-draw v s) drawn

pub returns : goal.returns
returns c = record { value = leaves-draw }
