use Rattle.std.proofs.Common.{◌≡◌, ◌+◌, ◌*◌, ◌<◌, ◌≤◌, length, drop, take, None}
use Rattle.zs_term.specs.Schedule.{schedule_of, weight}
use Rattle.zs_term.specs.Output.{outputs_of}
use Rattle.zs_step.specs.History.{history_of}
use Rattle.zs_step.specs.Answer.{answer_of, from_done, collected, since_reset}
use Rattle.zs_step.proofs.evaluation.+evaluation.Given as goal

abbrev pub invariant-first_done-loop-i : goal.invariant-first_done-loop-i
invariant-first_done-loop-i l =
    from_done (answer_of (schedule_of l.term)) (history_of (take l.i l.history)) ≡ None

abbrev pub invariant-outputs_before-loop-i : goal.invariant-outputs_before-loop-i
invariant-outputs_before-loop-i l =
    outputs_of l.items.items
    ≡ collected (answer_of (schedule_of l.term)) (history_of (take l.i l.history))

abbrev pub invariant-reset_start-loop-i : goal.invariant-reset_start-loop-i
invariant-reset_start-loop-i l =
    (l.start < length l.history) × (l.start ≤ l.i)
    × (since_reset (answer_of (schedule_of l.term)) l.pick l.test (history_of (take l.i l.history))
    ≡ history_of (drop l.start (take l.i l.history)))

-- a part weighs less than its schedule; a search through a history evaluates the same schedule
abbrev pub decreases-evaluate : goal.decreases-evaluate
decreases-evaluate l = 3 * weight (schedule_of l.term.now)

abbrev pub decreases-in_turn : goal.decreases-in_turn
decreases-in_turn l = 3 * (weight (schedule_of l.first.now) + weight (schedule_of l.second.now)) + 2

abbrev pub decreases-while_output : goal.decreases-while_output
decreases-while_output l = 3 * weight (schedule_of l.part.now) + 2

abbrev pub decreases-collect_all : goal.decreases-collect_all
decreases-collect_all l = 3 * weight (schedule_of l.part.now) + 2

abbrev pub decreases-since_last_reset : goal.decreases-since_last_reset
decreases-since_last_reset l = 3 * weight (schedule_of l.part.now) + 2

abbrev pub decreases-first_done : goal.decreases-first_done
decreases-first_done l = 3 * weight (schedule_of l.term.now) + 1

abbrev pub decreases-reset_start : goal.decreases-reset_start
decreases-reset_start l = 3 * weight (schedule_of l.term.now) + 1

abbrev pub decreases-outputs_before : goal.decreases-outputs_before
decreases-outputs_before l = 3 * weight (schedule_of l.term.now) + 1
