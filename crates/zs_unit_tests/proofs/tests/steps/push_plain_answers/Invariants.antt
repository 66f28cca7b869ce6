use Rattle.std.proofs.Common.{◌≡◌}
use Rattle.zs_step.specs.History.{history_of, last_moment, IsInOrder}
use Rattle.zs_unit_tests.proofs.tests.steps.push_plain_answers.Given as goal

abbrev pub invariant-loop-pair : goal.invariant-loop-pair
invariant-loop-pair g l = IsInOrder (history_of l.seen.items) × (last_moment (history_of l.seen.items) ≡ l.last)
