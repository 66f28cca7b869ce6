use Rattle.std.proofs.Common.{◌≡◌}
use Rattle.zs_unit_tests.proofs.tests.tasks.poll_at_each.Given as goal

abbrev pub invariant-loop-moment : goal.invariant-loop-moment
invariant-loop-moment g l = l.task.seen ≡ l.last
