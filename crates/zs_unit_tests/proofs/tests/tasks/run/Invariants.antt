use Rattle.std.proofs.Common.{◌≤◌}
use Rattle.zs_unit_tests.proofs.tests.tasks.run.Given as goal

abbrev pub invariant-loop-now : goal.invariant-loop-now
invariant-loop-now l = l.task.seen ≤ l.now
