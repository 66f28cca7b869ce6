use Rattle.std.proofs.Common.{◌≡◌, take}
use Rattle.zs_step.specs.History.{history_of}
use Rattle.zs_step.specs.Answer.{next_run}
use Rattle.zs_step.proofs.leaves.fixed_run.Given as goal

abbrev pub invariant-loop-at : goal.invariant-loop-at
invariant-loop-at l = l.run ≡ next_run l.period (history_of (take l.at l.history))
