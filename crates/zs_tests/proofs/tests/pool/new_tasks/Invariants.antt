use Rattle.std.proofs.Common.{◌≡◌, length, map}
use Rattle.std.specs.Prelude.{All}
use Rattle.std.specs.List.{range_with_len}
use Rattle.zs_pool.specs.Rounds.{IsPollable}
use Rattle.zs_tests.proofs.tests.pool.new_tasks.Given as goal

abbrev pub invariant-loop-number : goal.invariant-loop-number
invariant-loop-number l = record {
  size : length l.tasks.items ≡ l.number;
  numbers : map (λ t. t.number) l.tasks.items ≡ range_with_len 0 l.number;
  pollable : All (IsPollable l.fn.now) l.tasks.items;
}
