use Rattle.std.proofs.Common.{◌≡◌, ◌-◌, ◌≤◌}
use Rattle.zs_bounds.specs.Driven.{max_tick}
use Rattle.zs_bounds.specs.Node.{node_schedule, node_state, KnowsFirsts}
use Rattle.zs_bounds.specs.BoundsOf.{latest_of, wait_limit, bounds_from, no_bounds}
use Rattle.zs_bounds.proofs.bounding.bounds_from.Given as goal

-- the bounds so far, with what the later steps add, are the bounds of all steps
abbrev pub invariant-loop : goal.invariant-loop
invariant-loop l = record {
  told : bounds_from (node_schedule l.node) l.driver (l.steps - l.counter) (node_state l.node)
      l.decision l.passed l.told
      ≡ bounds_from (node_schedule l.fn.node) l.fn.driver l.fn.steps (node_state l.fn.node)
      l.fn.first 0 (no_bounds l.fn.driver);
  seen : l.told.seen ≡ l.counter;
  passed : l.passed ≤ max_tick;
  limit : l.limit ≡ latest_of (node_schedule l.node) l.driver;
  longest : l.longest ≡ wait_limit (node_schedule l.node);
  firsts : KnowsFirsts l.node;
}
