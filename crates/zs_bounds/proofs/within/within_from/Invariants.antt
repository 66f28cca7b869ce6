use Rattle.std.proofs.Common.{◌≡◌, ◌+◌, ◌-◌}
use Rattle.zs_bounds.specs.Node.{node_schedule, node_state, KnowsFirsts}
use Rattle.zs_bounds.specs.WithinOf.{within_from}
use Rattle.zs_bounds.proofs.within.within_from.Given as goal

-- the attempts of what the later steps add are those of all steps
abbrev pub invariant-loop-steps_before : goal.invariant-loop-steps_before
invariant-loop-steps_before l = record {
  told : within_from (node_schedule l.node) l.driver l.time (l.steps - l.steps_before)
      (node_state l.node) l.decision l.passed (l.steps_before + 1)
      ≡ within_from (node_schedule l.fn.node) l.fn.driver l.fn.time l.fn.steps
      (node_state l.fn.node) l.fn.first 0 1;
  firsts : KnowsFirsts l.node;
}
