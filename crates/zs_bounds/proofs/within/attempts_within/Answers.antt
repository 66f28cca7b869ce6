use Rattle.std.proofs.Common.{◌≡◌, ap, ◌∙◌}
use Rattle.zs_term.specs.Schedule.{Schedule, schedule_of}
use Rattle.zs_bounds.specs.AnswerRange.{AnswerRange}
use Rattle.zs_bounds.specs.Node.{node_schedule, node_state}
use Rattle.zs_bounds.specs.StateRange.{first_range, first_state}
use Rattle.zs_bounds.proofs.Attempts.{result-within}
use Rattle.zs_bounds.proofs.within.attempts_within.Goals as goal

pub returns-clause-promises : goal.returns-clause-promises
returns-clause-promises c =
    let s = schedule_of c.args.checked.now in
    let made = c.in_ok-node.ensures.made in
    let term = ap schedule_of c.term.ensures.term in
    let same : node_schedule c.in_ok-node.node ≡ s = made.schedule ∙ term in
    let state : node_state c.in_ok-node.node ≡ first_state s = made.state ∙ ap first_state term in
    let decides : c.in_ok-node.first.1 ≡ (first_range s).decision =
    ap (λ (r : AnswerRange). r.decision) made.first
    ∙ ap (λ (t : Schedule). (first_range t).decision) same in
    result-within s (node_schedule c.in_ok-node.node) c.args.driver c.args.time c.args.steps
    (node_state c.in_ok-node.node) c.in_ok-node.first.1 c.within_from.result same state decides
    c.term.ensures.schedule.factors c.within_from.ensures.value
