use Rattle.std.proofs.Common.{arith, sym}
use Rattle.zs_bounds_lines.proofs.PolicyLemmas.{without-cut, without-kept}
use Rattle.zs_bounds_lines.proofs.policy.without_return.Goals as goal

pub returns-then-last-eq13 : goal.returns-then-last-eq13
returns-then-last-eq13 c = record {
  value = sym (without-cut c.args.line.now c.in-Some.rest.now c.in-Some.last.now c.in-Some.ensures.cases.0 (omega (arith, c.if-last-eq13.true)));
}

pub returns-else-last-eq13 : goal.returns-else-last-eq13
returns-else-last-eq13 c = record {
  value = sym (without-kept c.args.line.now c.in-Some.rest.now c.in-Some.last.now c.in-Some.ensures.cases.0 (λ e. absurd (omega (arith, e, c.if-last-eq13.false))));
}
