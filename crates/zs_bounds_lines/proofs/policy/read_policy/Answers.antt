use Rattle.std.proofs.Common.{rules, ◌≡◌, ℕ, List, true, false, Ok, Err, refl, sym, ap, ◌∙◌}
use Rattle.zs_term.specs.Schedule.{schedule_of}
use Rattle.zs_term.specs.Verdict.{verdict_of}
use Rattle.zs_bounds_lines.specs.Policies.{is_passed_over}
use Rattle.zs_bounds_lines.proofs.PolicyLemmas.{judged-policy, no-policy, policy-in, policy-not}
use Rattle.zs_bounds_lines.proofs.policy.read_policy.Goals as goal

-- the line isn't UTF-8
pub returns-in_default-clause-fault : goal.returns-in_default-clause-fault
returns-in_default-clause-fault c =
    (refl, policy-not c.args.line.now c.without_return.result.now c.without_return.ensures.value c.in_default.ensures.cases.0)

-- it is passed over
pub returns-then-is_passed_over-clause-policy : goal.returns-then-is_passed_over-clause-policy
returns-then-is_passed_over-clause-policy c =
    let text : List ℕ = c.without_return.result.now in
    let passed : is_passed_over text ≡ true =
    ap is_passed_over (sym (c.as_bytes.ensures.value ∙ c.in-Ok.ensures.cases.0)) ∙ sym c.is_passed_over.ensures.value ∙ c.if-is_passed_over.true in
    policy-in c.args.line.now text c.without_return.ensures.value c.in-Ok.ensures.cases.1 ∙ no-policy text passed

-- it is a policy
pub returns-in-Ok-read-clause-policy : goal.returns-in-Ok-read-clause-policy
returns-in-Ok-read-clause-policy c =
    let text : List ℕ = c.without_return.result.now in
    let passed : is_passed_over text ≡ false =
    ap is_passed_over (sym (c.as_bytes.ensures.value ∙ c.in-Ok.ensures.cases.0)) ∙ sym c.is_passed_over.ensures.value ∙ c.if-is_passed_over.false in
    policy-in c.args.line.now text c.without_return.ensures.value c.in-Ok.ensures.cases.1
    ∙ judged-policy text (Ok (schedule_of c.in-Ok-read.policy)) passed (rw c.in-Ok.ensures.cases.0 at c.in-Ok-read.ensures.verdict)

-- memory ran out
pub returns-in-Err-Memory-clause-fault : goal.returns-in-Err-Memory-clause-fault
returns-in-Err-Memory-clause-fault c = tt

-- it is no policy
pub returns-in-Err : goal.returns-in-Err
returns-in-Err c =
    let text : List ℕ = c.without_return.result.now in
    let passed : is_passed_over text ≡ false =
    ap is_passed_over (sym (c.as_bytes.ensures.value ∙ c.in-Ok.ensures.cases.0)) ∙ sym c.is_passed_over.ensures.value ∙ c.if-is_passed_over.false in
    let verdict : verdict_of c.in-Ok.text.now ≡ Err c.in-Err.fault = search rules in record {
      policy = tt;
      fault = (
        refl,
        policy-in c.args.line.now text c.without_return.ensures.value c.in-Ok.ensures.cases.1
            ∙ judged-policy text (Err c.in-Err.fault) passed (rw c.in-Ok.ensures.cases.0 at verdict),
      );
    }
