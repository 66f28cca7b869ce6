use Rattle.std.proofs.Common.{◌≡◌, [], Some, Ok, ℕ, true, false, ap, sym, ◌∙◌}
use Rattle.std.specs.Fmt.{decimal}
use Rattle.std.proofs.lemmas.Slice.Eq.{bytes_eq-Decides}
use Rattle.zs_run.specs.PlanReport.{with_total}
use Rattle.zs_population.proofs.LastLines.{digits-are, digits-parse, digits-text}
use Rattle.zs_population.proofs.report.polls_of.Goals as goal
use Rattle.zs_population.proofs.report.polls_of.Goals.{then-eq, else-eq}

-- the digits of a number of polls are text
pub returns-in_default-from_utf8-clause-found : goal.returns-in_default-from_utf8-clause-found
returns-in_default-from_utf8-clause-found c = λ polls few is.
    let digits : c.in-Some-strip_suffix.digits.now ≡ decimal polls =
    digits-are c.args.total.now c.in-Some.digits.now c.in-Some-strip_suffix.digits.now polls is
    c.in-Some.ensures.cases.1 c.in-Some-strip_suffix.ensures.cases.1 in
    absurd (c.in_default-from_utf8.ensures.cases.0
    (digits-text c.in-Some-strip_suffix.digits.now polls few digits))

-- they are a number
pub returns-in_default-parse-clause-found : goal.returns-in_default-parse-clause-found
returns-in_default-parse-clause-found c = λ polls few is.
    let digits : c.in-Some-strip_suffix.digits.now ≡ decimal polls =
    digits-are c.args.total.now c.in-Some.digits.now c.in-Some-strip_suffix.digits.now polls is
    c.in-Some.ensures.cases.1 c.in-Some-strip_suffix.ensures.cases.1 in
    absurd (c.in_default-parse.not-Ok polls (digits-parse c.in-Ok.digits.now polls c.parse.result
    few (c.in-Ok.ensures.cases.0 ∙ digits) c.parse.ensures.value.0))

-- it is the number of polls, and its line the one that is compared
pub returns-clause-found : goal.returns-clause-found
returns-clause-found c = λ polls few is.
    let digits : c.in-Some-strip_suffix.digits.now ≡ decimal polls =
    digits-are c.args.total.now c.in-Some.digits.now c.in-Some-strip_suffix.digits.now polls is
    c.in-Some.ensures.cases.1 c.in-Some-strip_suffix.ensures.cases.1 in
    let parsed : c.parse.result ≡ Ok polls =
    digits-parse c.in-Ok.digits.now polls c.parse.result few (c.in-Ok.ensures.cases.0 ∙ digits)
    c.parse.ensures.value.0 in
    let same : c.in-Ok-parse.polls ≡ polls =
    (let e : Ok c.in-Ok-parse.polls ≡ Ok polls = sym c.in-Ok-parse.is ∙ parsed in cc) in
    elim c.if-eq.branch [
      | then-eq w ↦ w.result-is ∙ ap (λ (n : ℕ). Some n) same
      | else-eq w ↦ (
          let text : c.as_bytes.result.now ≡ c.args.total.now =
          c.as_bytes.ensures.value
          ∙ (rw c.new-text.ensures.bytes at c.in_ok-append_total.ensures.text)
          ∙ ap (with_total []) same ∙ sym is in
          let yes : c.eq.result ≡ true =
          c.eq.ensures ∙ (bytes_eq-Decides c.as_bytes.result.now c.args.total.now).1 text in
          absurd (let no : true ≡ false = sym yes ∙ w.if-eq.false in cc)
          )
    ]
