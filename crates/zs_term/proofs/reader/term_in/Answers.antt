use Rattle.std.proofs.Common.{◌≡◌, Some, refl, sym, ap, ◌∙◌, subst}
use Rattle.zs_term.specs.Schedule.{schedule_of}
use Rattle.zs_term.specs.Causes.{IsRead}
use Rattle.zs_term.specs.Parts.{kept_of}
use Rattle.zs_term.proofs.Kept.{too_deep, too_heavy, small, there}
use Rattle.zs_term.proofs.reader.term_in.Goals as goal
use Rattle.zs_term.proofs.reader.term_in.Goals.{then-part-gt-MAX_DEPTH-via-then-part-gt-MAX_DEPTH}
use Rattle.zs_term.proofs.reader.term_in.Goals.{then-part-gt-MAX_DEPTH-via-else-part-gt-MAX_DEPTH+then-part-gt-MAX_WEIGHT}

-- one of the sizes is past its limit
pub returns-then-part-gt-MAX_DEPTH-clause-err : goal.returns-then-part-gt-MAX_DEPTH-clause-err
returns-then-part-gt-MAX_DEPTH-clause-err c =
    let w = c.in_ok-part.ensures.ok in
    let k = kept_of c.in_ok-part.part in (
      w.term,
      w.spelled,
      elim c.then-part-gt-MAX_DEPTH.branch [
        | then-part-gt-MAX_DEPTH-via-then-part-gt-MAX_DEPTH b ↦
            too_deep _ w.term k w.is b.if-part-gt-MAX_DEPTH.true
        | then-part-gt-MAX_DEPTH-via-else-part-gt-MAX_DEPTH+then-part-gt-MAX_WEIGHT b ↦
            too_heavy _ w.term k w.is b.if-part-gt-MAX_WEIGHT.true
      ],
    )

-- the sizes are within their limits, and a number is too large
pub returns-in-Some-clause-err : goal.returns-in-Some-clause-err
returns-in-Some-clause-err c =
    let w = c.in_ok-part.ensures.ok in
    let within = small _ w.term (kept_of c.in_ok-part.part) w.is c.if-part-gt-MAX_DEPTH.false
    c.if-part-gt-MAX_WEIGHT.false in
    (w.term, w.spelled, within, sym w.numbers ∙ c.in-Some.is)

-- the term was built, since the sizes are within their limits and the numbers fit
pub unreachable-requires : goal.unreachable-requires
unreachable-requires c =
    let known = rw c.in-None.is at
    (there c.args.text.now (kept_of c.in_ok-part.part) c.in_ok-part.huge c.in_ok-part.ensures.ok
    c.if-part-gt-MAX_DEPTH.false c.if-part-gt-MAX_WEIGHT.false c.in_default.is) in
    cc

-- the term that was built is that of the text
pub returns-clause-ok : goal.returns-clause-ok
returns-clause-ok c =
    let w = c.in_ok-part.ensures.ok in
    let k = kept_of c.in_ok-part.part in
    let is_built : k.schedule ≡ Some (schedule_of c.in-Some-term.term.value) =
    rw c.in-Some-term.is refl in
    let known = there c.args.text.now k c.in_ok-part.huge w c.if-part-gt-MAX_DEPTH.false
    c.if-part-gt-MAX_WEIGHT.false c.in_default.is in
    let same : w.term ≡ schedule_of c.in-Some-term.term.value = cc in
    let all = ap schedule_of (c.into_inner.ensures ∙ ap (λ b. b.value) c.in-Some-term.term-is) in
    let within = small _ w.term k w.is c.if-part-gt-MAX_DEPTH.false c.if-part-gt-MAX_WEIGHT.false in
    subst (IsRead c.args.text.now) (same ∙ sym all)
    (record { spelled = w.spelled; within = within; fits = sym w.numbers ∙ c.in_default.is })
