use Rattle.std.proofs.Common.{◌≡◌, ◌<◌, ◌^◌, ◌++◌, ℕ, List, drop, length, Bool, not, true, false}
use Rattle.std.proofs.Common.{refl, sym, ap, ◌∙◌, arith}
use Rattle.std.proofs.lemmas.Bool.Decides.{Decides-eqb}
use Rattle.std.proofs.lemmas.Slice.Eq.{bytes_eq-Decides, starts_is}
use Rattle.std.specs.Prelude.{bytes_eq}
use Rattle.sha2.specs.Sha256.{sha256}
use Rattle.zs_population.specs.Trailer.{origin_text, trailer_line}
use Rattle.zs_population.proofs.PartLemmas.{is-part, names-jobs, no-polls, no-range, open-body}
use Rattle.zs_population.proofs.PartLemmas.{open-report, other-digest, other-sums}
use Rattle.zs_population.proofs.report.part_of.Goals as goal

is-true : (b : Bool) → not b ≡ false → b ≡ true
is-true true is = refl
is-true false is = absurd (let no : true ≡ false = is in cc)

-- the report doesn't end with a newline
pub returns-in_default-clause-fault : goal.returns-in_default-clause-fault
returns-in_default-clause-fault c =
    open-report c.args.sums.now 0 c.args.report.now (c.in_default.ensures.none refl)

-- the last line names no range
pub returns-in_default-range_of-clause-fault : goal.returns-in_default-range_of-clause-fault
returns-in_default-range_of-clause-fault c =
    no-range c.args.sums.now c.args.report.now c.in-Some.body.now c.in-Some.trailer.now
    c.in-Some.ensures.some 0
    (λ range fits names. let no = c.in_default-range_of.ensures.found range fits names in cc)

-- it names another population
pub returns-then-not-starts_with-clause-fault : goal.returns-then-not-starts_with-clause-fault
returns-then-not-starts_with-clause-fault c =
    let expected : c.as_bytes.result.now ≡ origin_text c.in-Some-range_of.range c.args.sums.now =
    c.as_bytes.ensures.value
    ∙ (rw c.new-expected.ensures.bytes at c.in_ok-append_origin.ensures.text) in
    let begins = starts_is Decides-eqb c.in-Some.trailer.now c.as_bytes.result.now
    c.starts_with.result c.starts_with.ensures.value in
    other-sums c.args.sums.now c.args.report.now c.in-Some.body.now c.in-Some.trailer.now
    c.in-Some.ensures.some c.in-Some-range_of.range c.in-Some-range_of.ensures.found 0
    (λ rest is. let yes : c.starts_with.result ≡ true = begins.1 rest (rw expected is) in
    let no = c.if-not-starts_with.true in cc)

-- it begins with another job
pub returns-then-range-next-clause-fault : goal.returns-then-range-next-clause-fault
returns-then-range-next-clause-fault c =
    let expected : c.as_bytes.result.now ≡ origin_text c.in-Some-range_of.range c.args.sums.now =
    c.as_bytes.ensures.value
    ∙ (rw c.new-expected.ensures.bytes at c.in_ok-append_origin.ensures.text) in
    let begins = starts_is Decides-eqb c.in-Some.trailer.now c.as_bytes.result.now
    c.starts_with.result c.starts_with.ensures.value in
    let names : c.in-Some.trailer.now ≡ origin_text c.in-Some-range_of.range c.args.sums.now
    ++ drop (length c.as_bytes.result.now) c.in-Some.trailer.now =
    begins.0 c.if-not-starts_with.false
    ∙ ap (λ (bs : List ℕ). bs ++ drop (length c.as_bytes.result.now) c.in-Some.trailer.now)
    expected in (
      refl,
      c.if-range-next.true,
      (
        c.in-Some-range_of.range,
        refl,
        names-jobs c.args.sums.now c.args.report.now c.in-Some.body.now c.in-Some.trailer.now
            c.in-Some.ensures.some c.in-Some-range_of.range _ names,
      ),
    )

-- it has another digest
pub returns-then-ne-clause-fault : goal.returns-then-ne-clause-fault
returns-then-ne-clause-fault c =
    let expected : c.as_bytes.result.now ≡ origin_text c.in-Some-range_of.range c.args.sums.now =
    c.as_bytes.ensures.value
    ∙ (rw c.new-expected.ensures.bytes at c.in_ok-append_origin.ensures.text) in
    let begins = starts_is Decides-eqb c.in-Some.trailer.now c.as_bytes.result.now
    c.starts_with.result c.starts_with.ensures.value in
    let names : c.in-Some.trailer.now ≡ origin_text c.in-Some-range_of.range c.args.sums.now
    ++ drop (length c.as_bytes.result.now) c.in-Some.trailer.now =
    begins.0 c.if-not-starts_with.false
    ∙ ap (λ (bs : List ℕ). bs ++ drop (length c.as_bytes.result.now) c.in-Some.trailer.now)
    expected in
    let appended = c.in_ok-append_trailer.ensures.text in
    let line : c.as_bytes-2.result.now ≡ trailer_line c.in-Some-range_of.range c.args.sums.now
    appended.0 =
    c.as_bytes-2.ensures.value ∙ (rw c.clear.ensures.bytes at appended.1) in
    let whole : c.as_bytes-2.result.now ≡ trailer_line c.in-Some-range_of.range c.args.sums.now
    (sha256 (c.in-Some.body.now ++ origin_text c.in-Some-range_of.range c.args.sums.now)) =
    line ∙ ap (trailer_line c.in-Some-range_of.range c.args.sums.now)
    (appended.2 c.in-Some.body.now c.new_with_prefix-digest.ensures) in
    let differ : c.ne.result ≡ not (bytes_eq c.in-Some.trailer.now c.as_bytes-2.result.now) =
    c.ne.ensures in (
      other-digest c.args.sums.now c.args.report.now c.in-Some.body.now c.in-Some.trailer.now
          c.in-Some.ensures.some c.in-Some-range_of.range c.in-Some-range_of.ensures.found 0
          (λ is. let same : bytes_eq c.in-Some.trailer.now c.as_bytes-2.result.now ≡ true =
          (bytes_eq-Decides c.in-Some.trailer.now c.as_bytes-2.result.now).1 (is ∙ sym whole) in
          let no : true ≡ false = sym c.if-ne.true ∙ differ ∙ ap not same in cc),
      (
        c.in-Some-range_of.range,
        c.if-range-next.false,
        names-jobs c.args.sums.now c.args.report.now c.in-Some.body.now c.in-Some.trailer.now
            c.in-Some.ensures.some c.in-Some-range_of.range _ names,
      ),
    )

-- there is no line before the last one
pub returns-in_default-split_last_line-clause-fault :
    goal.returns-in_default-split_last_line-clause-fault
returns-in_default-split_last_line-clause-fault c =
    open-body c.args.sums.now c.args.report.now c.in-Some.body.now c.in-Some.trailer.now
    c.in-Some.ensures.some 0 (c.in_default-split_last_line.ensures.none refl)

-- the line before the last one is no number of polls
pub returns-in_default-found-clause-fault : goal.returns-in_default-found-clause-fault
returns-in_default-found-clause-fault c =
    no-polls c.args.sums.now c.args.report.now c.in-Some.body.now c.in-Some.trailer.now
    c.in-Some.ensures.some 0 c.in-Some-split_last_line.lines.now
    c.in-Some-split_last_line.total.now
    c.in-Some-split_last_line.ensures.some (λ count few is. let no =
    c.in_ok-found.ensures.found count few is in let none = c.in_default-found.is in cc)

-- it is the report of a part
pub returns-clause-part : goal.returns-clause-part
returns-clause-part c =
    let appended = c.in_ok-append_trailer.ensures.text in
    let line : c.as_bytes-2.result.now ≡ trailer_line c.in-Some-range_of.range c.args.sums.now
    appended.0 =
    c.as_bytes-2.ensures.value ∙ (rw c.clear.ensures.bytes at appended.1) in
    let whole : c.as_bytes-2.result.now ≡ trailer_line c.in-Some-range_of.range c.args.sums.now
    (sha256 (c.in-Some.body.now ++ origin_text c.in-Some-range_of.range c.args.sums.now)) =
    line ∙ ap (trailer_line c.in-Some-range_of.range c.args.sums.now)
    (appended.2 c.in-Some.body.now c.new_with_prefix-digest.ensures) in
    let differ : c.ne.result ≡ not (bytes_eq c.in-Some.trailer.now c.as_bytes-2.result.now) =
    c.ne.ensures in
    let same : c.in-Some.trailer.now ≡ c.as_bytes-2.result.now =
    (bytes_eq-Decides c.in-Some.trailer.now c.as_bytes-2.result.now).0
    (is-true (bytes_eq c.in-Some.trailer.now c.as_bytes-2.result.now)
    (sym differ ∙ c.if-ne.false)) in
    let few : c.in-Some-found.polls < 2 ^ 128 = omega arith in
    is-part c.args.sums.now c.args.report.now c.in-Some.body.now c.in-Some.trailer.now
    c.in-Some.ensures.some c.in-Some-range_of.range c.in-Some-split_last_line.lines.now
    c.in-Some-split_last_line.total.now c.in-Some-found.polls c.in-Some-range_of.ensures.fits few
    c.in-Some-split_last_line.ensures.some
    (rw c.in-Some-found.is at c.in_ok-found.ensures.some) (same ∙ whole)
