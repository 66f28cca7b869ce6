-- The report of a part, by its last lines.
use Rattle.std.proofs.Common.{◌≡◌, ◌<◌, ◌≤◌, ◌+◌, ◌^◌, ℕ, List, [], ◌∷◌, ◌++◌, Some, sym, ap}
use Rattle.std.proofs.Common.{◌∙◌, append_assoc, append-nil, arith, codes}
use Rattle.hex.specs.Hex.{encode_lower}
use Rattle.sha2.specs.Sha256.{sha256}
use Rattle.zs_run.specs.PlanReport.{with_total}
use Rattle.zs_population.specs.Joining.{IsNoPart, IsPart, Names, PartRecord}
use Rattle.zs_population.specs.Joining.{report_of_part}
use Rattle.zs_population.specs.Parts.{IsOpen, IsPartRange, IsSplit, NamesRange}
use Rattle.zs_population.specs.Trailer.{origin_text, trailer_line, trailer_of}
use Rattle.zs_population.specs.declared.lines.Sums.{Sums}
use Rattle.zs_population.specs.declared.range.JobRange.{JobRange}
use Rattle.zs_population.proofs.Done.{with_total-append}
use Rattle.zs_population.proofs.Trailers.{origin-range, report-splits, split-unique, total-ends}
use Rattle.zs_population.proofs.Trailers.{total-tells, trailer-splits}

-- the trailer is the last line of the report of a part
ends-with : (sums : Sums) (bytes : List ℕ) (part : PartRecord) → IsPart sums bytes part →
    IsSplit bytes (report_of_part part) (trailer_of part.range sums (report_of_part part))
ends-with sums bytes part is =
    trailer-splits bytes (report_of_part part)
    (sha256 (report_of_part part ++ origin_text part.range sums)) part.range sums
    (total-ends part.lines part.polls) is.4

-- a text with a last line ends with a newline
closed : (text lines last : List ℕ) → IsSplit text lines last → IsOpen text → ⊥
closed text lines last split unended =
    unended (lines ++ split.0) (split.3 ∙ ap (λ (bs : List ℕ). lines ++ bs) split.2
    ∙ sym (append_assoc lines split.0 (10 ∷ [])))

-- a report has one number of polls
pub same-polls : (sums : Sums) (bytes : List ℕ) (one other : PartRecord) → IsPart sums bytes one →
    IsPart sums bytes other → one.polls ≡ other.polls
same-polls sums bytes one other is was =
    let body : report_of_part one ≡ report_of_part other =
    (split-unique bytes (report_of_part one) (trailer_of one.range sums (report_of_part one))
    (report_of_part other) (trailer_of other.range sums (report_of_part other))
    (ends-with sums bytes one is) (ends-with sums bytes other was)).0 in
    let total : with_total [] one.polls ≡ with_total [] other.polls =
    (split-unique (report_of_part other) one.lines (with_total [] one.polls) other.lines
    (with_total [] other.polls)
    (rw body at (report-splits one is.2 is.3)) (report-splits other was.2 was.3)).1 in
    total-tells one.polls other.polls is.2 was.2 total

-- its polls can't be added
pub too-many : (sums : Sums) (bytes : List ℕ) (part : PartRecord) (polls : ℕ) →
    IsPart sums bytes part → 2 ^ 128 ≤ polls + part.polls → IsNoPart sums polls bytes
too-many sums bytes part polls is many other was =
    omega (arith, many, same-polls sums bytes part other is was)

-- a report that doesn't end with a newline
pub open-report : (sums : Sums) (polls : ℕ) (report : List ℕ) → IsOpen report →
    IsNoPart sums polls report
open-report sums polls report unended part is = absurd (closed report (report_of_part part)
    (trailer_of part.range sums (report_of_part part)) (ends-with sums report part is) unended)

module _ (sums : Sums) (report body trailer : List ℕ) (split : IsSplit report body trailer) where
  -- the last line is the trailer of the part
  same-lines : (part : PartRecord) → IsPart sums report part →
      (body ≡ report_of_part part) × (trailer ≡ trailer_of part.range sums (report_of_part part))
  same-lines part is =
      split-unique report body trailer (report_of_part part)
      (trailer_of part.range sums (report_of_part part)) split (ends-with sums report part is)

  -- it names the range of the part
  names-range : (part : PartRecord) → IsPart sums report part → NamesRange trailer part.range
  names-range part is =
      let begins = origin-range part.range sums
      (sha256 (report_of_part part ++ origin_text part.range sums)) in
      (begins.0, (same-lines part is).1 ∙ begins.1)

  -- the last line names no range
  pub no-range : (polls : ℕ) → ((range : JobRange) → IsPartRange range → NamesRange trailer range →
      ⊥) → IsNoPart sums polls report
  no-range polls none part is = absurd (none part.range (is.0, is.1) (names-range part is))

  -- what a trailer begins with
  origin-first : (range : JobRange) (digest : List ℕ) →
      trailer_line range sums digest ≡ origin_text range sums
      ++ (encode_lower digest ++ codes "\"}\n")
  origin-first range digest =
      append_assoc (origin_text range sums) (encode_lower digest) (codes "\"}\n")

  module _ (range : JobRange) (found : (other : JobRange) → IsPartRange other →
      NamesRange trailer other → Some range ≡ Some other) where
    -- the range is that of the part
    same-range : (part : PartRecord) → IsPart sums report part → range ≡ part.range
    same-range part is = (let same : Some range ≡ Some part.range =
        found part.range (is.0, is.1) (names-range part is) in cc)

    -- the last line names other sums
    pub other-sums : (polls : ℕ) → ((rest : List ℕ) → trailer ≡ origin_text range sums ++ rest →
        ⊥) → IsNoPart sums polls report
    other-sums polls none part is =
        let digest : List ℕ = sha256 (report_of_part part ++ origin_text part.range sums) in
        let names : trailer ≡ origin_text part.range sums
        ++ (encode_lower digest ++ codes "\"}\n") =
        (same-lines part is).1 ∙ origin-first part.range digest in
        absurd
        (none (encode_lower digest ++ codes "\"}\n") (names
        ∙ ap (λ (r : JobRange). origin_text r sums ++ (encode_lower digest ++ codes "\"}\n"))
        (sym (same-range part is))))

    -- the last line has another digest
    pub other-digest : (polls : ℕ) →
        (trailer ≡ trailer_line range sums (sha256 (body ++ origin_text range sums)) → ⊥) →
        IsNoPart sums polls report
    other-digest polls none part is =
        let lines = same-lines part is in
        absurd (none (lines.1 ∙ ap (λ (r : JobRange). trailer_of r sums (report_of_part part))
        (sym (same-range part is))
        ∙ ap (λ (bs : List ℕ). trailer_of range sums bs) (sym lines.0)))

  -- it names these jobs
  pub names-jobs : (range : JobRange) (rest : List ℕ) → trailer ≡ origin_text range sums ++ rest →
      Names sums report range
  names-jobs range rest is = (
    body,
    rest,
    split.3 ∙ ap (λ (bs : List ℕ). body ++ bs) is
        ∙ sym (append_assoc body (origin_text range sums) rest),
  )

  -- there is no line before the last one
  pub open-body : (polls : ℕ) → IsOpen body → IsNoPart sums polls report
  open-body polls unended part is =
      let same : body ≡ report_of_part part = (same-lines part is).0 in
      absurd (closed (report_of_part part) part.lines (with_total [] part.polls)
      (report-splits part is.2 is.3) (rw same at unended))

  -- the line before the last one is no number of polls
  pub no-polls : (polls : ℕ) (lines total : List ℕ) → IsSplit body lines total →
      ((count : ℕ) → count < 2 ^ 128 → total ≡ with_total [] count → ⊥) → IsNoPart sums polls report
  no-polls polls lines total parts none part is =
      let same : body ≡ report_of_part part = (same-lines part is).0 in
      let last : total ≡ with_total [] part.polls =
      (split-unique (report_of_part part) lines total part.lines (with_total [] part.polls)
      (rw same at parts) (report-splits part is.2 is.3)).1 in
      absurd (none part.polls is.2 last)

  -- it is the report of a part
  pub is-part : (range : JobRange) (lines total : List ℕ) (polls : ℕ) → IsPartRange range
      → polls < 2 ^ 128 → IsSplit body lines total → total ≡ with_total [] polls
      → trailer ≡ trailer_line range sums (sha256 (body ++ origin_text range sums))
      → IsPart sums report (record { range = range; lines = lines; polls = polls })
  is-part range lines total polls fits few parts last is =
      let whole : body ≡ with_total lines polls =
      parts.3 ∙ ap (λ (bs : List ℕ). lines ++ bs) last ∙ sym (with_total-append lines [] polls)
      ∙ ap (λ (bs : List ℕ). with_total bs polls) (append-nil lines) in (
        fits.0,
        fits.1,
        few,
        parts.4,
        split.3 ∙ ap (λ (bs : List ℕ). body ++ bs) is
            ∙ ap (λ (bs : List ℕ). bs ++ trailer_of range sums bs) whole,
      )
