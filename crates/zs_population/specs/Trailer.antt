-- The line after the report of a range: of which jobs and which population it is the report.
use Rattle.std.specs.Prelude.{◌≡◌, ℕ, ◌+◌, List, [], ◌++◌, codes, Bool, true, false, Option, IfSome}
use Rattle.std.specs.Fmt.{decimal}
use Rattle.hex.specs.Hex.{encode_lower}
use Rattle.sha2.specs.Sha256.{sha256}
use Rattle.zs_lines.specs.Lines.{lines_of}
use Rattle.zs_population.specs.Sums.{sums_of}
use Rattle.zs_population.specs.declared.lines.Sums.{Sums}
use Rattle.zs_population.specs.declared.range.JobRange.{JobRange}

-- a range, as `5..20`
abbrev pub range_text : JobRange → List ℕ
range_text range = decimal range.first ++ codes ".." ++ decimal (range.first + range.count)

-- what a trailer says of the jobs and the population
abbrev pub origin_text : JobRange → Sums → List ℕ
origin_text range sums = codes "{\"jobs\":\"" ++ range_text range
    ++ codes "\",\"lines\":" ++ decimal sums.lines
    ++ codes ",\"population\":\"" ++ encode_lower sums.digest ++ codes "\",\"report\":\""

-- a trailer with this digest
abbrev pub trailer_line : JobRange → Sums → List ℕ → List ℕ
trailer_line range sums digest =
    origin_text range sums ++ encode_lower digest ++ codes "\"}\n"

-- the trailer of a report: its digest is that of all bytes before it
abbrev pub trailer_of : JobRange → Sums → List ℕ → List ℕ
trailer_of range sums report =
    trailer_line range sums (sha256 (report ++ origin_text range sums))

-- What follows the report of a range: nothing, or the trailer if it is a part. The trailer is known
-- if the population's bytes are.
abbrev pub FollowsReport : Bool → JobRange → Option (List ℕ) → List ℕ → List ℕ → Type 0
FollowsReport false range before report text = text ≡ []
FollowsReport true range before report text =
    IfSome before (λ known. text ≡ trailer_of range (sums_of (lines_of known)) report)
