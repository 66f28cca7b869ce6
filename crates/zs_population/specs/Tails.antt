-- What follows the report of a range, as it is appended.
use Rattle.std.specs.Prelude.{◌≡◌, ℕ, ◌++◌, List, [], true, Option, Some, IfSome, String, ⊤}
use Rattle.std.specs.Io.KnownBytes.{IsAtEnd}
use Rattle.std.specs.Global.{Global}
use Rattle.sha2.specs.Hashers.{Holds256}
use Rattle.sha2.specs.Sha256.{sha256}
use Rattle.sha2.specs.declared.Sha256.{Sha256}
use Rattle.zs_term.specs.OutputText.{Adds}
use Rattle.zs_lines.specs.Lines.{lines_of}
use Rattle.zs_population.specs.Sums.{IsSummed}
use Rattle.zs_population.specs.Trailer.{FollowsReport, origin_text, trailer_line}
use Rattle.zs_population.specs.declared.digest.ReportDigest.{ReportDigest}
use Rattle.zs_population.specs.declared.lines.Sums.{Sums}
use Rattle.zs_population.specs.declared.lines.LineReader.{LineReader}
use Rattle.zs_population.specs.declared.range.JobRange.{JobRange}
use Rattle.zs_population.specs.declared.fault.PopulationFault.{PopulationFault}
use Rattle.zs_population.specs.declared.fault.PopulationFault.TheVariants.{Read, Line, Engine}
use Rattle.zs_population.specs.declared.fault.PopulationFault.TheVariants.{Write, Report}
use Rattle.zs_population.specs.declared.fault.PopulationFault.TheVariants.{Missing, Words}

-- If it is on, the digest has taken in a report.
abbrev pub HasDigested : ReportDigest → List ℕ → Type 0
HasDigested digest report = digest.is_on ≡ true → Holds256 digest.hasher report

-- A trailer was appended. Its digest is that of all bytes before it.
abbrev pub AppendsTrailer : JobRange → Sums → Sha256 → String Global → String Global → Type 0
AppendsTrailer range sums digest old new = (found : List ℕ)
    × Adds old new (trailer_line range sums found) × ((report : List ℕ)
    → Holds256 digest report → found ≡ sha256 (report ++ origin_text range sums))

-- Some bytes were appended. They follow each report that was digested, for each population whose
-- lines before the bytes ahead were counted and digested.
abbrev pub EndsReport : JobRange → LineReader → Option (List ℕ) → ReportDigest → String Global
    → String Global → Type 0
EndsReport range lines ahead digest old new = (more : List ℕ) × Adds old new more
    × ((before : Option (List ℕ)) (report : List ℕ)
    → IfSome before (λ known. IsSummed (lines_of known) lines ahead) → HasDigested digest report
    → FollowsReport range.is_part range before report more)

-- If known bytes had ended, none remain.
abbrev pub StaysAtEnd : Option (List ℕ) → Option (List ℕ) → Type 0
StaysAtEnd ahead left = IsAtEnd ahead → IfSome ahead (λ known. left ≡ Some [])

-- why a report can't be ended
abbrev pub EndFault : PopulationFault → Type 0
EndFault Read = ⊤
EndFault (Line line fault) = ⊥
EndFault (Engine fault) = ⊤
EndFault (Write sent) = ⊥
EndFault (Report number fault) = ⊥
EndFault (Missing next) = ⊥
EndFault (Words fault) = ⊥
