-- The state of joining between two reports, and what reading a population for it gives.
use Rattle.std.specs.Prelude.{◌≡◌, ◌≢◌, ℕ, ◌+◌, List, length, take, true, false, ⊤}
use Rattle.std.specs.Prelude.{Option, IfSome}
use Rattle.std.specs.Io.KnownBytes.{Appends}
use Rattle.zs_run.specs.Headline.{Writing}
use Rattle.zs_run.specs.declared.plan_fault.PlanFault.TheVariants as faults
use Rattle.zs_population.specs.Ending.{SentPart, WasRefused}
use Rattle.zs_population.specs.Joining.{AreParts, IsPart, PartRecord, ReportFails}
use Rattle.zs_population.specs.Population.{all_jobs}
use Rattle.zs_population.specs.declared.lines.Sums.{Sums}
use Rattle.zs_population.specs.declared.joining.JoinProgress.{JoinProgress}
use Rattle.zs_population.specs.declared.fault.PopulationFault.{PopulationFault}
use Rattle.zs_population.specs.declared.fault.PopulationFault.TheVariants.{Read, Line, Engine}
use Rattle.zs_population.specs.declared.fault.PopulationFault.TheVariants.{Write, Report, Missing}
use Rattle.zs_population.specs.declared.fault.PopulationFault.TheVariants.{Words}

-- why the lines of a population can't be read
abbrev pub PopulationFails : Option (List ℕ) → PopulationFault → Type 0
PopulationFails before Read = ⊤
PopulationFails before (Line line fault) =
    fault ≢ faults.Memory → WasRefused all_jobs before (record { line = line; fault = fault })
PopulationFails before (Engine fault) = ⊥
PopulationFails before (Write sent) = ⊥
PopulationFails before (Report number fault) = ⊥
PopulationFails before (Missing next) = ⊥
PopulationFails before (Words fault) = ⊥

-- A part of a population with these sums is the next one. Some bytes are its report, if known.
abbrev pub IsNext : Sums → Option (List ℕ) → JoinProgress → PartRecord → Type 0
IsNext sums bytes joined part =
    IfSome bytes (λ known. IsPart sums known part) × (part.range.first ≡ joined.next)

-- Some bytes, if they are known, are the report of the next part. Its lines were written, and its
-- jobs and polls were added.
abbrev pub AddsReport : Sums → Option (List ℕ) → JoinProgress → JoinProgress → Option (List ℕ)
    → Option (List ℕ) → Type 0
AddsReport sums bytes old new before taken = (part : PartRecord) × IsNext sums bytes old part
    × (new.next ≡ old.next + part.range.count) × (new.polls ≡ old.polls + part.polls)
    × (new.sent ≡ old.sent + length part.lines) × Appends before taken part.lines

-- why a report can't be added
abbrev pub AddFails : Sums → Option (List ℕ) → JoinProgress → PopulationFault → Writing → Type 0
    → Type 0
AddFails sums bytes joined Read w Untouched = ⊥
AddFails sums bytes joined (Line line fault) w Untouched = ⊥
AddFails sums bytes joined (Engine fault) w Untouched = ⊥
AddFails sums bytes joined (Write sent) w Untouched = (w.failed ≡ true) × ((part : PartRecord)
    × IsNext sums bytes joined part × SentPart joined.sent part.lines w.before w.taken (Write sent))
AddFails sums bytes joined (Report number fault) w Untouched = (w.failed ≡ false)
    × (number ≡ joined.reports + 1) × ReportFails sums joined.next joined.polls bytes fault
    × Untouched
AddFails sums bytes joined (Missing next) w Untouched = ⊥
AddFails sums bytes joined (Words fault) w Untouched = ⊥

-- The first n reports were joined, and their lines were written.
abbrev pub HasJoined : Sums → List (Option (List ℕ)) → ℕ → JoinProgress → Option (List ℕ)
    → Option (List ℕ) → Type 0
HasJoined sums reports n joined before taken = (lines : List ℕ)
    × AreParts sums 0 (take n reports) joined.next lines joined.polls
    × Appends before taken lines × (joined.sent ≡ length lines)
