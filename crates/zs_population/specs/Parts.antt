-- The report of a part, taken apart.
use Rattle.std.specs.Prelude.{◌≡◌, ◌≤◌, ℕ, ◌+◌, List, [], ◌∷◌, ◌++◌, codes, true}
use Rattle.zs_lines.specs.Buffers.{IsOneLine}
use Rattle.zs_population.specs.Joining.{EndsLine, PartRecord}
use Rattle.zs_population.specs.Population.{max_population}
use Rattle.zs_population.specs.Trailer.{range_text}
use Rattle.zs_population.specs.declared.range.JobRange.{JobRange}
use Rattle.zs_population.specs.declared.report.PartReport.{PartReport}

-- a part, by copies of its lines
abbrev pub part_record : PartReport → PartRecord
part_record part =
    record { range = part.range; lines = part.lines.now; polls = part.polls }

-- A text has this last line, with its newline, after these lines.
abbrev pub IsSplit : List ℕ → List ℕ → List ℕ → Type 0
IsSplit text lines last = (line : List ℕ) × IsOneLine line × (last ≡ line ++ 10 ∷ [])
    × (text ≡ lines ++ last) × EndsLine lines

-- A text doesn't end with a newline.
abbrev pub IsOpen : List ℕ → Type 0
IsOpen text = (front : List ℕ) → text ≡ front ++ 10 ∷ [] → ⊥

-- A range is that of a part, within the jobs that a population may have.
abbrev pub IsPartRange : JobRange → Type 0
IsPartRange range = (range.is_part ≡ true) × (range.first + range.count ≤ max_population)

-- A trailer begins with this range.
abbrev pub NamesRange : List ℕ → JobRange → Type 0
NamesRange trailer range = (rest : List ℕ)
    × (trailer ≡ codes "{\"jobs\":\"" ++ range_text range ++ codes "\"" ++ rest)
