-- How a run over lines ends: for success and each fault, what was read, what was written, and which
-- of the two failed.
use Rattle.std.specs.Prelude.{◌≡◌, ◌≤◌, ℕ, ◌+◌, List, [], ◌∷◌, ◌++◌, length, take, Bool, true}
use Rattle.std.specs.Prelude.{false, Option, Some, Result, Ok, Err, IfSome}
use Rattle.std.specs.Io.KnownBytes.{Appends}
use Rattle.zs_run.specs.Headline.{Reading, Writing}
use Rattle.zs_lines.specs.Buffers.{BeginsWith}
use Rattle.zs_lines.specs.Lines.{lines_of}
use Rattle.zs_bounds_lines.specs.BoundsLines.{bounds_lines}
use Rattle.zs_bounds_lines.specs.declared.fault.BoundsFault.{BoundsFault}
use Rattle.zs_bounds_lines.specs.declared.fault.BoundsFault.TheVariants.{Read, Line, Memory, Write}
use Rattle.zs_bounds_lines.specs.declared.fault.BoundsFault.TheVariants.{Words}
use Rattle.zs_bounds_lines.specs.declared.options.Options.{Options}

-- what is seen of the writer after a text: it was flushed, or it is unchanged if there is no text
abbrev pub IsWhole : List ℕ → Bool → Type 0 → Type 0
IsWhole [] flushed Untouched = Untouched
IsWhole (b ∷ bs) flushed Untouched = flushed ≡ true

-- What belongs to some lines was written and flushed, and nothing else. `Untouched` says that the
-- writer is unchanged.
abbrev pub Wrote : Options → List (List ℕ) → Writing → Type 0 → Type 0
Wrote options lines w Untouched =
    (text : List ℕ) × (bounds_lines options lines ≡ Ok text)
    × Appends w.before w.taken text × IsWhole text w.flushed Untouched

-- The reader's first lines have property P.
abbrev pub Began : Reading → (List (List ℕ) → Type 0) → Type 0
Began r P = (lines : List (List ℕ)) × BeginsWith r.before lines × P lines

-- The reader's lines have property P, and none remains.
abbrev pub WasAll : Reading → (List (List ℕ) → Type 0) → Type 0
WasAll r P = (lines : List (List ℕ))
    × IfSome r.before (λ known. (lines_of known ≡ lines) × (r.left ≡ Some [])) × P lines

-- The reader's first lines, and the line after them, have property P.
abbrev pub BeganUpTo : Reading → (List (List ℕ) → List ℕ → Type 0) → Type 0
BeganUpTo r P = (before : List (List ℕ)) × (line : List ℕ)
    × BeginsWith r.before (before ++ line ∷ []) × P before line

-- What belongs to some lines was written, and then a part of what belongs to the next line.
abbrev pub WrotePart : Options → List (List ℕ) → List ℕ → Writing → Type 0
WrotePart options before line w =
    (text : List ℕ) × (last : List ℕ) × (sent : ℕ) × (bounds_lines options before ≡ Ok text)
    × (bounds_lines options (line ∷ []) ≡ Ok last)
    × (sent ≤ length last) × Appends w.before w.taken (text ++ take sent last)

-- The table: how a run ends, by its result.
abbrev pub Ends : Options → Result (Unit {0}) BoundsFault → Reading → Writing → Type 0 → Type 0
Ends options (Ok done) r w Untouched =
    (r.failed ≡ false) × (w.failed ≡ false) × WasAll r (λ lines. Wrote options lines w Untouched)
Ends options (Err Read) r w Untouched =
    (r.failed ≡ true) × (w.failed ≡ false) × Began r (λ lines. Wrote options lines w Untouched)
-- the line of this number, from 1, is the first that is rejected
Ends options (Err (Line number fault)) r w Untouched = (r.failed ≡ false) × (w.failed ≡ false)
    × BeganUpTo r (λ before line. (number ≡ length before + 1)
    × (bounds_lines options (before ++ line ∷ []) ≡ Err fault) × Wrote options before w Untouched)
Ends options (Err Memory) r w Untouched =
    (r.failed ≡ false) × (w.failed ≡ false) × Began r (λ lines. Wrote options lines w Untouched)
Ends options (Err Write) r w Untouched =
    (r.failed ≡ false) × (w.failed ≡ true)
    × BeganUpTo r (λ before line. WrotePart options before line w)
Ends options (Err (Words fault)) r w Untouched = ⊥
