-- The state of a run between two lines, and what one line adds to it.
use Rattle.std.specs.Prelude.{◌≡◌, ◌≤◌, ℕ, List, length, take, true, false, Option, Result, Ok, Err}
use Rattle.std.specs.Prelude.{⊤}
use Rattle.std.specs.Io.KnownBytes.{Appends}
use Rattle.zs_run.specs.Headline.{Writing}
use Rattle.zs_lines.specs.Buffers.{Took}
use Rattle.zs_bounds_lines.specs.BoundsLines.{line_text}
use Rattle.zs_bounds_lines.specs.Ending.{IsWhole, Wrote}
use Rattle.zs_bounds_lines.specs.Policies.{policy_of}
use Rattle.zs_bounds_lines.specs.declared.fault.BoundsFault.{BoundsFault}
use Rattle.zs_bounds_lines.specs.declared.fault.BoundsFault.TheVariants.{Read, Line, Memory, Write}
use Rattle.zs_bounds_lines.specs.declared.fault.BoundsFault.TheVariants.{Words}
use Rattle.zs_bounds_lines.specs.declared.options.Options.{Options}

-- why a line has no policy that can be used
abbrev pub IsNoPolicy : ℕ → List ℕ → BoundsFault → Type 0
IsNoPolicy number line Read = ⊥
IsNoPolicy number line (Line at fault) = (at ≡ number) × (policy_of line ≡ Err fault)
IsNoPolicy number line Memory = ⊤
IsNoPolicy number line Write = ⊥
IsNoPolicy number line (Words fault) = ⊥

-- What one line adds, by the result. `Untouched` says that the writer is unchanged.
abbrev pub LineEnds : Options → ℕ → List ℕ
    → Result (Unit {0}) BoundsFault → Writing → Type 0 → Type 0
LineEnds options number line (Ok done) w Untouched = (w.failed ≡ false)
    × ((text : List ℕ) × (line_text options (policy_of line) ≡ Ok text)
    × Appends w.before w.taken text × IsWhole text w.flushed Untouched)
LineEnds options number line (Err Read) w Untouched = ⊥
LineEnds options number line (Err (Line at fault)) w Untouched =
    (w.failed ≡ false) × Untouched × (at ≡ number) × (policy_of line ≡ Err fault)
LineEnds options number line (Err Memory) w Untouched = (w.failed ≡ false) × Untouched
LineEnds options number line (Err Write) w Untouched = (w.failed ≡ true)
    × ((text : List ℕ) × (sent : ℕ) × (line_text options (policy_of line) ≡ Ok text)
    × (sent ≤ length text) × Appends w.before w.taken (take sent text))
LineEnds options number line (Err (Words fault)) w Untouched = ⊥

-- Some lines were read, `count` of them, and what belongs to them was written. `ahead` are the
-- bytes that the reader and the buffer had before and have now.
pub record IsDone (options : Options) (ahead ahead_now : Option (List ℕ))
    (count : ℕ) (w : Writing) (Untouched : Type 0) : Type 0 where
  pub lines : List (List ℕ)
  pub read : Took ahead ahead_now lines
  pub many : length lines ≡ count
  pub wrote : Wrote options lines w Untouched
