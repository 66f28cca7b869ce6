-- Lines that were read past.
use Rattle.std.specs.Prelude.{◌≡◌, ℕ, List, drop, ⊤, Option, Some, None}
use Rattle.zs_lines.specs.Lines.{lines_of}

-- Known bytes lost this number of lines from their front, or all if they had fewer.
abbrev pub Skipped : ℕ → Option (List ℕ) → Option (List ℕ) → Type 0
Skipped count None new = ⊤
Skipped count (Some xs) None = ⊥
Skipped count (Some xs) (Some ys) = drop count (lines_of xs) ≡ lines_of ys
