-- The lines of bytes. Each ends at a newline, which isn't part of it. The last one may end with
-- the bytes.
use Rattle.std.specs.Prelude.{ℕ, List, [], ◌∷◌, ◌==◌, if◌then◌else◌}

-- the same lines, with one byte more at the front of the first
abbrev pub begin_with : ℕ → List (List ℕ) → List (List ℕ)
begin_with b [] = (b ∷ []) ∷ []
begin_with b (line ∷ lines) = (b ∷ line) ∷ lines

-- the lines of bytes
abbrev pub lines_of : List ℕ → List (List ℕ)
lines_of [] = []
lines_of (b ∷ bs) = if b == 10 then [] ∷ lines_of bs else begin_with b (lines_of bs)
