-- Texts after the first bytes of a buffer: for private contracts alone.
use Rattle.std.specs.Prelude.{ℕ, List, ◌++◌, take, drop}
use Rattle.zs_c.specs.Told.{written}

-- a buffer with a text written after its first bytes, as far as the text fits
abbrev pub written_at : ℕ → List ℕ → List ℕ → List ℕ
written_at at text room = take at room ++ written text (drop at room)
