-- The number of lines of a population and the digest of their bytes, and what a reader of lines
-- stores of both.
use Rattle.std.specs.Prelude.{◌≡◌, ℕ, List, [], ◌∷◌, ◌++◌, length, Option, Some, None, IfSome}
use Rattle.std.specs.List.{flat_map}
use Rattle.sha2.specs.Hashers.{Holds256}
use Rattle.sha2.specs.Sha256.{sha256}
use Rattle.zs_lines.specs.Buffers.{ahead}
use Rattle.zs_lines.specs.Lines.{lines_of}
use Rattle.zs_population.specs.declared.lines.LineReader.{LineReader}
use Rattle.zs_population.specs.declared.lines.Sums.{Sums}

-- the bytes of lines, each with its newline
abbrev pub bytes_of : List (List ℕ) → List ℕ
bytes_of lines = flat_map (λ line. line ++ 10 ∷ []) lines

-- the sums of lines
abbrev pub sums_of : List (List ℕ) → Sums
sums_of lines = record { lines = length lines; digest = sha256 (bytes_of lines) }

-- These are the sums of the lines of some bytes, if they are known.
abbrev pub HasSums : Option (List ℕ) → Sums → Type 0
HasSums before sums = IfSome before (λ known. sums ≡ sums_of (lines_of known))

-- Of these lines those before the bytes ahead were counted and digested.
abbrev pub IsSummed : List (List ℕ) → LineReader → Option (List ℕ) → Type 0
IsSummed all reader None = ⊥
IsSummed all reader (Some rest) = (done : List (List ℕ)) × (all ≡ done ++ lines_of rest)
    × (reader.count ≡ length done) × Holds256 reader.digest (bytes_of done)

-- What was read between two moments was counted and digested.
abbrev pub KeepsSums : LineReader → Option (List ℕ) → LineReader → Option (List ℕ) → Type 0
KeepsSums old before new left =
    (all : List (List ℕ)) → IsSummed all old before → IsSummed all new left

-- What a call read from a reader was counted and digested.
abbrev pub CountsLines : {R : Type 0} → (R → Option (List ℕ)) → LineReader → R → LineReader → R
    → Type 0
CountsLines remaining old before new after =
    KeepsSums old (ahead remaining old.buffer before) new (ahead remaining new.buffer after)
