-- Bytes that were read and not used yet, and the lines that come next.
use Rattle.std.specs.Prelude.{◌≡◌, ◌<◌, ℕ, List, [], ◌∷◌, ◌++◌, ◌==◌, length, Bool, true, false, ⊤}
use Rattle.std.specs.Prelude.{Option, None, Some, IfSome, Result, Ok, Err}
use Rattle.std.specs.Io.KnownBytes.{IsAtEnd, prepend_known}
use Rattle.zs_lines.specs.Lines.{lines_of}
use Rattle.zs_lines.specs.declared.buffer.LineFault.{LineFault}
use Rattle.zs_lines.specs.declared.buffer.LineFault.TheVariants.{Read, TooLong, Memory}

-- how many bytes are read at a time, at most
abbrev pub chunk : ℕ
chunk = 65536

-- the bytes that come next: those of the buffer, then the reader's
abbrev pub ahead : {R : Type 0} → (R → Option (List ℕ)) → List ℕ → R → Option (List ℕ)
ahead remaining buffer reader = prepend_known buffer (remaining reader)

-- none of the bytes is a newline
abbrev pub IsOneLine : List ℕ → Type 0
IsOneLine [] = ⊤
IsOneLine (b ∷ bs) = ((b == 10) ≡ false) × IsOneLine bs

-- Known bytes began with these lines, and lost them.
abbrev pub Took : Option (List ℕ) → Option (List ℕ) → List (List ℕ) → Type 0
Took None new lines = ⊤
Took (Some xs) None lines = ⊥
Took (Some xs) (Some ys) lines = lines_of xs ≡ lines ++ lines_of ys

-- Known bytes begin with these lines.
abbrev pub BeginsWith : Option (List ℕ) → List (List ℕ) → Type 0
BeginsWith known lines = IfSome known (λ xs. (rest : List (List ℕ)) × (lines_of xs ≡ lines ++ rest))

-- What `next_line` returns: whether there is a line, and which; or that the next line has more
-- bytes than the limit.
abbrev pub LineRead : ℕ → Result Bool LineFault
    → Option (List ℕ) → Option (List ℕ) → List ℕ → Type 0
LineRead limit (Ok true) old new line = Took old new (line ∷ [])
LineRead limit (Ok false) old new line = Took old new [] × IsAtEnd new
LineRead limit (Err Read) old new line = ⊤
LineRead limit (Err TooLong) old new line =
    (long : List ℕ) × (limit < length long) × BeginsWith old (long ∷ [])
LineRead limit (Err Memory) old new line = ⊤
