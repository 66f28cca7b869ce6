-- A reader and a writer before and after a call.
use Rattle.std.specs.Prelude.{◌≡◌, ◌≤◌, ℕ, List, length, take, Bool, true, false, Option}
use Rattle.std.specs.Prelude.{Result, Ok, Err}
use Rattle.std.specs.Io.KnownBytes.{Appends, prepend_known}
use Rattle.zs_run.specs.Headline.{Reading, Writing}

-- a reader before and after a call
abbrev pub reading : {R : Type 0} → (R → Option (List ℕ)) → (R → Bool) → R → R → Reading
reading remaining mark old new =
    record { before = remaining old; left = remaining new; failed = mark new }

-- a reader with the bytes of a buffer before its bytes
abbrev pub with_buffer : List ℕ → Reading → Reading
with_buffer buffer r =
    record { before = prepend_known buffer r.before; left = r.left; failed = r.failed }

-- a writer before and after a call
abbrev pub writing : {W : Type 0} → (W → Option (List ℕ)) → (W → Bool) → (W → Bool)
    → W → W → Writing
writing contents mark flushed old new = record {
  before = contents old;
  taken = contents new;
  failed = mark new;
  flushed = flushed new;
}

-- A writer before and after a call has property P, which also takes whether it is unchanged.
abbrev pub ByWriter : {W : Type 0} → (W → Option (List ℕ)) → (W → Bool) → (W → Bool) → W → W
    → (Writing → Type 0 → Type 0) → Type 0
ByWriter contents mark flushed old new P = P (writing contents mark flushed old new) (new ≡ old)

-- This text was written and flushed. If that failed, the first `sent` bytes of it were written, and
-- `fault sent` is the fault.
abbrev pub WroteText : {E : Type 0} → (ℕ → E) → List ℕ → Result (Unit {0}) E → Writing → Type 0
WroteText fault text (Ok done) w =
    (w.failed ≡ false) × Appends w.before w.taken text × (w.flushed ≡ true)
WroteText fault text (Err e) w = (w.failed ≡ true) × ((sent : ℕ) × (e ≡ fault sent)
    × (sent ≤ length text) × Appends w.before w.taken (take sent text))
