-- The lines that a reader of lines counts and digests.
use Rattle.std.proofs.Common.{◌≡◌, ◌+◌, ℕ, List, [], ◌∷◌, ◌++◌, Option, None, Some, sym, ap, ◌∙◌}
use Rattle.std.proofs.Common.{append_assoc, append-nil, length-append, arith}
use Rattle.std.specs.Io.KnownBytes.{IsAtEnd, prepend_known}
use Rattle.std.specs.Prelude.{IfSome}
use Rattle.std.proofs.lemmas.Grind.{flat_map-append}
use Rattle.sha2.specs.Hashers.{Holds256}
use Rattle.sha2.specs.declared.Sha256.{Sha256}
use Rattle.zs_lines.specs.Buffers.{Took}
use Rattle.zs_lines.specs.Lines.{lines_of}
use Rattle.zs_lines.proofs.LineLemmas.{all-read}
use Rattle.zs_population.specs.Sums.{IsSummed, KeepsSums, bytes_of}
use Rattle.zs_population.specs.declared.lines.LineReader.{LineReader}

-- the bytes of one line more
bytes-more : (done : List (List ℕ)) (line : List ℕ) →
    bytes_of (done ++ line ∷ []) ≡ (bytes_of done ++ line) ++ 10 ∷ []
bytes-more done line =
    flat_map-append (λ (one : List ℕ). one ++ 10 ∷ []) done (line ∷ [])
    ∙ ap (λ (bs : List ℕ). bytes_of done ++ bs) (append-nil (line ++ 10 ∷ []))
    ∙ sym (append_assoc (bytes_of done) line (10 ∷ []))

-- one line more was counted and digested
pub sums-more : (old new : LineReader) (mid : Sha256) (before left : Option (List ℕ))
    (line : List ℕ) → Took before left (line ∷ []) → new.count ≡ old.count + 1
    → ((m : List ℕ) → Holds256 old.digest m → Holds256 mid (m ++ line))
    → ((m : List ℕ) → Holds256 mid m → Holds256 new.digest (m ++ 10 ∷ []))
    → KeepsSums old before new left
sums-more old new mid None left line took counts first next all is = absurd is
sums-more old new mid (Some xs) None line took counts first next all is = absurd took
sums-more old new mid (Some xs) (Some ys) line took counts first next all is = (
  is.0 ++ line ∷ [],
  is.1 ∙ ap (λ (lines : List (List ℕ)). is.0 ++ lines) took
      ∙ sym (append_assoc is.0 (line ∷ []) (lines_of ys)),
  omega (arith, counts, is.2, length-append is.0 (line ∷ [])),
  rw (bytes-more is.0 line) (next (bytes_of is.0 ++ line) (first (bytes_of is.0) is.3)),
)

-- no line was read
pub sums-same : (old new : LineReader) (before left : Option (List ℕ)) → Took before left [] →
    new.count ≡ old.count → new.digest ≡ old.digest → KeepsSums old before new left
sums-same old new None left took counts digests all is = absurd is
sums-same old new (Some xs) None took counts digests all is = absurd took
sums-same old new (Some xs) (Some ys) took counts digests all is = (
  is.0,
  is.1 ∙ ap (λ (lines : List (List ℕ)). is.0 ++ lines) took,
  counts ∙ is.2,
  rw digests is.3,
)

-- all lines were counted and digested
pub sums-ended : (all : List (List ℕ)) (reader : LineReader) (left : Option (List ℕ)) →
    IsSummed all reader left → IsAtEnd left → IsSummed all reader (Some [])
sums-ended all reader None is end = absurd is
sums-ended all reader (Some xs) is end = rw end at is

-- all bytes were read
pub ended-known : (before left : Option (List ℕ)) (buffer : List ℕ) (lines : List (List ℕ))
    → Took before (prepend_known buffer left) lines → IsAtEnd (prepend_known buffer left)
    → IfSome before (λ known. left ≡ Some [])
ended-known None left buffer lines took end = tt
ended-known (Some xs) left buffer lines took end = (all-read (Some xs) left buffer lines took end).1

-- the lines of known bytes were counted and digested before, and so up to now
pub summed-on : (start : Option (List ℕ)) (old new : LineReader) (before left : Option (List ℕ))
    → KeepsSums old before new left
    → IfSome start (λ known. IsSummed (lines_of known) old before)
    → IfSome start (λ known. IsSummed (lines_of known) new left)
summed-on None old new before left keeps is = tt
summed-on (Some xs) old new before left keeps is = keeps (lines_of xs) is

-- nothing of known bytes was read yet
pub summed-first : (start : Option (List ℕ)) (reader : LineReader) → reader.buffer ≡ []
    → ((known : List ℕ) → IsSummed (lines_of known) reader (Some known))
    → IfSome start (λ known. IsSummed (lines_of known) reader (prepend_known reader.buffer start))
summed-first None reader empty is = tt
summed-first (Some xs) reader empty is = rw empty (is xs)
