-- The first newline among bytes.
use Rattle.std.proofs.Common.{◌≡◌, ◌<◌, ◌≤◌, ◌==◌, ◌+◌, ◌-◌, ℕ, suc, List, [], ◌∷◌, ◌++◌, length}
use Rattle.std.proofs.Common.{take, drop, Bool, true, false, refl, sym, ap, ◌∙◌, arith, drop-cons}
use Rattle.std.proofs.Common.{add-one}
use Rattle.std.specs.Prelude.{slice_index}
use Rattle.std.proofs.lemmas.Bool.{eqb-true}
use Rattle.std.proofs.lemmas.List.{take-append-drop, get_or-take, length-take-le, length-drop}
use Rattle.std.proofs.lemmas.List.{take_all}
use Rattle.memchr.specs.Find.{Nowhere, Passes, is_byte}
use Rattle.zs_lines.specs.Buffers.{IsOneLine}

not-true : (b : Bool) → (b ≡ true → ⊥) → b ≡ false
not-true true not = absurd (not refl)
not-true false not = refl

-- no byte is a newline
pub one_line-nowhere : (bs : List ℕ) (n : ℕ) → n ≡ length bs →
    Nowhere (Passes (is_byte 10) bs) 0 n → IsOneLine bs
one_line-nowhere [] n all none = tt
one_line-nowhere (b ∷ bs) n all none = (
  not-true (b == 10) (λ is. none 0 (omega arith) (omega arith) is),
  one_line-nowhere bs (length bs) refl (λ k low high is. none (k + 1) (omega arith) (omega arith)
      (rw (add-one k) is)),
)

-- the bytes up to a newline
pub one_line-before : (bs : List ℕ) (at : ℕ) → at ≤ length bs →
    Nowhere (Passes (is_byte 10) bs) 0 at → IsOneLine (take at bs)
one_line-before bs at within none =
    one_line-nowhere (take at bs) at (sym (length-take-le at bs within))
    (λ k low high is. none k low high (rw (get_or-take at bs k 0 high) at is))

-- the bytes by their newline
pub at-newline : (bs : List ℕ) (at : ℕ) → at < length bs → Passes (is_byte 10) bs at →
    bs ≡ take at bs ++ 10 ∷ drop (at + 1) bs
at-newline bs at within is =
    let here : slice_index bs at ≡ 10 = eqb-true (slice_index bs at) 10 is in
    sym (take-append-drop at bs) ∙ ap (λ rest. take at bs ++ rest) (drop-cons bs at 0 within
    ∙ ap (λ b. b ∷ drop (suc at) bs) here ∙ ap (λ n. 10 ∷ drop n bs) (sym (add-one at)))

-- what a slice from a place on is
pub rest-is : (from : ℕ) (bytes items : List ℕ) → bytes ≡ items →
    take (length bytes - from) (drop from bytes) ≡ drop from items
rest-is from bytes items is =
    take_all (length bytes - from) (drop from bytes) (omega (arith, length-drop from bytes))
    ∙ ap (drop from) is
