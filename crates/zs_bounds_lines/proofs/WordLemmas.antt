-- The request of words, option by option.
use Rattle.std.proofs.Common.{◌≡◌, ◌<◌, ◌≤◌, ◌+◌, ◌==◌, ℕ, List, [], ◌∷◌, map, length, drop, false, Ok, Some, None, codes, refl, sym, ap, ◌∙◌, arith, drop-cons, add-one, String, Global, string_bytes}
use Rattle.std.proofs.lemmas.List.{length-drop}
use Rattle.std.specs.Prelude.{bytes_eq, slice_index, ◌&&◌}
use Rattle.zs_bounds_lines.specs.Words.{dots_from, request_from, unless_alone, with_option}
use Rattle.zs_bounds_lines.specs.declared.options.Options.{Options}

-- an option and its value
pub two_words : (options new : Options) (words rest : List (String Global)) (name value : String Global) → words ≡ name ∷ (value ∷ rest)
    → bytes_eq (string_bytes name) (codes "--help") ≡ false → bytes_eq (string_bytes name) (codes "--version") ≡ false
    → with_option (string_bytes name) (string_bytes value) options ≡ Ok new
    → request_from options (map string_bytes words) ≡ request_from new (map string_bytes rest)
unfolding unless_alone
two_words options new words rest name value is help version option = rw (is, help, version, option) refl

-- ---- two dots

-- a text from a place on, by its byte there
from-here : (text : List ℕ) (at : ℕ) → at < length text → drop at text ≡ slice_index text at ∷ drop (at + 1) text
from-here text at within = drop-cons text at 0 within ∙ ap (λ n. slice_index text at ∷ drop n text) (sym (add-one at))

-- they are here
pub dots_here : (text : List ℕ) (at : ℕ) → at + 1 < length text → slice_index text at ≡ 46 → slice_index text (at + 1) ≡ 46
    → dots_from at (drop at text) ≡ Some at
dots_here text at within first second =
    ap (dots_from at) (from-here text at (omega (arith, within)) ∙ ap (λ bs. slice_index text at ∷ bs) (from-here text (at + 1) within))
    ∙ (rw (first, second) refl)

-- they aren't
pub dots_next : (text : List ℕ) (at : ℕ) → at + 1 < length text → (slice_index text at == 46 && slice_index text (at + 1) == 46) ≡ false
    → dots_from at (drop at text) ≡ dots_from (at + 1) (drop (at + 1) text)
dots_next text at within other =
    let rest = from-here text (at + 1) within in
    ap (dots_from at) (from-here text at (omega (arith, within)) ∙ ap (λ bs. slice_index text at ∷ bs) rest)
    ∙ (rw other (ap (dots_from (at + 1)) (sym rest)))

at-most-one : (at : ℕ) (bs : List ℕ) → length bs ≤ 1 → dots_from at bs ≡ None
at-most-one at [] few = refl
at-most-one at (b ∷ []) few = refl
at-most-one at (b ∷ (c ∷ cs)) few = absurd (omega (arith, few))

-- there is no room for them
pub dots_end : (text : List ℕ) (at : ℕ) → length text ≤ at + 1 → dots_from at (drop at text) ≡ None
dots_end text at few = at-most-one at (drop at text) (omega (arith, length-drop at text, few))
