-- The text of a list of outputs, one output after another.
use Rattle.std.proofs.Common.{String, ◌≡◌, ◌≤◌, ℕ, zero, suc, List, [], ◌∷◌, ◌++◌, ◌<◌, ◌+◌, refl, sym, ap, ◌∙◌, append_assoc, subst, take, drop, get_or, length, arith, length-take-le}
use Rattle.std.specs.Prelude.{codes, Result, Ok, Err, OnOk, is_ok, if◌then◌else◌, string_bytes, IsUtf8, IsCharBoundary}
use Rattle.std.proofs.lemmas.List.{take-append-drop, length-take}
use Rattle.std.proofs.lemmas.Str.{IsUtf8-string_bytes, IsCharBoundary-from_take}
use Rattle.std.proofs.Math.Seq.{take-length, take-append_seam}
use Rattle.zs_term.specs.Output.{Output, Outputs, none, more, outputs_of, output_of, with_last}
use Rattle.zs_term.specs.OutputText.{output_text, outputs_text, behind_text, IsBeginning}
use Rattle.zs_term.specs.declared.outputs.Out.{Out}
use Rattle.zs_term.proofs.Completeness.{append_nil}
use Rattle.zs_term.proofs.Values.{outputs_of-take}

-- the comma before an output of a list, except before the first
abbrev pub comma_before : ℕ → List ℕ
comma_before zero = []
comma_before (suc place) = codes ","

pub comma_after : (place : ℕ) → 0 < place → comma_before place ≡ codes ","
comma_after zero later = absurd (omega (arith, later))
comma_after (suc place) later = refl

pub no_comma : (place : ℕ) → place ≤ 0 → comma_before place ≡ []
no_comma zero first = refl
no_comma (suc place) first = absurd (omega (arith, first))

-- one more output after the first
behind_last : (xs : Outputs) (y : Output) → behind_text (with_last xs y) ≡ behind_text xs ++ (codes "," ++ output_text y)
behind_last none y = ap (λ w. codes "," ++ w) (append_nil (output_text y))
behind_last (more x xs) y = ap (λ w. codes "," ++ (output_text x ++ w)) (behind_last xs y) ∙ ap (λ w. codes "," ++ w) (sym (append_assoc (output_text x) (behind_text xs) (codes "," ++ output_text y)))

-- one more output at the end
text_last : (xs : List Out) (i : ℕ) (y : Output) → i ≡ length xs → outputs_text (with_last (outputs_of xs) y) ≡ outputs_text (outputs_of xs) ++ (comma_before i ++ output_text y)
text_last [] zero y e = append_nil (output_text y)
text_last [] (suc i) y e = absurd (omega (arith, e))
text_last (x ∷ xs) zero y e = absurd (omega (arith, e))
text_last (x ∷ xs) (suc i) y e = ap (λ w. output_text (output_of x) ++ w) (behind_last (outputs_of xs) y) ∙ sym (append_assoc (output_text (output_of x)) (behind_text (outputs_of xs)) (codes "," ++ output_text y))

-- the text of a list with one more output
pub text_grown : (start text middle longer : List ℕ) (xs : List Out) (i : ℕ) (y : Out) → i < length xs → y ≡ get_or xs i y
    → text ≡ start ++ outputs_text (outputs_of (take i xs)) → middle ≡ text ++ comma_before i → longer ≡ middle ++ output_text (output_of y)
    → longer ≡ start ++ outputs_text (outputs_of (take (i + 1) xs))
text_grown start text middle longer xs i y inside is before comma added =
    let front = outputs_text (outputs_of (take i xs)) in
    let count : i ≡ length (take i xs) = omega (arith, length-take-le i xs, inside) in
    let last = outputs_of-take xs i y inside ∙ ap (λ z. with_last (outputs_of (take i xs)) (output_of z)) (sym is) in
    let whole = ap outputs_text last ∙ text_last (take i xs) i (output_of y) count in
    added ∙ ap (λ w. w ++ output_text (output_of y)) (comma ∙ ap (λ w. w ++ comma_before i) before)
    ∙ append_assoc (start ++ front) (comma_before i) (output_text (output_of y)) ∙ append_assoc start front (comma_before i ++ output_text (output_of y))
    ∙ ap (λ w. start ++ w) (sym whole)

-- the text of a list in brackets, after the closing one was appended
pub text_enclosed : {T E : Type 0} (last : Result T E) (start one two three inner : List ℕ) → one ≡ start ++ codes "[" → two ≡ one ++ inner
    → three ≡ (if is_ok last then two ++ codes "]" else two) → OnOk last (three ≡ start ++ (codes "[" ++ (inner ++ codes "]")))
text_enclosed (Ok u) start one two three inner e f g =
    g ∙ ap (λ w. w ++ codes "]") (f ∙ ap (λ w. w ++ inner) e) ∙ append_assoc (start ++ codes "[") inner (codes "]") ∙ append_assoc start (codes "[") (inner ++ codes "]")
text_enclosed (Err u) start one two three inner e f g = tt

-- a text begins with itself
pub begins_with_itself : (xs : List ℕ) → IsBeginning xs xs
begins_with_itself xs = take-length xs

-- a text begins with what it was before more was appended
pub begins_with_more : (old new added : List ℕ) → new ≡ old ++ added → IsBeginning old new
begins_with_more old new added is = subst (IsBeginning old) (sym is) (take-append_seam old added)

-- a text begins with what it was before a call that may have appended to it
pub begins_pushed : {T E : Type 0} (pushed : Result T E) (old new added : List ℕ) → new ≡ (if is_ok pushed then old ++ added else old) → IsBeginning old new
begins_pushed (Ok u) old new added is = begins_with_more old new added is
begins_pushed (Err u) old new added is = subst (IsBeginning old) (sym is) (begins_with_itself old)

-- the beginning of a beginning
pub begins_both : (xs ys zs : List ℕ) → IsBeginning xs ys → IsBeginning ys zs → IsBeginning xs zs
begins_both xs ys zs first second =
    let middle : ys ≡ xs ++ drop (length xs) ys = sym (take-append-drop (length xs) ys) ∙ ap (λ w. w ++ drop (length xs) ys) first in
    let whole : zs ≡ ys ++ drop (length ys) zs = sym (take-append-drop (length ys) zs) ∙ ap (λ w. w ++ drop (length ys) zs) second in
    let grown = whole ∙ ap (λ w. w ++ drop (length ys) zs) middle ∙ append_assoc xs (drop (length xs) ys) (drop (length ys) zs) in
    subst (IsBeginning xs) (sym grown) (take-append_seam xs (drop (length xs) ys ++ drop (length ys) zs))

-- a text that begins with another may be cut after that
pub cut_after : {A B : Type 0} (old : String A) (new : String B) → IsBeginning (string_bytes old) (string_bytes new) → IsCharBoundary (string_bytes new) (length (string_bytes old))
cut_after old new begins =
    let bytes = string_bytes new in
    let count = length (string_bytes old) in
    let inside : count ≤ length bytes = omega (arith, length-take count bytes, ap (λ (xs : List ℕ). length xs) begins) in
    IsCharBoundary-from_take bytes count (IsUtf8-string_bytes new) inside (subst IsUtf8 (sym begins) (IsUtf8-string_bytes old))
