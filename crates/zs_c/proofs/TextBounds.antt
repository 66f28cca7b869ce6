-- The text of an output is short: its length fits 64 bits.
use Rattle.std.proofs.Common.{◌≡◌, ℕ, ◌+◌, ◌*◌, ◌^◌, ◌<◌, ◌≤◌, Option, Some, None, List, [], ◌∷◌}
use Rattle.std.proofs.Common.{◌++◌, length, refl, sym, true, subst, arith}
use Rattle.std.specs.Fmt.{decimal}
use Rattle.std.proofs.lemmas.Fmt.{length-decimal-le}
use Rattle.std.proofs.lemmas.List.{length-append}
use Rattle.zs_term.specs.Saturating.{saturated}
use Rattle.zs_term.specs.Output.{Output, number, pair, left, right, listed, first_in, second_in}
use Rattle.zs_term.specs.Output.{merge_in}
use Rattle.zs_term.specs.OutputText.{output_text}
use Rattle.zs_term.specs.Schedule.{Schedule, Leaf, weight, leaf, two, over, both, either, and_then}
use Rattle.zs_term.specs.Schedule.{while_input, while_output, collect_all, mapped, reset_when}
use Rattle.zs_term.specs.declared.term.Func.{Func}
use Rattle.zs_term.specs.declared.term.Func.TheVariants.{First, Second, Size, Merge, Const, Add}
use Rattle.zs_term.specs.declared.term.Func.TheVariants.{Mul}
use Rattle.zs_term.specs.Output.{applied, count, size_in, number_in}
use Rattle.zs_step.specs.History.{History, earlier}
use Rattle.zs_c.specs.Words.{sequel_words}
use Rattle.zs_c.specs.Shown.{shows_no_list}
use Rattle.zs_c.specs.View.{Listless}
use Rattle.zs_step.specs.Answer.{Answer, answer_of, leaf_answer, from_done, sequel_of, since_reset}
use Rattle.zs_step.specs.Answer.{collected}
use Rattle.zs_c.specs.Code.{code_of, func_number, held_of, leaf_held}
use Rattle.zs_c.proofs.Leaves.{leaf-number}
use Rattle.zs_c.proofs.Listless.{shown-free}

-- each word fits 64 bits
abbrev pub AllFit : List ℕ → Type 0
AllFit [] = Unit {0}
AllFit (w ∷ ws) = (w < 2 ^ 64) × AllFit ws

-- of two lists, one after the other
pub fit-first : (xs ys : List ℕ) → AllFit (xs ++ ys) → AllFit xs
fit-first [] ys all = tt
fit-first (x ∷ xs) ys all = (all.0, fit-first xs ys all.1)

pub fit-second : (xs ys : List ℕ) → AllFit (xs ++ ys) → AllFit ys
fit-second [] ys all = all
fit-second (x ∷ xs) ys all = fit-second xs ys all.1

-- the digits of a number
pub digits-few : (n : ℕ) → n < 2 ^ 64 → length (decimal n) ≤ 20
digits-few n small = length-decimal-le 20 n (omega arith) (omega arith) small

-- a pair
pub pair-length : (a b : Output) →
    length (output_text (pair a b)) ≡ 3 + length (output_text a) + length (output_text b)
pair-length a b = simp length-append (omega arith)

-- the length of an output's text; that of a list is the length of the digits of its size
abbrev pub text_size : Output → ℕ
text_size (number n) = length (decimal n)
text_size (pair a b) = 3 + text_size a + text_size b
text_size (left a) = 6 + text_size a
text_size (right a) = 7 + text_size a
text_size (listed xs) = length (decimal (count xs))

-- without a list that is the length
pub text-sized : (o : Output) → Listless o → length (output_text o) ≡ text_size o
text-sized (number n) free = refl
text-sized (pair a b) free =
    omega (arith, pair-length a b, text-sized a free.0, text-sized b free.1)
text-sized (left a) free = let size = text-sized a free in simp length-append (omega (arith, size))
text-sized (right a) free = let size = text-sized a free in simp length-append (omega (arith, size))
text-sized (listed xs) free = absurd free

-- a part of an output is no longer
first-text : (o : Output) → text_size (first_in o) ≤ text_size o
first-text (number n) = omega arith
first-text (pair a b) = omega arith
first-text (left a) = omega arith
first-text (right a) = omega arith
first-text (listed xs) = omega arith

second-text : (o : Output) → text_size (second_in o) ≤ text_size o
second-text (number n) = omega arith
second-text (pair a b) = omega arith
second-text (left a) = omega arith
second-text (right a) = omega arith
second-text (listed xs) = omega arith

merged-text : (o : Output) → text_size (merge_in o) ≤ text_size o
merged-text (number n) = omega arith
merged-text (pair a b) = omega arith
merged-text (left a) = omega arith
merged-text (right a) = omega arith
merged-text (listed xs) = omega arith

-- the size of a list, or 0
counted-text : (o : Output) (x : ℕ) → text_size o ≤ x → 20 ≤ x → length (decimal (size_in o)) ≤ x
counted-text (number n) x short some = omega (arith, digits-few 0 (omega arith), some)
counted-text (pair a b) x short some = omega (arith, digits-few 0 (omega arith), some)
counted-text (left a) x short some = omega (arith, digits-few 0 (omega arith), some)
counted-text (right a) x short some = omega (arith, digits-few 0 (omega arith), some)
counted-text (listed xs) x short some = short

-- a leaf's output is the number that its words begin with
leaf-text : (l : Leaf) (h : History) → AllFit (leaf_held l h) →
    text_size (leaf_answer l h).output ≤ 20
leaf-text l h all = subst (λ o. text_size o ≤ 20) (sym (leaf-number l h)) (digits-few _ all.0)

-- the result of a function is no longer than its argument, or a number
applied-text : (f : Func) (o : Output) (x : ℕ) → func_number f < 2 ^ 64 → text_size o ≤ x → 20 ≤ x →
    text_size (applied f o) ≤ x
applied-text First o x small short some = omega (arith, first-text o, short)
applied-text Second o x small short some = omega (arith, second-text o, short)
applied-text Merge o x small short some = omega (arith, merged-text o, short)
applied-text Size o x small short some = counted-text o x short some
applied-text (Const n) o x small short some = omega (arith, digits-few n small)
applied-text (Add n) o x small short some =
    omega (arith, digits-few (saturated (number_in o + n)) (omega arith))
applied-text (Mul n) o x small short some =
    omega (arith, digits-few (saturated (number_in o * n)) (omega arith))

-- whichever part is active
sequel-text : (o : Option History) (a : Answer) (b : History → Answer) (x y : ℕ) →
    (o ≡ None → text_size a.output ≤ x) →
    ((g : History) → o ≡ Some g → text_size (b g).output ≤ y) →
    text_size (sequel_of o a b).output ≤ 8 + x + y
sequel-text None a b x y first second = let short = first refl in omega (arith, short)
sequel-text (Some g) a b x y first second = let short = second g refl in omega (arith, short)

-- the text of an output of a schedule whose words of code and of state fit 64 bits
text-bound : (t : Schedule) (h : History) → AllFit (code_of t) → AllFit (held_of t h) →
    text_size (answer_of t h).output ≤ 32 * weight t
text-bound (leaf l) h coded held = omega (arith, leaf-text l h held)
text-bound (two both a b) h coded held =
    let codes = coded.1.1.1 in
    let first = text-bound a h (fit-first (code_of a) (code_of b) codes)
    (fit-first (held_of a h) (held_of b h) held) in
    let second = text-bound b h (fit-second (code_of a) (code_of b) codes)
    (fit-second (held_of a h) (held_of b h) held) in
    omega (arith, first, second)
text-bound (two either a b) h coded held =
    let codes = coded.1.1.1 in
    let first = text-bound a h (fit-first (code_of a) (code_of b) codes)
    (fit-first (held_of a h) (held_of b h) held) in
    let second = text-bound b h (fit-second (code_of a) (code_of b) codes)
    (fit-second (held_of a h) (held_of b h) held) in
    omega (arith, first, second)
text-bound (two and_then a b) h coded held =
    let codes = coded.1.1.1 in
    omega (
      arith,
      sequel-text (from_done (answer_of a) h) (answer_of a h) (answer_of b) (32 * weight a)
          (32 * weight b)
          (λ none. text-bound a h (fit-first (code_of a) (code_of b) codes)
          (fit-first (held_of a h) (held_of b [])
          (subst (λ o. AllFit (sequel_words o (held_of a) (held_of b) h)) none held).1))
          (λ g some. text-bound b g (fit-second (code_of a) (code_of b) codes)
          (fit-second (held_of a []) (held_of b g)
          (subst (λ o. AllFit (sequel_words o (held_of a) (held_of b) h)) some held).1)),
    )
text-bound (over s (while_input t)) h coded held = omega (arith, text-bound s h coded.1.1.1 held)
text-bound (over s (while_output k t)) h coded held =
    omega (arith, text-bound s h coded.1.1.1.1 held)
text-bound (over s (mapped f)) h coded held =
    let short = text-bound s h coded.1.1.1 held in
    applied-text f (answer_of s h).output (32 * weight (over s (mapped f))) coded.1.1.0
    (omega (arith, short)) (omega arith)
text-bound (over s (reset_when k t)) h coded held =
    omega (arith, text-bound s (since_reset (answer_of s) k t h) coded.1.1.1.1 held)
text-bound (over s collect_all) h coded held =
    omega (arith, digits-few (count (collected (answer_of s) (earlier h))) held.0)

-- the text of an output without a list
pub shown-bound : (t : Schedule) (h : History) → shows_no_list t ≡ true → AllFit (code_of t) →
    AllFit (held_of t h) →
    length (output_text (answer_of t h).output) ≤ 32 * weight t
shown-bound t h free coded held =
    omega (
      arith,
      text-sized (answer_of t h).output (shown-free t h free),
      text-bound t h coded held,
    )
