-- The parts of a code, and the lengths of states.
use Rattle.std.proofs.Common.{◌≡◌, ◌<◌, ◌≤◌, ℕ, suc, ◌+◌, ◌-◌, Option, Some, None, List, [], ◌∷◌}
use Rattle.std.proofs.Common.{◌++◌, length, take, drop, refl, sym, ap, ◌∙◌, arith}
use Rattle.std.proofs.lemmas.List.{length-append}
use Rattle.std.proofs.Math.Seq.{take-append_seam, drop-append_seam}
use Rattle.std.specs.Prelude.{slice_index_or}
use Rattle.zs_term.specs.declared.forms.Plain.TheVariants.{Forever, Identity, Elapsed}
use Rattle.zs_term.specs.declared.forms.Counted.TheVariants.{Recurs, Spaced, Fixed, Fibonacci}
use Rattle.zs_term.specs.declared.forms.Counted.TheVariants.{Linear, Windowed}
use Rattle.zs_term.specs.Schedule.{Schedule, Pairing, Modifier, plain, counted, exponential, leaf}
use Rattle.zs_term.specs.Schedule.{two, over, both, either, and_then, while_input, while_output}
use Rattle.zs_term.specs.Schedule.{collect_all, mapped, reset_when}
use Rattle.zs_step.specs.History.{History}
use Rattle.zs_c.specs.Words.{sequel_words}
use Rattle.zs_step.specs.Answer.{answer_of, from_done, since_reset}
use Rattle.zs_c.specs.Code.{code_of, modifier_code, held_of, held_size, IsCode}
use Rattle.zs_c.specs.Program.{IsProgram, body_of, check_word}
use Rattle.zs_c.proofs.Leaves.{leaf-length}

-- the code of an operator's first part
pub first-code : (p : Pairing) (a b : Schedule) (code : List ℕ) (levels size : ℕ) →
    IsCode (two p a b) code levels → size ≡ length (code_of a) →
    IsCode a (take size (drop 3 code)) (levels - 1)
first-code p a b code levels size whole sized = record {
  is = ap (λ n. take n (drop 3 code)) sized ∙ ap (λ c. take (length (code_of a)) (drop 3 c))
      whole.is ∙ take-append_seam (code_of a) (code_of b);
  deep = omega (arith, whole.deep);
}

-- the code of an operator's second part
pub second-code : (p : Pairing) (a b : Schedule) (code : List ℕ) (levels size : ℕ) →
    IsCode (two p a b) code levels → size ≡ length (code_of a) →
    IsCode b (drop size (drop 3 code)) (levels - 1)
second-code p a b code levels size whole sized = record {
  is = ap (λ n. drop n (drop 3 code)) sized ∙ ap (λ c. drop (length (code_of a)) (drop 3 c))
      whole.is ∙ drop-append_seam (code_of a) (code_of b);
  deep = omega (arith, whole.deep);
}

-- the code of a part under an operator
pub part-code : (m : Modifier) (s : Schedule) (code : List ℕ) (levels k : ℕ) →
    IsCode (over s m) code levels → k ≡ length (modifier_code m) →
    IsCode s (drop k code) (levels - 1)
part-code m s code levels k whole sized = record {
  is = ap (λ n. drop n code) sized ∙ ap (drop (length (modifier_code m))) whole.is
      ∙ drop-append_seam (modifier_code m) (code_of s);
  deep = omega (arith, whole.deep);
}

-- two lists, one after the other
both-lengths : (xs ys us vs : List ℕ) → length xs ≡ length us → length ys ≡ length vs →
    length (xs ++ ys) ≡ length (us ++ vs)
both-lengths xs ys us vs first second =
    omega (arith, length-append xs ys, length-append us vs, first, second)

-- whichever part is active
sequel-lengths : (o p : Option History) (x y : History → List ℕ) (h g : History) →
    ((k l : History) → length (x k) ≡ length (x l)) →
    ((k l : History) → length (y k) ≡ length (y l)) →
    length (sequel_words o x y h) ≡ length (sequel_words p x y g)
sequel-lengths None None x y h g first second =
    ap (λ n. suc n) (both-lengths (x h) (y []) (x g) (y []) (first h g) refl)
sequel-lengths None (Some l) x y h g first second =
    ap (λ n. suc n) (both-lengths (x h) (y []) (x []) (y l) (first h []) (second [] l))
sequel-lengths (Some k) None x y h g first second =
    ap (λ n. suc n) (both-lengths (x []) (y k) (x g) (y []) (first [] g) (second k []))
sequel-lengths (Some k) (Some l) x y h g first second =
    ap (λ n. suc n) (both-lengths (x []) (y k) (x []) (y l) refl (second k l))

-- a state has the same number of words after any steps
pub held-length : (t : Schedule) (h g : History) → length (held_of t h) ≡ length (held_of t g)
held-length (leaf l) h g = leaf-length l h g
held-length (two both a b) h g =
    both-lengths (held_of a h) (held_of b h) (held_of a g) (held_of b g) (held-length a h g)
    (held-length b h g)
held-length (two either a b) h g =
    both-lengths (held_of a h) (held_of b h) (held_of a g) (held_of b g) (held-length a h g)
    (held-length b h g)
held-length (two and_then a b) h g =
    sequel-lengths (from_done (answer_of a) h) (from_done (answer_of a) g) (held_of a) (held_of b) h
    g (held-length a) (held-length b)
held-length (over s (while_input t)) h g = held-length s h g
held-length (over s (while_output k t)) h g = held-length s h g
held-length (over s collect_all) h g = ap (λ n. suc (suc n)) (held-length s h g)
held-length (over s (mapped f)) h g = held-length s h g
held-length (over s (reset_when k t)) h g =
    held-length s (since_reset (answer_of s) k t h) (since_reset (answer_of s) k t g)

-- no schedule's code is empty
code-some : (t : Schedule) → 0 < length (code_of t)
code-some (leaf (plain Forever)) = omega arith
code-some (leaf (plain Identity)) = omega arith
code-some (leaf (plain Elapsed)) = omega arith
code-some (leaf (counted Recurs n)) = omega arith
code-some (leaf (counted Spaced n)) = omega arith
code-some (leaf (counted Fixed n)) = omega arith
code-some (leaf (counted Fibonacci n)) = omega arith
code-some (leaf (counted Linear n)) = omega arith
code-some (leaf (counted Windowed n)) = omega arith
code-some (leaf (exponential b f)) = omega arith
code-some (two p a b) = omega arith
code-some (over s (while_input t)) = omega arith
code-some (over s (while_output k t)) = omega arith
code-some (over s collect_all) = omega arith
code-some (over s (mapped f)) = omega arith
code-some (over s (reset_when k t)) = omega arith

-- a program has a code
pub program-some : (program : List ℕ) (t : Schedule) → IsProgram program t →
    0 < slice_index_or program 2 0
program-some program t is = rw is.is (code-some t)

-- its code is within its words
pub program-fits : (program : List ℕ) (t : Schedule) → IsProgram program t →
    slice_index_or program 2 0 + 4 ≤ length program
program-fits program t is =
    let size : slice_index_or program 2 0 ≡ length (code_of t) =
    ap (λ (ws : List ℕ). slice_index_or ws 2 0) is.is in
    let all : length program ≡ suc (suc (suc (suc (length (code_of t ++ is.more))))) =
    ap (λ (ws : List ℕ). length ws) is.is in
    omega (arith, size, all, length-append (code_of t) is.more)

-- its check word is that of the words after it
pub program-checked : (program : List ℕ) (t : Schedule) → IsProgram program t
    → slice_index_or program 1 0
    ≡ check_word (take (slice_index_or program 2 0 + 4 - 2) (drop 2 program))
program-checked program t is =
    let n = length (code_of t) in
    let size : slice_index_or program 2 0 ≡ n = ap (λ (ws : List ℕ). slice_index_or ws 2 0) is.is in
    let e : n + 4 - 2 ≡ suc (suc n) = omega arith in
    let rest : drop 2 program ≡ n ∷ (held_size t ∷ (code_of t ++ is.more)) =
    ap (λ (ws : List ℕ). drop 2 ws) is.is in
    let body : take (suc (suc n)) (n ∷ (held_size t ∷ (code_of t ++ is.more))) ≡ body_of t =
    ap (λ (ws : List ℕ). n ∷ (held_size t ∷ ws)) (take-append_seam (code_of t) is.more) in
    let check : slice_index_or program 1 0 ≡ check_word (body_of t) =
    ap (λ (ws : List ℕ). slice_index_or ws 1 0) is.is in
    check
    ∙ ap check_word
    (sym (ap (λ k. take (k + 4 - 2) (drop 2 program)) size ∙ ap (λ k. take k (drop 2 program)) e
    ∙ ap (take (suc (suc n))) rest ∙ body))
