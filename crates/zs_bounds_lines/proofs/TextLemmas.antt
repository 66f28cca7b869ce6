-- What is written for lines that are put together.
use Rattle.std.proofs.Common.{◌≡◌, ℕ, List, [], ◌∷◌, ◌++◌, Result, Ok, Err, refl, sym, ap, ◌∙◌, append_assoc, append-nil}
use Rattle.zs_bounds_lines.specs.BoundsLines.{bounds_lines, line_text, ◌>>=◌}
use Rattle.zs_bounds_lines.specs.Policies.{policy_of}
use Rattle.zs_bounds_lines.specs.declared.fault.PolicyFault.{PolicyFault}
use Rattle.zs_bounds_lines.specs.declared.options.Options.{Options}

-- a piece after a text that was pushed
pub pushed : (old mid now a b : List ℕ) → mid ≡ old ++ a → now ≡ mid ++ b → now ≡ old ++ (a ++ b)
pushed old mid now a b first next = next ∙ ap (λ (bs : List ℕ). bs ++ b) first ∙ append_assoc old a b

abbrev Texts : Type 0
Texts = Result (List ℕ) PolicyFault

-- a text in front of what comes next
abbrev behind : List ℕ → Texts → Texts
behind front rest = rest >>= (λ text. Ok (front ++ text))

-- what was found first, if all was found
found : (r : Texts) (f : List ℕ → Texts) (b : List ℕ) → r >>= f ≡ Ok b → (a : List ℕ) × (r ≡ Ok a) × (f a ≡ Ok b)
found (Ok a) f b is = (a, refl, is)
found (Err e) f b is = absurd (let no : Err e ≡ Ok b = is in cc)

behind-none : (rest : Texts) → behind [] rest ≡ rest
behind-none (Ok text) = refl
behind-none (Err e) = refl

behind-two : (front text : List ℕ) (rest : Texts) → behind front (behind text rest) ≡ behind (front ++ text) rest
behind-two front text (Ok more) = ap (λ bs. Ok bs) (sym (append_assoc front text more))
behind-two front text (Err e) = refl

-- lines after lines that are written
pub lines-append : (options : Options) (xs ys : List (List ℕ)) (text : List ℕ) → bounds_lines options xs ≡ Ok text
    → bounds_lines options (xs ++ ys) ≡ behind text (bounds_lines options ys)
unfolding bounds_lines
lines-append options [] ys text is =
    let none : [] ≡ text = (let e : Ok [] ≡ Ok text = is in cc) in
    sym (behind-none (bounds_lines options ys)) ∙ ap (λ front. behind front (bounds_lines options ys)) none
lines-append options (x ∷ xs) ys text is =
    let one = found (line_text options (policy_of x)) (λ front. behind front (bounds_lines options xs)) text is in
    let rest = found (bounds_lines options xs) (λ more. Ok (one.0 ++ more)) text one.2 in
    let all : one.0 ++ rest.0 ≡ text = (let e : Ok (one.0 ++ rest.0) ≡ Ok text = rest.2 in cc) in
    ap (λ r. r >>= (λ front. behind front (bounds_lines options (xs ++ ys)))) one.1
    ∙ ap (behind one.0) (lines-append options xs ys rest.0 rest.1)
    ∙ behind-two one.0 rest.0 (bounds_lines options ys)
    ∙ ap (λ front. behind front (bounds_lines options ys)) all

-- one line
pub one-line : (options : Options) (line text : List ℕ) → line_text options (policy_of line) ≡ Ok text → bounds_lines options (line ∷ []) ≡ Ok text
unfolding bounds_lines
one-line options line text is = ap (λ r. r >>= (λ front. behind front (Ok []))) is ∙ ap (λ bs. Ok bs) (append-nil text)

one-refused : (options : Options) (line : List ℕ) (fault : PolicyFault) → policy_of line ≡ Err fault → bounds_lines options (line ∷ []) ≡ Err fault
unfolding bounds_lines
one-refused options line fault is = ap (λ p. line_text options p >>= (λ front. behind front (Ok []))) is

-- one line more
pub lines-more : (options : Options) (lines : List (List ℕ)) (line text more : List ℕ) → bounds_lines options lines ≡ Ok text
    → line_text options (policy_of line) ≡ Ok more → bounds_lines options (lines ++ line ∷ []) ≡ Ok (text ++ more)
lines-more options lines line text more are is = lines-append options lines (line ∷ []) text are ∙ ap (behind text) (one-line options line more is)

-- one line that is rejected
pub lines-refused : (options : Options) (lines : List (List ℕ)) (line text : List ℕ) (fault : PolicyFault) → bounds_lines options lines ≡ Ok text
    → policy_of line ≡ Err fault → bounds_lines options (lines ++ line ∷ []) ≡ Err fault
lines-refused options lines line text fault are is = lines-append options lines (line ∷ []) text are ∙ ap (behind text) (one-refused options line fault is)

-- no line
pub no-lines : (options : Options) → bounds_lines options [] ≡ Ok []
unfolding bounds_lines
no-lines options = refl
