-- Leaves: their outputs, their code, and the words of their states, loaded and stored.
use Rattle.std.proofs.Common.{◌≡◌, ℕ, suc, ◌+◌, ◌≤◌, Bool, List, [], ◌∷◌, ◌++◌, length, drop, refl}
use Rattle.std.proofs.Common.{sym, ap, ◌∙◌, arith}
use Rattle.std.specs.Prelude.{Some, None, ◌==◌, if◌then◌else◌}
use Rattle.std.proofs.lemmas.Bool.{ne_eqb}
use Rattle.zs_term.specs.Saturating.{saturated}
use Rattle.zs_term.specs.Output.{Output, number, pair, left, right, listed, number_in}
use Rattle.zs_term.specs.OutputKind.{num, HasKind}
use Rattle.zs_term.specs.Schedule.{Schedule, leaf, Leaf as LeafRule, plain, counted, exponential}
use Rattle.zs_term.specs.declared.forms.Plain.TheVariants.{Forever as PlainForever}
use Rattle.zs_term.specs.declared.forms.Plain.TheVariants.{Identity as PlainIdentity}
use Rattle.zs_term.specs.declared.forms.Plain.TheVariants.{Elapsed as PlainElapsed}
use Rattle.zs_term.specs.declared.forms.Counted.TheVariants.{Recurs as CountedRecurs}
use Rattle.zs_term.specs.declared.forms.Counted.TheVariants.{Spaced as CountedSpaced}
use Rattle.zs_term.specs.declared.forms.Counted.TheVariants.{Fixed as CountedFixed}
use Rattle.zs_term.specs.declared.forms.Counted.TheVariants.{Fibonacci as CountedFibonacci}
use Rattle.zs_term.specs.declared.forms.Counted.TheVariants.{Linear as CountedLinear}
use Rattle.zs_term.specs.declared.forms.Counted.TheVariants.{Windowed as CountedWindowed}
use Rattle.zs_step.specs.declared.decision.Decision.{Decision}
use Rattle.zs_step.specs.declared.leaf.Leaf.{Leaf}
use Rattle.zs_step.specs.declared.leaf.Leaf.TheVariants.{Forever, Recurs, Spaced, Fixed}
use Rattle.zs_step.specs.declared.leaf.Leaf.TheVariants.{Exponential, Fibonacci, Identity, Elapsed}
use Rattle.zs_step.specs.declared.leaf.Leaf.TheVariants.{Linear, Windowed}
use Rattle.zs_step.specs.History.{History, first_moment, earlier}
use Rattle.zs_step.specs.Answer.{Answer, answer, leaf_answer, next_run}
use Rattle.zs_step.specs.LeafState.{state_leaf, leaf_output, or_zero, before_of, start_of, past_of}
use Rattle.zs_step.specs.LeafState.{LeafRepresents}
use Rattle.zs_step.proofs.OutputKinds.{answer_of-has_kind}
use Rattle.zs_c.specs.Words.{leaf_code, leaf_words}
use Rattle.zs_c.specs.Code.{leaf_held}
use Rattle.zs_c.specs.Leaves.{word_at, if_begun, past_in, loaded, first_in, rest_stored, stored}
use Rattle.zs_c.specs.Form.{node_at, IsNode}
use Rattle.zs_c.proofs.Pieces.{drop-whole, append-nothing}

-- an output of the kind of numbers is a number
number-of : (o : Output) → HasKind o num → o ≡ number (number_in o)
number-of (number n) kind = refl
number-of (pair x y) kind = absurd kind
number-of (left x) kind = absurd kind
number-of (right x) kind = absurd kind
number-of (listed xs) kind = absurd kind

-- a leaf's output is a number
pub leaf-number : (l : LeafRule) (h : History) →
    (leaf_answer l h).output ≡ number (number_in (leaf_answer l h).output)
leaf-number l h = number-of (leaf_answer l h).output (answer_of-has_kind (leaf l) num h refl)

-- a leaf's state has the same number of words after any steps
pub leaf-length : (l : LeafRule) (h g : History) → length (leaf_held l h) ≡ length (leaf_held l g)
leaf-length (plain PlainForever) h g = refl
leaf-length (plain PlainIdentity) h g = refl
leaf-length (plain PlainElapsed) h g = refl
leaf-length (counted CountedRecurs k) h g = refl
leaf-length (counted CountedSpaced d) h g = refl
leaf-length (counted CountedFixed p) h g = refl
leaf-length (counted CountedFibonacci o) h g = refl
leaf-length (counted CountedLinear n) h g = refl
leaf-length (counted CountedWindowed n) h g = refl
leaf-length (exponential b f) h g = refl

-- the code of a leaf is read as the leaf before any step
pub leaf-node : (l : LeafRule) → IsNode (node_at (leaf_code l)) (leaf l)
unfolding node_at
leaf-node (plain PlainForever) = (refl, refl)
leaf-node (plain PlainIdentity) = (refl, refl)
leaf-node (plain PlainElapsed) = (refl, refl)
leaf-node (counted CountedRecurs k) = (refl, refl)
leaf-node (counted CountedSpaced d) = (refl, refl)
leaf-node (counted CountedFixed p) = (refl, refl)
leaf-node (counted CountedFibonacci o) = (refl, refl)
leaf-node (counted CountedLinear n) = (refl, refl)
leaf-node (counted CountedWindowed n) = (refl, refl)
leaf-node (exponential b f) = (refl, refl)

-- and as no other schedule
pub leaf-once : (l : LeafRule) (u : Schedule) → IsNode (node_at (leaf_code l)) u → u ≡ leaf l
unfolding node_at
leaf-once (plain PlainForever) u is = is.0
leaf-once (plain PlainIdentity) u is = is.0
leaf-once (plain PlainElapsed) u is = is.0
leaf-once (counted CountedRecurs k) u is = is.0
leaf-once (counted CountedSpaced d) u is = is.0
leaf-once (counted CountedFixed p) u is = is.0
leaf-once (counted CountedFibonacci o) u is = is.0
leaf-once (counted CountedLinear n) u is = is.0
leaf-once (counted CountedWindowed n) u is = is.0
leaf-once (exponential b f) u is = is.0

-- a step was counted
if-counted : {A : Type 0} (p : ℕ × ℕ) (h : History) (x y : A) →
    (if saturated (length (p ∷ h)) == 0 then x else y) ≡ y
if-counted p h x y = ap (λ (b : Bool). if b then x else y) (ne_eqb (saturated (length (p ∷ h))) 0
    (λ e. absurd (omega (arith, e))))

-- what a leaf that counts its steps loads
loaded-before : (h : History) (rest words : List ℕ) →
    words ≡ saturated (length (earlier h)) ∷ (saturated (length h) ∷ rest) →
    if_begun words 0 ≡ before_of h
loaded-before [] rest words held = ap (λ w. if_begun w 0) held
loaded-before (p ∷ h) rest words held =
    ap (λ w. if_begun w 0) held ∙ if-counted p h None (Some (saturated (length h)))

loaded-start : (h : History) (o : ℕ) (rest words : List ℕ) →
    words ≡ o ∷ (saturated (length h) ∷ (first_moment h ∷ rest)) → if_begun words 2 ≡ start_of h
loaded-start [] o rest words held = ap (λ w. if_begun w 2) held
loaded-start (p ∷ h) o rest words held =
    ap (λ w. if_begun w 2) held ∙ if-counted p h None (Some (first_moment (p ∷ h)))

loaded-past : (h : History) (rest words : List ℕ) →
    words ≡ saturated (length (earlier h)) ∷ (saturated (length h) ∷ (first_moment h ∷ rest)) →
    past_in words ≡ past_of h
loaded-past [] rest words held = ap past_in held
loaded-past (p ∷ h) rest words held = ap past_in held ∙ if-counted p h None (Some
    (record { first = first_moment (p ∷ h); before = saturated (length h) }))

-- a leaf that is loaded from the words of a history represents it
pub loaded-stands : (s : Leaf) (h : History) (words : List ℕ) → words ≡ leaf_held (state_leaf s) h →
    LeafRepresents (loaded s words) h
loaded-stands (Forever b) h words held = loaded-before h [] words held
loaded-stands (Recurs k b) h words held = loaded-before h [] words held
loaded-stands (Spaced d b) h words held = loaded-before h [] words held
loaded-stands (Fixed p past run) h words held =
    (loaded-past h (next_run p h ∷ []) words held, ap (λ w. word_at w 3) held)
loaded-stands (Exponential b f x y) h words held = ap (λ w. word_at w 1) held
loaded-stands (Fibonacci o x y) h words held =
    (ap (λ w. word_at w 1) held, ap (λ w. word_at w 2) held)
loaded-stands (Identity x) h words held = tt
loaded-stands (Elapsed m x) h words held = loaded-start h _ [] words held
loaded-stands (Linear n x) h words held = ap (λ w. word_at w 1) held
loaded-stands (Windowed n past) h words held = loaded-past h [] words held

-- it is the same leaf
pub loaded-same : (s : Leaf) (words : List ℕ) → state_leaf (loaded s words) ≡ state_leaf s
loaded-same (Forever b) words = refl
loaded-same (Recurs k b) words = refl
loaded-same (Spaced d b) words = refl
loaded-same (Fixed p past run) words = refl
loaded-same (Exponential b f x y) words = refl
loaded-same (Fibonacci o x y) words = refl
loaded-same (Identity x) words = refl
loaded-same (Elapsed m x) words = refl
loaded-same (Linear n x) words = refl
loaded-same (Windowed n past) words = refl

-- the number of steps after one more
count-turn : (h : History) (n : ℕ) → n ≡ saturated (length h) →
    saturated (n + 1) ≡ saturated (suc (length h))
count-turn h n is = omega (arith, is)

-- the words of a leaf after its output, once it is stepped: `n` is the second word before
rest-turn : (s : Leaf) (h : History) (p : ℕ × ℕ) (words : List ℕ) →
    words ≡ leaf_held (state_leaf s) h → LeafRepresents s (p ∷ h) →
    rest_stored s (saturated (word_at words 1 + 1)) ≡ leaf_words (state_leaf s) (p ∷ h)
rest-turn (Forever b) h p words held stands =
    ap (λ n. n ∷ []) (count-turn h (word_at words 1) (ap (λ w. word_at w 1) held))
rest-turn (Recurs k b) h p words held stands =
    ap (λ n. n ∷ []) (count-turn h (word_at words 1) (ap (λ w. word_at w 1) held))
rest-turn (Spaced d b) h p words held stands =
    ap (λ n. n ∷ []) (count-turn h (word_at words 1) (ap (λ w. word_at w 1) held))
rest-turn (Fixed q past run) h p words held stands =
    let n = count-turn h (word_at words 1) (ap (λ w. word_at w 1) held) in
    let first = ap first_in stands.0 in
    let last = stands.1 in
    cc
rest-turn (Exponential b f x y) h p words held stands = ap (λ n. n ∷ []) stands
rest-turn (Fibonacci o x y) h p words held stands =
    let last = stands.0 in
    let next = stands.1 in
    cc
rest-turn (Identity x) h p words held stands = refl
rest-turn (Elapsed m x) h p words held stands =
    let n = count-turn h (word_at words 1) (ap (λ w. word_at w 1) held) in
    let first = ap or_zero stands in
    cc
rest-turn (Linear n x) h p words held stands = ap (λ n. n ∷ []) stands
rest-turn (Windowed q past) h p words held stands =
    let n = count-turn h (word_at words 1) (ap (λ w. word_at w 1) held) in
    let first = ap first_in stands in
    cc

-- words that are overwritten whole
whole-put : (old new put : List ℕ) → length old ≡ length put →
    (length put ≤ length old → new ≡ put ++ drop (length put) old) → new ≡ put
whole-put old new put sized puts =
    puts (omega (arith, sized)) ∙ ap (λ (r : List ℕ). put ++ r)
    (drop-whole (length put) old (omega (arith, sized))) ∙ append-nothing put

-- the words of a leaf once it is loaded, stepped and stored
pub leaf-stepped : (l : LeafRule) (s : Leaf) (h : History) (p : ℕ × ℕ) (d : Decision)
    (old new : List ℕ) (n : ℕ) → state_leaf s ≡ l → old ≡ leaf_held l h →
    LeafRepresents s (p ∷ h) → answer (number (leaf_output s)) d ≡ leaf_answer l (p ∷ h) →
    n ≡ saturated (word_at old 1 + 1) →
    (length (stored s n) ≤ length old → new ≡ stored s n ++ drop (length (stored s n)) old) →
    new ≡ leaf_held l (p ∷ h)
leaf-stepped l s h p d old new n rule held stands answered turned puts =
    let turn : rest_stored s n ≡ leaf_words l (p ∷ h) =
    ap (rest_stored s) turned ∙ rest-turn s h p old (held ∙ ap (λ r. leaf_held r h) (sym rule))
    stands ∙ ap (λ r. leaf_words r (p ∷ h)) rule in
    let out : leaf_output s ≡ number_in (leaf_answer l (p ∷ h)).output =
    ap (λ (a : Answer). number_in a.output) answered in
    let all : stored s n ≡ leaf_held l (p ∷ h) =
    ap (λ o. o ∷ rest_stored s n) out
    ∙ ap (λ (r : List ℕ). number_in (leaf_answer l (p ∷ h)).output ∷ r) turn in
    whole-put old new (stored s n) (ap length held ∙ leaf-length l h (p ∷ h) ∙ sym (ap length all))
    puts ∙ all
