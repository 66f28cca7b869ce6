-- A step of a program over the words of its state.
use Rattle.std.proofs.Common.{◌≡◌, ℕ, suc, ◌+◌, ◌-◌, ◌^◌, ◌<◌, ◌≤◌, Bool, true, false, ◌&&◌, List}
use Rattle.std.proofs.Common.{[], ◌∷◌, ◌++◌, length, take, drop, get_or, length-drop, refl, sym, ap}
use Rattle.std.proofs.Common.{◌∙◌, subst, arith, Fits, w64}
use Rattle.std.specs.Prelude.{slice_index_or, slice_set, nat_le}
use Rattle.std.proofs.lemmas.Bool.Decides.{nat_tests}
use Rattle.std.proofs.lemmas.List.{length-take}
use Rattle.std.proofs.Math.Seq.{take-append_seam, drop-append_seam}
use borrow.Rule.Slice.PartMut.{put_mid}
use Rattle.zs_term.specs.OutputText.{output_text}
use Rattle.zs_term.specs.Schedule.{Schedule, depth, weight, is_within_limits}
use Rattle.zs_step.specs.declared.decision.Decision.{Decision}
use Rattle.zs_step.specs.History.{History, last_moment}
use Rattle.zs_step.specs.Answer.{answer_of}
use Rattle.zs_c.specs.declared.program.opening.Opened.{Opened}
use Rattle.zs_c.specs.Numbers.{decision_number, next_moment}
use Rattle.zs_c.specs.Code.{IsCode, code_of, held_of, held_size}
use Rattle.zs_c.specs.Opened.{Opens}
use Rattle.zs_c.specs.Program.{program_check, state_version, has_stepped, KeepsProgramState}
use Rattle.zs_c.specs.Programs.{IsProgramStepped, IsStepSafe}
use Rattle.zs_c.specs.Shown.{IsCountable, shows_no_list}
use Rattle.zs_c.specs.Steps.{StepsCode}
use Rattle.zs_c.proofs.Codes.{held-length}
use Rattle.zs_c.proofs.TextBounds.{AllFit, shown-bound}

-- each part of a true conjunction
and-first : (a b : Bool) → (a && b) ≡ true → a ≡ true
and-first true b e = refl
and-first false b e = e

and-second : (a b : Bool) → (a && b) ≡ true → b ≡ true
and-second true b e = e
and-second false b e = cc

-- a number that passes a test
pub at-most : (n m : ℕ) → nat_le n m ≡ true → n ≤ m
at-most n m e = grind (arith, nat_tests)

-- a schedule within the limits
pub depth-within : (t : Schedule) → is_within_limits t ≡ true → depth t ≤ 64
depth-within t within =
    at-most (depth t) 64 (and-first (nat_le (depth t) 64) (nat_le (weight t) 1000) within)

pub weight-within : (t : Schedule) → is_within_limits t ≡ true → weight t ≤ 1000
weight-within t within =
    at-most (weight t) 1000 (and-second (nat_le (depth t) 64) (nat_le (weight t) 1000) within)

-- the code of an opened program
pub opened-code : (o : Opened) (t : Schedule) → Opens o t → IsCode t o.code.now 64
opened-code o t opens =
    record { is = opens.code; deep = depth-within t opens.within }

-- words that fit 64 bits, each by its index
abbrev pub EachFits : List ℕ → Type 0
EachFits ws = (i : ℕ) → Fits w64 (get_or ws i 0)

all-fit : (ws : List ℕ) → EachFits ws → AllFit ws
all-fit [] each = tt
all-fit (w ∷ ws) each = (omega (arith, each 0), all-fit ws (λ i. each (suc i)))

-- the text of an output is short
pub short-text : (t : Schedule) (h : History) (code words : List ℕ) → IsCode t code 64
    → weight t ≤ 1000 → shows_no_list t ≡ true → words ≡ held_of t h → EachFits code
    → EachFits words →
    0 + length (output_text (answer_of t h).output) < 2 ^ 64
short-text t h code words coded light free held code_fits words_fit =
    let first : AllFit (code_of t) = subst AllFit coded.is (all-fit code code_fits) in
    let second : AllFit (held_of t h) = subst AllFit held (all-fit words words_fit) in
    omega (arith, shown-bound t h free first second, light)

-- the words of a schedule's state, after those of a state's head
state-arg : (old xs more : List ℕ) (v a b c d n : ℕ)
    → old ≡ v ∷ (a ∷ (b ∷ (c ∷ (d ∷ (xs ++ more)))))
    → n ≡ length xs → take (n + 5 - 5) (drop 5 old) ≡ xs
state-arg old xs more v a b c d n is sized =
    let e : n + 5 - 5 ≡ n = omega arith in
    ap (λ k. take k (drop 5 old)) e ∙ ap (λ (w : List ℕ). take n (drop 5 w)) is ∙ ap
    (λ k. take k (xs ++ more)) sized ∙ take-append_seam xs more

-- the words of a state of n words with others in their place, after a step at a moment
abbrev stepped_words : ℕ → List ℕ → List ℕ → ℕ → List ℕ
stepped_words n old ys now = slice_set (slice_set (put_mid 5 (n + 5 - 5) old ys) 2 now) 4 1

state-new : (old xs more ys : List ℕ) (v a b c d n now : ℕ)
    → old ≡ v ∷ (a ∷ (b ∷ (c ∷ (d ∷ (xs ++ more))))) → n ≡ length xs
    → stepped_words n old ys now ≡ v ∷ (a ∷ (now ∷ (c ∷ (1 ∷ (ys ++ more)))))
state-new old xs more ys v a b c d n now is sized =
    let e : n + 5 - 5 ≡ n = omega arith in
    ap (λ k. slice_set (slice_set (put_mid 5 k old ys) 2 now) 4 1) e ∙ ap
    (λ (w : List ℕ). slice_set (slice_set (put_mid 5 n w ys) 2 now) 4 1) is
    ∙ ap (λ (z : List ℕ). v ∷ (a ∷ (now ∷ (c ∷ (1 ∷ (ys ++ z))))))
    (ap (λ k. drop k (xs ++ more)) sized ∙ drop-append_seam xs more)

-- the words after a state are unchanged
behind-rest : (n now : ℕ) (old ys : List ℕ) → n + 5 ≤ length old → length ys ≡ n →
    drop (suc (suc (suc (suc (suc n))))) (slice_set (slice_set (put_mid 5 n old ys) 2 now) 4 1)
    ≡ drop (suc (suc (suc (suc (suc n))))) old
behind-rest n now [] ys fits sized = absurd (omega (arith, fits))
behind-rest n now (a ∷ []) ys fits sized = absurd (omega (arith, fits))
behind-rest n now (a ∷ (b ∷ [])) ys fits sized = absurd (omega (arith, fits))
behind-rest n now (a ∷ (b ∷ (c ∷ []))) ys fits sized = absurd (omega (arith, fits))
behind-rest n now (a ∷ (b ∷ (c ∷ (d ∷ [])))) ys fits sized = absurd (omega (arith, fits))
behind-rest n now (a ∷ (b ∷ (c ∷ (d ∷ (e ∷ rest))))) ys fits sized =
    ap (λ k. drop k (ys ++ drop n rest)) (sym sized) ∙ drop-append_seam ys (drop n rest)

state-behind : (n now : ℕ) (old ys : List ℕ) → n + 5 ≤ length old → length ys ≡ n →
    drop (suc (suc (suc (suc (suc n))))) (stepped_words n old ys now)
    ≡ drop (suc (suc (suc (suc (suc n))))) old
state-behind n now old ys fits sized =
    let e : n + 5 - 5 ≡ n = omega arith in
    ap (λ k. drop (suc (suc (suc (suc (suc n)))))
    (slice_set (slice_set (put_mid 5 k old ys) 2 now) 4 1))
    e ∙ behind-rest n now old ys fits sized

-- a step of the words of a state, whatever they are
safe-words : (program old ys : List ℕ) (n now : ℕ) → n ≡ slice_index_or program 3 0
    → n + 5 ≤ length old → length ys ≡ n →
    IsStepSafe program old (stepped_words n old ys now) now
safe-words program [] ys n now is fits sized = absurd (omega (arith, fits))
safe-words program (a ∷ []) ys n now is fits sized = absurd (omega (arith, fits))
safe-words program (a ∷ (b ∷ [])) ys n now is fits sized = absurd (omega (arith, fits))
safe-words program (a ∷ (b ∷ (c ∷ []))) ys n now is fits sized = absurd (omega (arith, fits))
safe-words program (a ∷ (b ∷ (c ∷ (d ∷ [])))) ys n now is fits sized = absurd (omega (arith, fits))
safe-words program (a ∷ (b ∷ (c ∷ (d ∷ (e ∷ rest))))) ys n now is fits sized =
    let all = a ∷ (b ∷ (c ∷ (d ∷ (e ∷ rest)))) in
    let f : slice_index_or program 3 0 + 5 ≡ suc (suc (suc (suc (suc n)))) = omega (arith, is) in
    record {
      version = refl;
      check = refl;
      moment = refl;
      behind = ap (λ k. drop k (stepped_words n all ys now)) f
          ∙ state-behind n now all ys fits sized ∙ sym (ap (λ k. drop k all) f);
    }

-- a step of the words of a state, and what it decides
pub program-stepped : (t : Schedule) (old ys : List ℕ) (now input n visited : ℕ) (d : Decision) →
    n ≡ held_size t → n + 5 ≤ length old → length ys ≡ n →
    ((h : History) → IsCountable t h → take (n + 5 - 5) (drop 5 old) ≡ held_of t h
    → StepsCode t h ys now input d 0 visited) →
    IsProgramStepped t old (stepped_words n old ys now) (now, input) (decision_number d)
    (next_moment d) visited
program-stepped t old ys now input n visited d sized fits kept step =
    let argued : (h : History) (planned : ℕ) → KeepsProgramState t h planned old
    → IsCountable t h → StepsCode t h ys now input d 0 visited =
    λ h planned k all. step h all (state-arg old (held_of t h) k.0 state_version (program_check t)
    (last_moment h) planned
    (has_stepped h) n k.1 (sized ∙ held-length t [] h)) in
    record {
      tells = λ h planned k all. let s = argued h planned k all in record {
        decision = ap decision_number s.decides;
        next = ap next_moment s.decides;
        visited = omega (arith, s.visited);
      };
      state = λ h planned k all. (
        k.0,
        state-new old (held_of t h) k.0 ys state_version (program_check t) (last_moment h) planned
            (has_stepped h)
            n now k.1 (sized ∙ held-length t [] h)
            ∙ ap
            (λ (z : List ℕ). state_version
            ∷ (program_check t ∷ (now ∷ (planned ∷ (1 ∷ (z ++ k.0))))))
            (argued h planned k all).held,
      );
      behind = ap (λ k. drop (suc (suc (suc (suc (suc k))))) (stepped_words n old ys now))
          (sym sized)
          ∙ state-behind n now old ys fits kept
          ∙ ap (λ k. drop (suc (suc (suc (suc (suc k))))) old) sized;
    }

-- the number of the words that are written
arg-length : (n : ℕ) (old : List ℕ) → n + 5 ≤ length old
    → length (take (n + 5 - 5) (drop 5 old)) ≡ n
arg-length n old fits = omega (arith, fits, length-take (n + 5 - 5) (drop 5 old), length-drop 5 old)

-- a step of an opened program
pub opened-stepped : (o : Opened) (t : Schedule) → Opens o t
    → (old ys : List ℕ) (now input visited : ℕ) (d : Decision) →
    o.state + 5 ≤ length old → length ys ≡ length (take (o.state + 5 - 5) (drop 5 old)) →
    ((u : Schedule) (h : History) → IsCode u o.code.now 64 → 0 + weight u ≤ 1000 → IsCountable u h
    → take (o.state + 5 - 5) (drop 5 old) ≡ held_of u h → StepsCode u h ys now input d 0 visited) →
    IsProgramStepped t old (stepped_words o.state old ys now) (now, input) (decision_number d)
    (next_moment d) visited
opened-stepped o t opens old ys now input visited d fits kept step =
    let light = weight-within t opens.within in
    program-stepped t old ys now input o.state visited d opens.state fits
    (kept ∙ arg-length o.state old fits)
    (λ h all arg. step t h (opened-code o t opens) (omega (arith, light)) all arg)

-- the same for any words
pub opened-safe : (o : Opened) (program old ys : List ℕ) (now : ℕ)
    → o.state ≡ slice_index_or program 3 0 → o.state + 5 ≤ length old →
    length ys ≡ length (take (o.state + 5 - 5) (drop 5 old)) → IsStepSafe program old
    (stepped_words o.state old ys now) now
opened-safe o program old ys now is fits kept =
    safe-words program old ys o.state now is fits (kept ∙ arg-length o.state old fits)

-- the words of an opened program's state after a history
pub state-words : (o : Opened) (t : Schedule) (h : History) (planned : ℕ) (state : List ℕ)
    → Opens o t → KeepsProgramState t h planned state
    → take (o.state + 5 - 5) (drop 5 state) ≡ held_of t h
state-words o t h planned state opens k =
    state-arg state (held_of t h) k.0 state_version (program_check t) (last_moment h) planned
    (has_stepped h)
    o.state k.1 (opens.state ∙ held-length t [] h)
