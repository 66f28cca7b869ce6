-- The step of an operator, by the steps of its parts.
use Rattle.std.proofs.Common.{◌≡◌, ℕ, ◌+◌, ◌*◌, ◌≤◌, Bool, true, false, Option, Some, None, List}
use Rattle.std.proofs.Common.{[], ◌∷◌, ◌++◌, length, take, drop, refl, sym, ap, ◌∙◌, arith}
use Rattle.std.proofs.Math.Seq.{take-append_seam, drop-append_seam}
use Rattle.zs_term.specs.Output.{passes, picked}
use Rattle.zs_term.specs.Schedule.{Schedule, weight, two, over, both, either, and_then, while_input}
use Rattle.zs_term.specs.Schedule.{while_output, mapped, reset_when}
use Rattle.zs_term.specs.declared.term.Test.{Test}
use Rattle.zs_term.specs.declared.term.Pick.{Pick}
use Rattle.zs_term.specs.declared.term.Func.{Func}
use Rattle.zs_step.specs.declared.decision.Decision.{Decision}
use Rattle.zs_step.specs.History.{History}
use Rattle.zs_step.specs.Answer.{answer_of, later_of, earlier_of, only_if, is_next, done_from}
use Rattle.zs_step.specs.Answer.{from_done, sequel_of, since_reset, reset_if}
use Rattle.zs_step.specs.Visits.{visits, sequel_visits, reset_visits_if}
use Rattle.zs_c.specs.Words.{sequel_words}
use Rattle.zs_step.proofs.VisitBounds.{visits-le}
use Rattle.zs_c.specs.Code.{held_of, held_size}
use Rattle.zs_c.specs.Leaves.{word_at}
use Rattle.zs_c.specs.Steps.{StepsCode, StepsBoth, StepsThen}
use Rattle.zs_c.proofs.Codes.{held-length}

-- the words of two parts, whatever the history of each
pub first-held : (a b : Schedule) (h g : History) (words : List ℕ) (n : ℕ) →
    words ≡ held_of a h ++ held_of b g → n ≡ held_size a → take n words ≡ held_of a h
first-held a b h g words n held sized =
    ap (λ k. take k words) (sized ∙ held-length a [] h) ∙ ap (take (length (held_of a h))) held
    ∙ take-append_seam (held_of a h) (held_of b g)

pub second-held : (a b : Schedule) (h g : History) (words : List ℕ) (n : ℕ) →
    words ≡ held_of a h ++ held_of b g → n ≡ held_size a → drop n words ≡ held_of b g
second-held a b h g words n held sized =
    ap (λ k. drop k words) (sized ∙ held-length a [] h) ∙ ap (drop (length (held_of a h))) held
    ∙ drop-append_seam (held_of a h) (held_of b g)

-- a step of `&&`
pub both-steps : (a b : Schedule) (h : History) (words : List ℕ) (now input : ℕ) (x y d : Decision)
    (before after : ℕ) →
    StepsBoth a b h words now input x y (before + 1) after → d ≡ later_of x y →
    StepsCode (two both a b) h words now input d before after
both-steps a b h words now input x y d before after s e = record {
  held = s.held;
  decides = e ∙ ap (λ u. later_of u y) s.first
      ∙ ap (later_of (answer_of a ((now, input) ∷ h)).decision) s.second;
  visited = omega (arith, s.visited);
}

-- a step of `||`
pub either-steps : (a b : Schedule) (h : History) (words : List ℕ) (now input : ℕ)
    (x y d : Decision) (before after : ℕ) →
    StepsBoth a b h words now input x y (before + 1) after → d ≡ earlier_of x y →
    StepsCode (two either a b) h words now input d before after
either-steps a b h words now input x y d before after s e = record {
  held = s.held;
  decides = e ∙ ap (λ u. earlier_of u y) s.first
      ∙ ap (earlier_of (answer_of a ((now, input) ∷ h)).decision) s.second;
  visited = omega (arith, s.visited);
}

-- a step of `andThenEither`, whose visit was counted before
pub then-steps : (a b : Schedule) (h : History) (words : List ℕ) (now input : ℕ) (d : Decision)
    (before after : ℕ) →
    StepsThen a b h words now input d (before + 1) after →
    StepsCode (two and_then a b) h words now input d before after
then-steps a b h words now input d before after s = record {
  held = s.held;
  decides = s.decides;
  visited = omega (arith, s.visited);
}

-- a step of `.whileInput`
pub while_input-steps : (s : Schedule) (t : Test) (h : History) (words : List ℕ) (now input : ℕ)
    (x d : Decision) (before after : ℕ) →
    StepsCode s h words now input x (before + 1) after → d ≡ only_if (passes t input) x →
    StepsCode (over s (while_input t)) h words now input d before after
while_input-steps s t h words now input x d before after p e = record {
  held = p.held;
  decides = e ∙ ap (only_if (passes t input)) p.decides;
  visited = omega (arith, p.visited);
}

-- a step of `.whileOutput`
pub while_output-steps : (s : Schedule) (k : Pick) (t : Test) (h : History) (words : List ℕ)
    (now input : ℕ) (x d : Decision) (before after : ℕ) →
    StepsCode s h words now input x (before + 1) after →
    d ≡ only_if (passes t (picked k (answer_of s ((now, input) ∷ h)).output)) x →
    StepsCode (over s (while_output k t)) h words now input d before after
while_output-steps s k t h words now input x d before after p e = record {
  held = p.held;
  decides = e ∙ ap (only_if (passes t (picked k (answer_of s ((now, input) ∷ h)).output)))
      p.decides;
  visited = omega (arith, p.visited);
}

-- a step of `.map`
pub mapped-steps : (s : Schedule) (f : Func) (h : History) (words : List ℕ) (now input : ℕ)
    (d : Decision) (before after : ℕ) →
    StepsCode s h words now input d (before + 1) after →
    StepsCode (over s (mapped f)) h words now input d before after
mapped-steps s f h words now input d before after p = record {
  held = p.held;
  decides = p.decides;
  visited = omega (arith, p.visited);
}

-- whether the part of a `.resetWhen` is reset at this step
abbrev resets : Schedule → Pick → Test → ℕ × ℕ → History → Bool
resets s k t p g = passes t (picked k (answer_of s (p ∷ g)).output)

-- a step of `.resetWhen` that doesn't reset
pub reset-stays : (s : Schedule) (k : Pick) (t : Test) (h : History) (words : List ℕ)
    (now input : ℕ) (d : Decision) (before after : ℕ) →
    StepsCode s (since_reset (answer_of s) k t h) words now input d (before + 1) after →
    resets s k t (now, input) (since_reset (answer_of s) k t h) ≡ false →
    StepsCode (over s (reset_when k t)) h words now input d before after
reset-stays s k t h words now input d before after p stays =
    let g = since_reset (answer_of s) k t h in
    let pair : ℕ × ℕ = (now, input) in
    let counted : reset_visits_if (resets s k t pair g) (visits s (pair ∷ g)) (visits s (pair ∷ []))
    ≡ visits s (pair ∷ g) =
    ap (λ b. reset_visits_if b (visits s (pair ∷ g)) (visits s (pair ∷ []))) stays in
    record {
      held = p.held ∙ ap (λ b. held_of s (reset_if b pair g)) (sym stays);
      decides = p.decides ∙ ap (λ b. (answer_of s (reset_if b pair g)).decision) (sym stays);
      visited = omega (arith, p.visited, counted);
    }

-- a step of `.resetWhen` that resets: the part is reset and stepped once more
pub reset-begins : (s : Schedule) (k : Pick) (t : Test) (h : History) (first words : List ℕ)
    (now input : ℕ) (x d : Decision) (before between after : ℕ) →
    StepsCode s (since_reset (answer_of s) k t h) first now input x (before + 1) between →
    resets s k t (now, input) (since_reset (answer_of s) k t h) ≡ true →
    StepsCode s [] words now input d between after →
    StepsCode (over s (reset_when k t)) h words now input d before after
reset-begins s k t h first words now input x d before between after p passed q =
    let g = since_reset (answer_of s) k t h in
    let pair : ℕ × ℕ = (now, input) in
    let counted : reset_visits_if (resets s k t pair g) (visits s (pair ∷ g)) (visits s (pair ∷ []))
    ≡ visits s (pair ∷ g) + visits s (pair ∷ []) =
    ap (λ b. reset_visits_if b (visits s (pair ∷ g)) (visits s (pair ∷ []))) passed in
    record {
      held = q.held ∙ ap (λ b. held_of s (reset_if b pair g)) (sym passed);
      decides = q.decides ∙ ap (λ b. (answer_of s (reset_if b pair g)).decision) (sym passed);
      visited = omega (arith, p.visited, q.visited, counted);
    }

-- the second step of a reset is within the remaining visits
pub reset-room : (s : Schedule) (g : History) (words : List ℕ) (now input : ℕ) (d : Decision)
    (before between most : ℕ) →
    StepsCode s g words now input d (before + 1) between → before + (1 + 2 * weight s) ≤ most →
    between + weight s ≤ most
reset-room s g words now input d before between most p room =
    omega (arith, p.visited, visits-le s ((now, input) ∷ g), room)

-- the meaning of the first word of `andThenEither`
pub first-is-on : (o : Option History) (x y : History → List ℕ) (h : History) (words : List ℕ) →
    words ≡ sequel_words o x y h → word_at words 0 ≡ 0 →
    (o ≡ None) × (words ≡ 0 ∷ (x h ++ y []))
first-is-on None x y h words is zeroed = (refl, is)
first-is-on (Some g) x y h words is zeroed = let one : word_at words 0 ≡ 1 =
    ap (λ w. word_at w 0) is in absurd (omega (arith, one, zeroed))

pub second-is-on : (o : Option History) (x y : History → List ℕ) (h : History) (words : List ℕ) →
    words ≡ sequel_words o x y h → (word_at words 0 ≡ 0 → ⊥) →
    (g : History) × (o ≡ Some g) × (words ≡ 1 ∷ (x [] ++ y g))
second-is-on None x y h words is other = let none : word_at words 0 ≡ 0 =
    ap (λ w. word_at w 0) is in absurd (other none)
second-is-on (Some g) x y h words is other = (g, refl, is)

-- one more step of `andThenEither`
from_done-next : (a : Schedule) (h : History) (p : ℕ × ℕ) (o : Option History) (x : Decision)
    (b : Bool) → from_done (answer_of a) h ≡ o →
    x ≡ (answer_of a (p ∷ h)).decision → is_next x ≡ b →
    from_done (answer_of a) (p ∷ h) ≡ done_from o p b
from_done-next a h p o x b before is next =
    ap (λ k. done_from k p (is_next (answer_of a (p ∷ h)).decision)) before
    ∙ ap (done_from o p) (ap is_next (sym is) ∙ next)

-- the words of `andThenEither`, by the part that is active
abbrev turned : Schedule → Schedule → Option History → History → List ℕ
turned a b o h = sequel_words o (held_of a) (held_of b) h

-- the first part continues
pub then-goes-on : (a b : Schedule) (h : History) (first words : List ℕ) (now input : ℕ)
    (x : Decision) (before after : ℕ) →
    from_done (answer_of a) h ≡ None → StepsCode a h first now input x before after →
    is_next x ≡ true → words ≡ 0 ∷ (first ++ held_of b []) →
    StepsThen a b h words now input x before after
then-goes-on a b h first words now input x before after none p next is =
    let pair : ℕ × ℕ = (now, input) in
    let now_none : from_done (answer_of a) (pair ∷ h) ≡ None =
    from_done-next a h pair None x true none p.decides next in
    let counted : sequel_visits (from_done (answer_of a) h) (from_done (answer_of a) (pair ∷ h))
    (visits a (pair ∷ h)) (visits b) ≡ visits a (pair ∷ h) =
    ap (λ o. sequel_visits o (from_done (answer_of a) (pair ∷ h)) (visits a (pair ∷ h)) (visits b))
    none
    ∙ ap (λ o. sequel_visits None o (visits a (pair ∷ h)) (visits b)) now_none in
    record {
      held = is ∙ ap (λ w. 0 ∷ (w ++ held_of b [])) p.held ∙ ap (λ o. turned a b o (pair ∷ h))
          (sym now_none);
      decides = p.decides ∙ ap (λ o. (sequel_of o (answer_of a (pair ∷ h)) (answer_of b)).decision)
          (sym now_none);
      visited = omega (arith, p.visited, counted);
    }

-- the first part is done at this step, and the second begins
pub then-turns : (a b : Schedule) (h : History) (first second words : List ℕ) (now input : ℕ)
    (x d : Decision) (before between after : ℕ) →
    from_done (answer_of a) h ≡ None → StepsCode a h first now input x before between →
    is_next x ≡ false →
    StepsCode b [] second now input d between after → words ≡ 1 ∷ (held_of a [] ++ second) →
    StepsThen a b h words now input d before after
then-turns a b h first second words now input x d before between after none p stops q is =
    let pair : ℕ × ℕ = (now, input) in
    let begins : from_done (answer_of a) (pair ∷ h) ≡ Some (pair ∷ []) =
    from_done-next a h pair None x false none p.decides stops in
    let counted : sequel_visits (from_done (answer_of a) h) (from_done (answer_of a) (pair ∷ h))
    (visits a (pair ∷ h)) (visits b) ≡
    visits a (pair ∷ h) + visits b (pair ∷ []) =
    ap (λ o. sequel_visits o (from_done (answer_of a) (pair ∷ h)) (visits a (pair ∷ h)) (visits b))
    none
    ∙ ap (λ o. sequel_visits None o (visits a (pair ∷ h)) (visits b)) begins in
    record {
      held = is ∙ ap (λ w. 1 ∷ (held_of a [] ++ w)) q.held ∙ ap (λ o. turned a b o (pair ∷ h))
          (sym begins);
      decides = q.decides ∙ ap (λ o. (sequel_of o (answer_of a (pair ∷ h)) (answer_of b)).decision)
          (sym begins);
      visited = omega (arith, p.visited, q.visited, counted);
    }

-- the second part is active
pub then-second : (a b : Schedule) (h g : History) (second words : List ℕ) (now input : ℕ)
    (d : Decision) (before after : ℕ) →
    from_done (answer_of a) h ≡ Some g → StepsCode b g second now input d before after →
    words ≡ 1 ∷ (held_of a [] ++ second) →
    StepsThen a b h words now input d before after
then-second a b h g second words now input d before after some q is =
    let pair : ℕ × ℕ = (now, input) in
    let goes : from_done (answer_of a) (pair ∷ h) ≡ Some (pair ∷ g) =
    ap (λ o. done_from o pair (is_next (answer_of a (pair ∷ h)).decision)) some in
    let counted : sequel_visits (from_done (answer_of a) h) (from_done (answer_of a) (pair ∷ h))
    (visits a (pair ∷ h)) (visits b) ≡ visits b (pair ∷ g) =
    ap (λ o. sequel_visits o (from_done (answer_of a) (pair ∷ h)) (visits a (pair ∷ h)) (visits b))
    some
    ∙ ap (λ o. sequel_visits (Some g) o (visits a (pair ∷ h)) (visits b)) goes in
    record {
      held = is ∙ ap (λ w. 1 ∷ (held_of a [] ++ w)) q.held
          ∙ ap (λ o. turned a b o (pair ∷ h)) (sym goes);
      decides = q.decides ∙ ap (λ o. (sequel_of o (answer_of a (pair ∷ h)) (answer_of b)).decision)
          (sym goes);
      visited = omega (arith, q.visited, counted);
    }
