-- The output of a node, read from the words of its state.
use Rattle.std.proofs.Common.{◌≡◌, ℕ, ◌-◌, List, [], ◌∷◌, ◌++◌, take, drop, refl, ap, ◌∙◌}
use Rattle.zs_term.specs.Output.{Output, pair, left, right, applied}
use Rattle.zs_term.specs.Schedule.{Schedule, two, over, both, either, and_then, while_input}
use Rattle.zs_term.specs.Schedule.{while_output, mapped, reset_when}
use Rattle.zs_term.specs.declared.term.Test.{Test}
use Rattle.zs_term.specs.declared.term.Pick.{Pick}
use Rattle.zs_term.specs.declared.term.Func.{Func}
use Rattle.zs_step.specs.History.{History}
use Rattle.zs_step.specs.Answer.{answer_of, from_done, since_reset, sequel_of}
use Rattle.zs_c.specs.declared.program.node.Sizes.{Sizes}
use Rattle.zs_c.specs.Code.{held_of, held_size, IsCode}
use Rattle.zs_c.specs.Leaves.{word_at}
use Rattle.zs_c.specs.Form.{sizes_of}
use Rattle.zs_c.specs.View.{Tells}
use Rattle.zs_c.proofs.Codes.{first-code, second-code, part-code}
use Rattle.zs_c.proofs.StepLemmas.{first-held, second-held, first-is-on, second-is-on}

-- the code and the words of an operator's first part, and of its second
pub record TellsParts (n : Sizes) (code words : List ℕ) (levels : ℕ) (x y : Output) : Type 0 where
  pub first : Tells (take n.code (drop 3 code)) (take n.state words) (levels - 1) x
  pub second : Tells (drop n.code (drop 3 code)) (drop n.state words) (levels - 1) y

-- two parts that are stepped together
pub parts-tell : (a b : Schedule) (h : History) (code words : List ℕ) (levels : ℕ) (n : Sizes) →
    n ≡ sizes_of a →
    IsCode a (take n.code (drop 3 code)) (levels - 1) →
    IsCode b (drop n.code (drop 3 code)) (levels - 1) → words ≡ held_of a h ++ held_of b h →
    TellsParts n code words levels (answer_of a h).output (answer_of b h).output
parts-tell a b h code words levels n sized first second held =
    let size : n.state ≡ held_size a = ap (λ (z : Sizes). z.state) sized in
    record {
      first = record {
        term = a;
        history = h;
        coded = first;
        held = first-held a b h h words n.state held size;
        output = refl;
      };
      second = record {
        term = b;
        history = h;
        coded = second;
        held = second-held a b h h words n.state held size;
        output = refl;
      };
    }

-- the output of `&&`
pub both-tells : (a b : Schedule) (h : History) (code words : List ℕ) (levels : ℕ) (n : Sizes)
    (o : Output) → IsCode (two both a b) code levels →
    n ≡ sizes_of a → words ≡ held_of (two both a b) h → o ≡ (answer_of (two both a b) h).output →
    (o ≡ pair (answer_of a h).output (answer_of b h).output)
    × TellsParts n code words levels (answer_of a h).output (answer_of b h).output
both-tells a b h code words levels n o coded sized held is =
    let size : n.code ≡ (sizes_of a).code = ap (λ (z : Sizes). z.code) sized in (
      is,
      parts-tell a b h code words levels n sized
          (first-code both a b code levels n.code coded size)
          (second-code both a b code levels n.code coded size) held,
    )

-- the output of `||`
pub either-tells : (a b : Schedule) (h : History) (code words : List ℕ) (levels : ℕ) (n : Sizes)
    (o : Output) → IsCode (two either a b) code levels →
    n ≡ sizes_of a → words ≡ held_of (two either a b) h →
    o ≡ (answer_of (two either a b) h).output →
    (o ≡ pair (answer_of a h).output (answer_of b h).output)
    × TellsParts n code words levels (answer_of a h).output (answer_of b h).output
either-tells a b h code words levels n o coded sized held is =
    let size : n.code ≡ (sizes_of a).code = ap (λ (z : Sizes). z.code) sized in (
      is,
      parts-tell a b h code words levels n sized
          (first-code either a b code levels n.code coded size)
          (second-code either a b code levels n.code coded size) held,
    )

-- the words of two parts after their first word
tail-of : (w : ℕ) (words rest : List ℕ) → words ≡ w ∷ rest → drop 1 words ≡ rest
tail-of w words rest is = ap (drop 1) is

-- the output of `andThenEither` while the first part is active
pub left-tells : (a b : Schedule) (h : History) (code words : List ℕ) (levels : ℕ) (n : Sizes)
    (o : Output) → IsCode (two and_then a b) code levels →
    n ≡ sizes_of a → words ≡ held_of (two and_then a b) h →
    o ≡ (answer_of (two and_then a b) h).output → word_at words 0 ≡ 0 →
    (o ≡ left (answer_of a h).output)
    × Tells (take n.code (drop 3 code)) (take n.state (drop 1 words)) (levels - 1)
    (answer_of a h).output
left-tells a b h code words levels n o coded sized held is zeroed =
    let on = first-is-on (from_done (answer_of a) h) (held_of a) (held_of b) h words held zeroed in
    let size : n.code ≡ (sizes_of a).code = ap (λ (z : Sizes). z.code) sized in
    let state : n.state ≡ held_size a = ap (λ (z : Sizes). z.state) sized in (
      is ∙ ap (λ k. (sequel_of k (answer_of a h) (answer_of b)).output) on.0,
      record {
        term = a;
        history = h;
        coded = first-code and_then a b code levels n.code coded size;
        held = first-held a b h [] (drop 1 words) n.state
            (tail-of 0 words (held_of a h ++ held_of b []) on.1) state;
        output = refl;
      },
    )

-- and from then on
pub right-tells : (a b : Schedule) (h : History) (code words : List ℕ) (levels : ℕ) (n : Sizes)
    (o : Output) → IsCode (two and_then a b) code levels →
    n ≡ sizes_of a → words ≡ held_of (two and_then a b) h →
    o ≡ (answer_of (two and_then a b) h).output → (word_at words 0 ≡ 0 → ⊥) →
    (y : Output) × (o ≡ right y)
    × Tells (drop n.code (drop 3 code)) (drop n.state (drop 1 words)) (levels - 1) y
right-tells a b h code words levels n o coded sized held is other =
    let on = second-is-on (from_done (answer_of a) h) (held_of a) (held_of b) h words held other in
    let g = on.0 in
    let size : n.code ≡ (sizes_of a).code = ap (λ (z : Sizes). z.code) sized in
    let state : n.state ≡ held_size a = ap (λ (z : Sizes). z.state) sized in (
      (answer_of b g).output,
      is ∙ ap (λ k. (sequel_of k (answer_of a h) (answer_of b)).output) on.1,
      record {
        term = b;
        history = g;
        coded = second-code and_then a b code levels n.code coded size;
        held = second-held a b [] g (drop 1 words) n.state
            (tail-of 1 words (held_of a [] ++ held_of b g) on.2) state;
        output = refl;
      },
    )

-- the words of a part under an operator that returns its part's output, or a function of it
pub while_input-tells : (s : Schedule) (x : Test) (h : History) (code words : List ℕ) (levels : ℕ)
    (o : Output) → IsCode (over s (while_input x)) code levels →
    words ≡ held_of (over s (while_input x)) h → o ≡ (answer_of (over s (while_input x)) h).output →
    Tells (drop 3 code) words (levels - 1) o
while_input-tells s x h code words levels o coded held is =
    record {
      term = s;
      history = h;
      coded = part-code (while_input x) s code levels 3 coded refl;
      held = held;
      output = is;
    }

pub while_output-tells : (s : Schedule) (k : Pick) (x : Test) (h : History) (code words : List ℕ)
    (levels : ℕ) (o : Output) → IsCode (over s (while_output k x)) code levels →
    words ≡ held_of (over s (while_output k x)) h →
    o ≡ (answer_of (over s (while_output k x)) h).output →
    Tells (drop 4 code) words (levels - 1) o
while_output-tells s k x h code words levels o coded held is =
    record {
      term = s;
      history = h;
      coded = part-code (while_output k x) s code levels 4 coded refl;
      held = held;
      output = is;
    }

pub reset_when-tells : (s : Schedule) (k : Pick) (x : Test) (h : History) (code words : List ℕ)
    (levels : ℕ) (o : Output) → IsCode (over s (reset_when k x)) code levels →
    words ≡ held_of (over s (reset_when k x)) h →
    o ≡ (answer_of (over s (reset_when k x)) h).output →
    Tells (drop 4 code) words (levels - 1) o
reset_when-tells s k x h code words levels o coded held is =
    record {
      term = s;
      history = since_reset (answer_of s) k x h;
      coded = part-code (reset_when k x) s code levels 4 coded refl;
      held = held;
      output = is;
    }

pub mapped-tells : (s : Schedule) (f : Func) (h : History) (code words : List ℕ) (levels : ℕ)
    (o : Output) → IsCode (over s (mapped f)) code levels →
    words ≡ held_of (over s (mapped f)) h → o ≡ (answer_of (over s (mapped f)) h).output →
    (o ≡ applied f (answer_of s h).output)
    × Tells (drop 3 code) words (levels - 1) (answer_of s h).output
mapped-tells s f h code words levels o coded held is = (
  is,
  record {
    term = s;
    history = h;
    coded = part-code (mapped f) s code levels 3 coded refl;
    held = held;
    output = refl;
  },
)
