-- Reading the canonical spelling finds its tokens.
use Rattle.std.proofs.Common.{◌≡◌, ◌≢◌, ℕ, zero, suc, ◌+◌, ◌<◌, ◌^◌, List, [], ◌∷◌, ◌++◌, length}
use Rattle.std.proofs.Common.{drop, Bool, true, false, cond, Some, refl, sym, ap, ◌∙◌, subst, arith}
use Rattle.std.proofs.Common.{append_assoc, length-append, inr}
use Rattle.std.specs.Prelude.{take_while, slice_index, nat_eq, nat_lt, ◌&&◌, codes}
use Rattle.std.specs.Char.{is_ascii_alphabetic, is_ascii_digit}
use Rattle.std.specs.Fmt.{decimal}
use Rattle.std.specs.Str.Parse.{AllDigits, digits_value}
use Rattle.std.proofs.lemmas.Fmt.{decimal_is_IsNumeral, first_decimal, decimal_digit}
use Rattle.std.proofs.lemmas.List.Sums.{take_while-cons}
use Rattle.std.proofs.lemmas.Str.Parse.{digit_from_value}
use Rattle.std.proofs.lemmas.Bool.Decides.{nat_tests}
use Rattle.zs_term.specs.Schedule.{Schedule, leaf, two, over, Leaf, plain, counted, exponential}
use Rattle.zs_term.specs.Schedule.{Pairing, both, either, and_then, Modifier, while_input}
use Rattle.zs_term.specs.Schedule.{while_output, collect_all, mapped, reset_when}
use Rattle.zs_term.specs.Number.{FuncFits, LeafFits, ModifierFits, HasFittingNumbers}
use Rattle.zs_term.specs.Token.{Token, number, mark, Placed, nothing, with_token, next_token}
use Rattle.zs_term.specs.Token.{token_at, number_at, word_at, longest, pair_mark, single_mark}
use Rattle.zs_term.specs.Token.{plain_word, counted_word, word_mark, lex, lexed}
use Rattle.zs_term.specs.Grammar.{with_number, with_numbers, with_infix, test_tokens, pick_tokens}
use Rattle.zs_term.specs.Grammar.{func_tokens, SpellsLeaf, pairing_mark, modifier_tokens, Spells}
use Rattle.zs_term.specs.Causes.{tokens_of}
use Rattle.zs_term.specs.Reading.{behind_tokens}
use Rattle.zs_term.specs.Canonical.{canonical_text, leaf_text, pairing_text, modifier_text}
use Rattle.zs_term.specs.Canonical.{number_text, infix_text, cmp_text, pick_text, func_text}
use Rattle.zs_term.specs.Canonical.{test_text, and_then_text, while_input_text, while_output_text}
use Rattle.zs_term.specs.Canonical.{reset_when_text, exponential_text}
use Rattle.zs_term.specs.Laws.{CanonicalSpells}
use Rattle.zs_term.specs.declared.token.Mark.{Mark}
use Rattle.zs_term.specs.declared.token.Mark.TheVariants.{PlainWord, CountedWord, ExponentialWord}
use Rattle.zs_term.specs.declared.token.Mark.TheVariants.{Operator, MethodWord, CollectAllWord}
use Rattle.zs_term.specs.declared.token.Mark.TheVariants.{Comparison, PieceWord, ScaleWord, Open}
use Rattle.zs_term.specs.declared.token.Mark.TheVariants.{Close, Comma, Dot}
use Rattle.zs_term.specs.declared.forms.Plain.{Plain}
use Rattle.zs_term.specs.declared.forms.Plain.TheVariants.{Forever}
use Rattle.zs_term.specs.declared.forms.Counted.{Counted}
use Rattle.zs_term.specs.declared.forms.Counted.TheVariants.{Recurs}
use Rattle.zs_term.specs.declared.forms.Infix.TheVariants.{Both, Either, AndThen}
use Rattle.zs_term.specs.declared.forms.Method.TheVariants.{WhileInput, WhileOutput, Map, ResetWhen}
use Rattle.zs_term.specs.declared.forms.Piece.TheVariants.{First as PieceFirst}
use Rattle.zs_term.specs.declared.forms.Piece.TheVariants.{Second as PieceSecond}
use Rattle.zs_term.specs.declared.forms.Scale.TheVariants.{Plus, Times}
use Rattle.zs_term.specs.declared.term.Test.{Test}
use Rattle.zs_term.specs.declared.term.Cmp.{Cmp}
use Rattle.zs_term.specs.declared.term.Cmp.TheVariants.{Lt, Le, Eq, Ne, Gt, Ge}
use Rattle.zs_term.specs.declared.term.Pick.{Pick}
use Rattle.zs_term.specs.declared.term.Pick.TheVariants.{Whole as PickWhole, First as PickFirst}
use Rattle.zs_term.specs.declared.term.Pick.TheVariants.{Second as PickSecond, Size as PickSize}
use Rattle.zs_term.specs.declared.term.Func.{Func}
use Rattle.zs_term.specs.declared.term.Func.TheVariants.{First, Second, Size, Merge, Const, Add}
use Rattle.zs_term.specs.declared.term.Func.TheVariants.{Mul}
use Rattle.zs_term.proofs.Completeness.{append_nil}
use Rattle.zs_term.proofs.Progress.{tokens_append}
use Rattle.zs_term.proofs.Lexing.{lex_owned, at_token, number_found}

-- bytes that no token before them absorbs
abbrev Loose : List ℕ → Type 0
Loose rest = (is_ascii_alphabetic (slice_index rest 0) ≡ false)
    × (is_ascii_digit (slice_index rest 0) ≡ false) × (nat_eq (slice_index rest 0) 61 ≡ false)

abbrev Any : List ℕ → Type 0
Any rest = Unit {0}

-- how the bytes are read at any place, before a rest of this sort
record ReadAt (bytes : List ℕ) (ts : List Token) (at : ℕ) (rest : List ℕ) : Type 0 where
  placed : List Placed
  same : tokens_of placed ≡ ts
  read : lex 0 at (bytes ++ rest) ≡ behind_tokens placed (lex 0 (at + length bytes) rest)

abbrev Reads : (List ℕ → Type 0) → List ℕ → List Token → Type 0
Reads P bytes ts = (at : ℕ) (rest : List ℕ) → P rest → ReadAt bytes ts at rest

both_read : {P Q : List ℕ → Type 0} {x y : List ℕ} {ts us : List Token} → Reads P x ts →
    Reads Q y us → ((rest : List ℕ) → Q rest → P (y ++ rest)) → Reads Q (x ++ y) (ts ++ us)
both_read {P} {Q} {x} {y} {ts} {us} h k front = λ at rest q.
    let a = h at (y ++ rest) (front rest q) in
    let b = k (at + length x) rest q in
    let place : at + length x + length y ≡ at + length (x ++ y) =
    omega (arith, length-append x y) in
    let read : lex 0 at ((x ++ y) ++ rest)
    ≡ behind_tokens (a.placed ++ b.placed) (lex 0 (at + length (x ++ y)) rest) =
    ap (lex 0 at) (append_assoc x y rest) ∙ a.read ∙ ap (behind_tokens a.placed) b.read
    ∙ ap (λ n. behind_tokens a.placed (behind_tokens b.placed (lex 0 n rest))) place
    ∙ ap (λ ps. record { tokens = ps; stop = (lex 0 (at + length (x ++ y)) rest).stop })
    (sym (append_assoc a.placed b.placed (lex 0 (at + length (x ++ y)) rest).tokens)) in
    record {
      placed = a.placed ++ b.placed;
      same = tokens_append a.placed b.placed ∙ ap (λ w. w ++ tokens_of b.placed) a.same
          ∙ ap (λ w. ts ++ w) b.same;
      read = read;
    }

one_read : (at : ℕ) (t : Token) (bytes rest : List ℕ) (n : ℕ) → n ≡ at + length bytes →
    lex 0 at (bytes ++ rest) ≡ with_token at t (lex 0 n rest) → ReadAt bytes (t ∷ []) at rest
one_read at t bytes rest n e h = record {
  placed = record { place = at; token = t } ∷ [];
  same = refl;
  read = h ∙ ap (λ k. with_token at t (lex 0 k rest)) e;
}

space_read : Reads Any (codes " ") []
unfolding lex
space_read = λ at rest u. record { placed = []; same = refl; read = refl }

open_read : Reads Any (codes "(") (mark Open ∷ [])
unfolding lex
open_read = λ at rest u. one_read at (mark Open) (codes "(") rest (at + 1) (omega arith) refl

close_read : Reads Any (codes ")") (mark Close ∷ [])
unfolding lex
close_read = λ at rest u. one_read at (mark Close) (codes ")") rest (at + 1) (omega arith) refl

and_read : Reads Any (codes "&&") (mark (Operator Both) ∷ [])
unfolding lex
and_read = λ at rest u. one_read at (mark (Operator Both)) (codes "&&") rest (at + 1 + 1)
    (omega arith) refl

abbrev all_pass : (ℕ → Bool) → List ℕ → Bool
all_pass p [] = true
all_pass p (b ∷ bs) = p b && all_pass p bs

both_true : (a b : Bool) → (a && b) ≡ true → (a ≡ true) × (b ≡ true)
both_true true b h = (refl, h)
both_true false b h = cc

front_nothing : (p : ℕ → Bool) (rest : List ℕ) → p (slice_index rest 0) ≡ false →
    take_while p rest ≡ []
front_nothing p [] h = refl
front_nothing p (b ∷ rest) h = rw (take_while-cons p b rest, h) refl

front_is : (p : ℕ → Bool) (w rest : List ℕ) → all_pass p w ≡ true → p (slice_index rest 0) ≡ false →
    take_while p (w ++ rest) ≡ w
front_is p [] rest h k = front_nothing p rest k
front_is p (b ∷ w) rest h k =
    let h' = both_true (p b) (all_pass p w) h in
    let here = h'.0 in
    rw (take_while-cons p b (w ++ rest), here, front_is p w rest h'.1 k) refl

drop_front : (w rest : List ℕ) → drop (length w) (w ++ rest) ≡ rest
drop_front [] rest = refl
drop_front (b ∷ w) rest = drop_front w rest

run_read : (at b : ℕ) (w rest : List ℕ) (t : Token) → b ≢ 32 →
    token_at (b ∷ (w ++ rest)) ≡ Some (t, suc (length w)) → ReadAt (b ∷ w) (t ∷ []) at rest
run_read at b w rest t e h =
    one_read at t (b ∷ w) rest (at + 1 + length w) (omega arith)
    (at_token b at (w ++ rest) e
    ∙ ap (λ o. next_token at o (λ owned. lex owned (at + 1) (w ++ rest))) h
    ∙ ap (with_token at t) (ap (λ n. lex n (at + 1) (w ++ rest)) (omega arith) ∙ lex_owned
    (length w) (at + 1) (w ++ rest) ∙ ap (lex 0 (at + 1 + length w)) (drop_front w rest)))

is_first : {X : Type 0} (b : Bool) (x y : X) → b ≡ true → cond b x y ≡ x
is_first true x y h = refl
is_first false x y h = cc

is_second : {X : Type 0} (b : Bool) (x y : X) → b ≡ false → cond b x y ≡ y
is_second true x y h = cc
is_second false x y h = refl

word_read : (b : ℕ) (w : List ℕ) → b ≢ 32 → all_pass is_ascii_alphabetic (b ∷ w) ≡ true →
    Reads Loose (b ∷ w) (mark (word_mark (b ∷ w)) ∷ [])
word_read b w e h = λ at rest loose.
    let first = (both_true (is_ascii_alphabetic b) (all_pass is_ascii_alphabetic w) h).0 in
    let letters = front_is is_ascii_alphabetic (b ∷ w) rest h loose.0 in
    let whole : token_at (b ∷ (w ++ rest)) ≡ Some (mark (word_mark (b ∷ w)), suc (length w)) =
    is_first (is_ascii_alphabetic b) (Some (word_at (b ∷ (w ++ rest))))
    (cond (is_ascii_digit b) (number_at (b ∷ (w ++ rest)))
    (longest (pair_mark b (slice_index (b ∷ (w ++ rest)) 1)) (single_mark b))) first
    ∙ ap (λ l. Some (mark (word_mark l), length l)) letters in
    run_read at b w rest (mark (word_mark (b ∷ w))) e whole

digits_pass : (ds : List ℕ) → AllDigits 10 ds → all_pass is_ascii_digit ds ≡ true
digits_pass [] h = refl
digits_pass (d ∷ ds) h =
    let r = digit_from_value d h.0 in
    let e : is_ascii_digit d ≡ true = grind (arith, nat_tests) in
    rw (e, digits_pass ds h.1) refl

digits_read : (n : ℕ) (ds : List ℕ) → AllDigits 10 ds → 0 < length ds → digits_value 10 ds ≡ n →
    (nat_lt 1 (length ds) && nat_eq (slice_index ds 0) 48) ≡ false → Reads Loose ds (number n ∷ [])
digits_read n [] h p v z = absurd (omega arith)
digits_read n (d ∷ ds) h p v z = λ at rest loose.
    let r = digit_from_value d h.0 in
    let here : is_ascii_digit d ≡ true = grind (arith, nat_tests) in
    let no_letter : is_ascii_alphabetic d ≡ false = grind (arith, nat_tests) in
    let digits = front_is is_ascii_digit (d ∷ ds) rest (digits_pass (d ∷ ds) h) loose.1 in
    let whole : token_at (d ∷ (ds ++ rest)) ≡ Some (number n, suc (length ds)) =
    is_second (is_ascii_alphabetic d) (Some (word_at (d ∷ (ds ++ rest))))
    (cond (is_ascii_digit d) (number_at (d ∷ (ds ++ rest)))
    (longest (pair_mark d (slice_index (d ∷ (ds ++ rest)) 1)) (single_mark d))) no_letter
    ∙ is_first (is_ascii_digit d) (number_at (d ∷ (ds ++ rest)))
    (longest (pair_mark d (slice_index (d ∷ (ds ++ rest)) 1)) (single_mark d)) here
    ∙ number_found (d ∷ (ds ++ rest)) (d ∷ ds) (sym digits) z
    ∙ ap (λ k. Some (number k, suc (length ds))) v in
    run_read at d ds rest (number n) (λ e. omega arith) whole

and_false : (a b : Bool) → b ≡ false → (a && b) ≡ false
and_false true b h = h
and_false false b h = refl

not_48 : (k : ℕ) → 48 < k → nat_eq k 48 ≡ false
not_48 k h = grind (arith, nat_tests)

no_led : (n : ℕ) → n < 2 ^ 64 →
    (nat_lt 1 (length (decimal n)) && nat_eq (slice_index (decimal n) 0) 48) ≡ false
no_led zero h = let e = decimal_digit 0 (omega arith) in rw e refl
no_led (suc n) h =
    let first = first_decimal (suc n) (omega arith) h in
    let e : nat_eq (slice_index (decimal (suc n)) 0) 48 ≡ false =
    not_48 (slice_index (decimal (suc n)) 0) first in
    and_false (nat_lt 1 (length (decimal (suc n)))) (nat_eq (slice_index (decimal (suc n)) 0) 48) e

number_read : (n : ℕ) → n < 2 ^ 64 → Reads Loose (decimal n) (number n ∷ [])
number_read n h =
    let d = decimal_is_IsNumeral n h in
    digits_read n (decimal n) d.0.1 d.0.0 d.1 (no_led n h)

-- a front that is read alike before any rest may be followed by every rest
loosely : {bytes : List ℕ} {ts : List Token} → Reads Any bytes ts → Reads Loose bytes ts
loosely h = λ at rest l. h at rest tt

no_space : (b : ℕ) → is_ascii_alphabetic b ≡ true → b ≢ 32
no_space b h = λ e. let never : is_ascii_alphabetic 32 ≡ true =
    subst (λ c. is_ascii_alphabetic c ≡ true) e h in cc

-- a word, followed by a symbol or a space
word_open_read : (b : ℕ) (w : List ℕ) → b ≢ 32 → all_pass is_ascii_alphabetic (b ∷ w) ≡ true →
    Reads Any ((b ∷ w) ++ codes "(") (mark (word_mark (b ∷ w)) ∷ mark Open ∷ [])
word_open_read b w e h = both_read (word_read b w e h) open_read (λ rest u. (refl, refl, refl))

word_space_read : (b : ℕ) (w : List ℕ) → b ≢ 32 → all_pass is_ascii_alphabetic (b ∷ w) ≡ true →
    Reads Any ((b ∷ w) ++ codes " ") (mark (word_mark (b ∷ w)) ∷ [])
word_space_read b w e h = both_read (word_read b w e h) space_read (λ rest u. (refl, refl, refl))

dot_read : Reads Any (codes ".") (mark Dot ∷ [])
unfolding lex
dot_read = λ at rest u. one_read at (mark Dot) (codes ".") rest (at + 1) (omega arith) refl

comma_read : Reads Any (codes ",") (mark Comma ∷ [])
unfolding lex
comma_read = λ at rest u. one_read at (mark Comma) (codes ",") rest (at + 1) (omega arith) refl

or_read : Reads Any (codes "||") (mark (Operator Either) ∷ [])
unfolding lex
or_read = λ at rest u. one_read at (mark (Operator Either)) (codes "||") rest (at + 1 + 1)
    (omega arith) refl

first_read : Reads Any (codes "_1") (mark (PieceWord PieceFirst) ∷ [])
unfolding lex
first_read = λ at rest u. one_read at (mark (PieceWord PieceFirst)) (codes "_1") rest (at + 1 + 1)
    (omega arith) refl

second_read : Reads Any (codes "_2") (mark (PieceWord PieceSecond) ∷ [])
unfolding lex
second_read = λ at rest u. one_read at (mark (PieceWord PieceSecond)) (codes "_2") rest (at + 1 + 1)
    (omega arith) refl

-- a text, followed by a space
spaced_read : (bytes : List ℕ) (ts : List Token) → Reads Any bytes ts →
    Reads Any (bytes ++ codes " ") ts
spaced_read bytes ts h = λ at rest u. let r =
    both_read h space_read (λ r u. tt) at rest tt in record {
      placed = r.placed;
      same = r.same ∙ append_nil ts;
      read = r.read;
    }

cmp_read : (c : Cmp) → Reads Any (cmp_text c) (mark (Comparison c) ∷ [])
unfolding lex
cmp_read Lt = λ at rest u. one_read at (mark (Comparison Lt)) (codes "< ") rest (at + 1 + 1)
    (omega arith) refl
cmp_read Le = λ at rest u. one_read at (mark (Comparison Le)) (codes "<= ") rest (at + 1 + 1 + 1)
    (omega arith) refl
cmp_read Eq = λ at rest u. one_read at (mark (Comparison Eq)) (codes "= ") rest (at + 1 + 1)
    (omega arith) refl
cmp_read Ne = λ at rest u. one_read at (mark (Comparison Ne)) (codes "!= ") rest (at + 1 + 1 + 1)
    (omega arith) refl
cmp_read Gt = λ at rest u. one_read at (mark (Comparison Gt)) (codes "> ") rest (at + 1 + 1)
    (omega arith) refl
cmp_read Ge = λ at rest u. one_read at (mark (Comparison Ge)) (codes ">= ") rest (at + 1 + 1 + 1)
    (omega arith) refl

plus_read : Reads Any (codes "+ ") (mark (ScaleWord Plus) ∷ [])
unfolding lex
plus_read = λ at rest u. one_read at (mark (ScaleWord Plus)) (codes "+ ") rest (at + 1 + 1)
    (omega arith) refl

times_read : Reads Any (codes "* ") (mark (ScaleWord Times) ∷ [])
unfolding lex
times_read = λ at rest u. one_read at (mark (ScaleWord Times)) (codes "* ") rest (at + 1 + 1)
    (omega arith) refl

nothing_read : Reads Any [] []
nothing_read = λ at rest u. record {
  placed = [];
  same = refl;
  read = ap (λ n. lex 0 n rest) (omega arith);
}

pick_read : (p : Pick) → Reads Any (pick_text p) (pick_tokens p)
pick_read PickWhole = nothing_read
pick_read PickFirst = spaced_read (codes "_1") _ first_read
pick_read PickSecond = spaced_read (codes "_2") _ second_read
pick_read PickSize = word_space_read 115 (codes "ize") (λ e. omega arith) refl

func_read : (f : Func) → FuncFits f → Reads Loose (func_text f) (func_tokens f)
func_read First h = loosely first_read
func_read Second h = loosely second_read
func_read Size h = word_read 115 (codes "ize") (λ e. omega arith) refl
func_read Merge h = word_read 109 (codes "erge") (λ e. omega arith) refl
func_read (Const n) h =
    both_read (word_space_read 97 (codes "s") (λ e. omega arith) refl) (number_read n h)
    (λ rest u. tt)
func_read (Add n) h = both_read plus_read (number_read n h) (λ rest u. tt)
func_read (Mul n) h = both_read times_read (number_read n h) (λ rest u. tt)

close_behind : (bytes : List ℕ) (ts : List Token) → Reads Loose bytes ts →
    Reads Any (bytes ++ codes ")") (ts ++ mark Close ∷ [])
close_behind bytes ts h = both_read h close_read (λ rest u. (refl, refl, refl))

number_form_read : (word : List ℕ) (m : Mark) (n : ℕ) → n < 2 ^ 64 →
    Reads Any (word ++ codes "(") (mark m ∷ mark Open ∷ []) →
    Reads Loose (number_text word n) (with_number m n)
number_form_read word m n h w = loosely (subst (λ bytes. Reads Any bytes (with_number m n))
    (append_assoc word (codes "(") (decimal n ++ codes ")"))
    (both_read w (close_behind (decimal n) _ (number_read n h)) (λ rest u. tt)))

infix_form_read : (operator : List ℕ) (m : Mark) (x y : List ℕ) (ts us : List Token) →
    Reads Loose x ts → ((rest : List ℕ) → Loose (operator ++ rest)) →
    Reads Any operator (mark m ∷ []) → Reads Loose y us →
    Reads Loose (infix_text x operator y) (with_infix ts m us)
infix_form_read operator m x y ts us h k o i =
    loosely (both_read open_read
    (both_read h (both_read o (close_behind y us i) (λ rest u. tt))
    (λ rest u. subst Loose (sym (append_assoc operator (y ++ codes ")") rest))
    (k ((y ++ codes ")") ++ rest))))
    (λ rest u. tt))

-- a term, followed by its dot and a method
method_read : (x behind : List ℕ) (ts us : List Token) → Reads Loose x ts →
    ((rest : List ℕ) → Loose (behind ++ rest)) → Reads Loose behind us →
    Reads Loose (x ++ behind) (ts ++ us)
method_read x behind ts us h k b = both_read h b (λ rest l. k rest)

test_read : (t : Test) → t.than < 2 ^ 64 →
    Reads Any (test_text t) (test_tokens t ++ mark Close ∷ [])
test_read t h = both_read (cmp_read t.cmp) (close_behind (decimal t.than) _ (number_read t.than h))
    (λ rest u. tt)

-- a pick and a test
picked_read : (p : Pick) (t : Test) → t.than < 2 ^ 64 →
    Reads Any (pick_text p ++ test_text t) ((pick_tokens p ++ test_tokens t) ++ mark Close ∷ [])
picked_read p t h = subst (Reads Any (pick_text p ++ test_text t))
    (sym (append_assoc (pick_tokens p) (test_tokens t) (mark Close ∷ [])))
    (both_read (pick_read p) (test_read t h) (λ rest u. tt))

input_read : Reads Any while_input_text (mark Dot ∷ mark (MethodWord WhileInput) ∷ mark Open ∷ [])
unfolding while_input_text
input_read = both_read dot_read (word_open_read 119 (codes "hileInput") (λ e. omega arith) refl)
    (λ rest u. tt)

output_read : Reads Any while_output_text
    (mark Dot ∷ mark (MethodWord WhileOutput) ∷ mark Open ∷ [])
unfolding while_output_text
output_read = both_read dot_read (word_open_read 119 (codes "hileOutput") (λ e. omega arith) refl)
    (λ rest u. tt)

reset_read : Reads Any reset_when_text (mark Dot ∷ mark (MethodWord ResetWhen) ∷ mark Open ∷ [])
unfolding reset_when_text
reset_read = both_read dot_read (word_open_read 114 (codes "esetWhen") (λ e. omega arith) refl)
    (λ rest u. tt)

map_read : Reads Any (codes ".map(") (mark Dot ∷ mark (MethodWord Map) ∷ mark Open ∷ [])
map_read = both_read dot_read (word_open_read 109 (codes "ap") (λ e. omega arith) refl)
    (λ rest u. tt)

and_then_read : Reads Any and_then_text (mark (Operator AndThen) ∷ [])
unfolding and_then_text
and_then_read = both_read space_read (word_space_read 97 (codes "ndThenEither") (λ e. omega arith)
    refl) (λ rest u. tt)

and_then_loose : (rest : List ℕ) → Loose (and_then_text ++ rest)
unfolding and_then_text
and_then_loose rest = (refl, refl, refl)

input_loose : (behind rest : List ℕ) → Loose ((while_input_text ++ behind) ++ rest)
unfolding while_input_text
input_loose behind rest = (refl, refl, refl)

output_loose : (behind rest : List ℕ) → Loose ((while_output_text ++ behind) ++ rest)
unfolding while_output_text
output_loose behind rest = (refl, refl, refl)

reset_loose : (behind rest : List ℕ) → Loose ((reset_when_text ++ behind) ++ rest)
unfolding reset_when_text
reset_loose behind rest = (refl, refl, refl)

collect_read : Reads Loose (codes ".collectAll") (mark Dot ∷ mark CollectAllWord ∷ [])
collect_read = both_read dot_read (word_read 99 (codes "ollectAll") (λ e. omega arith) refl)
    (λ rest u. tt)

exponential_read : (b f : ℕ) → b < 2 ^ 64 → f < 2 ^ 64 →
    Reads Loose (leaf_text (exponential b f)) (with_numbers ExponentialWord b f)
unfolding exponential_text
exponential_read b f h k =
    loosely (both_read (word_open_read 101 (codes "xponential") (λ e. omega arith) refl)
    (both_read (number_read b h) (both_read (spaced_read (codes ",") _ comma_read)
    (close_behind (decimal f) _ (number_read f k)) (λ rest u. tt))
    (λ rest u. (refl, refl, refl)))
    (λ rest u. tt))

-- only letters, none of them a space
abbrev is_letters : List ℕ → Bool
is_letters [] = false
is_letters (b ∷ w) = all_pass is_ascii_alphabetic (b ∷ w)

letters_read : (w : List ℕ) (m : Mark) → is_letters w ≡ true → word_mark w ≡ m →
    Reads Loose w (mark m ∷ [])
letters_read [] m h e = cc
letters_read (b ∷ w) m h e = subst (λ k. Reads Loose (b ∷ w) (mark k ∷ [])) e (word_read b w
    (no_space b (both_true (is_ascii_alphabetic b) (all_pass is_ascii_alphabetic w) h).0) h)

-- the words of the leaves
plain_read : (p : Plain) → Reads Loose (plain_word p) (mark (PlainWord p) ∷ [])
plain_read Forever = letters_read (plain_word Forever) (PlainWord Forever) refl refl
plain_read p = letters_read (plain_word p) (PlainWord p) refl refl

counted_read : (c : Counted) →
    Reads Any (counted_word c ++ codes "(") (mark (CountedWord c) ∷ mark Open ∷ [])
counted_read Recurs = both_read (letters_read (counted_word Recurs) (CountedWord Recurs) refl
    refl) open_read (λ rest u. (refl, refl, refl))
counted_read c = both_read (letters_read (counted_word c) (CountedWord c) refl refl) open_read
    (λ rest u. (refl, refl, refl))

-- the tokens that spell the leaf, and how its text is read as them
record SpelledLeaf (l : Leaf) : Type 0 where
  tokens : List Token
  spelled : SpellsLeaf tokens l
  read : Reads Loose (leaf_text l) tokens

spelled_leaf : (l : Leaf) → LeafFits l → SpelledLeaf l
spelled_leaf (plain p) h = record {
  tokens = mark (PlainWord p) ∷ [];
  spelled = refl;
  read = plain_read p;
}
spelled_leaf (counted c n) h = record {
  tokens = with_number (CountedWord c) n;
  spelled = refl;
  read = number_form_read (counted_word c) (CountedWord c) n h (counted_read c);
}
spelled_leaf (exponential b f) h = record {
  tokens = with_numbers ExponentialWord b f;
  spelled = inr refl;
  read = exponential_read b f h.0 h.1;
}

pairing_read : (p : Pairing) → Reads Any (pairing_text p) (mark (pairing_mark p) ∷ [])
pairing_read both = both_read space_read (spaced_read (codes "&&") _ and_read) (λ rest u. tt)
pairing_read either = both_read space_read (spaced_read (codes "||") _ or_read) (λ rest u. tt)
pairing_read and_then = and_then_read

pairing_loose : (p : Pairing) (rest : List ℕ) → Loose (pairing_text p ++ rest)
pairing_loose both rest = (refl, refl, refl)
pairing_loose either rest = (refl, refl, refl)
pairing_loose and_then rest = and_then_loose rest

modifier_read : (m : Modifier) → ModifierFits m → Reads Loose (modifier_text m) (modifier_tokens m)
modifier_read (while_input t) h = loosely (both_read input_read (test_read t h) (λ rest u. tt))
modifier_read (while_output p t) h =
    loosely (both_read output_read (picked_read p t h) (λ rest u. tt))
modifier_read collect_all h = collect_read
modifier_read (mapped f) h =
    loosely (both_read map_read (close_behind (func_text f) _ (func_read f h)) (λ rest u. tt))
modifier_read (reset_when p t) h = loosely (both_read reset_read (picked_read p t h) (λ rest u. tt))

modifier_loose : (m : Modifier) (rest : List ℕ) → Loose (modifier_text m ++ rest)
modifier_loose (while_input t) rest = input_loose _ rest
modifier_loose (while_output p t) rest = output_loose _ rest
modifier_loose collect_all rest = (refl, refl, refl)
modifier_loose (mapped f) rest = (refl, refl, refl)
modifier_loose (reset_when p t) rest = reset_loose _ rest

-- the tokens that spell the term, and how its canonical text is read as them
record Spelled (t : Schedule) : Type 0 where
  tokens : List Token
  spelled : Spells tokens t
  read : Reads Loose (canonical_text t) tokens

spelled : (t : Schedule) → HasFittingNumbers t → Spelled t
spelled (leaf l) h = let x =
    spelled_leaf l h in record { tokens = x.tokens; spelled = x.spelled; read = x.read }
spelled (two p a b) h =
    let x = spelled a h.0 in let y = spelled b h.1 in
    record {
      tokens = with_infix x.tokens (pairing_mark p) y.tokens;
      spelled = (x.tokens, y.tokens, x.spelled, y.spelled, refl);
      read = infix_form_read (pairing_text p) (pairing_mark p) (canonical_text a) (canonical_text b)
          x.tokens y.tokens x.read (pairing_loose p) (pairing_read p) y.read;
    }
spelled (over a m) h =
    let x = spelled a h.0 in
    record {
      tokens = x.tokens ++ modifier_tokens m;
      spelled = (x.tokens, x.spelled, refl);
      read = method_read (canonical_text a) _ x.tokens _ x.read (modifier_loose m)
          (modifier_read m h.1);
    }

at_the_end : (at : ℕ) → lex 0 at [] ≡ nothing
unfolding lex
at_the_end at = refl

pub canonical_spells : CanonicalSpells
canonical_spells t h =
    let s = spelled t h in
    let r = s.read 0 [] (refl, refl, refl) in
    let whole : lexed (canonical_text t) ≡ behind_tokens r.placed nothing =
    ap (lex 0 0) (sym (append_nil (canonical_text t))) ∙ r.read ∙ ap (behind_tokens r.placed)
    (at_the_end (0 + length (canonical_text t))) in
    record {
      to_the_end = ap (λ l. l.stop) whole;
      spelled = subst (λ ts. Spells ts t)
          (sym (ap (λ l. tokens_of l.tokens) whole ∙ ap tokens_of (append_nil r.placed) ∙ r.same))
          s.spelled;
    }
