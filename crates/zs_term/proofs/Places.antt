-- The tokens that are computed from a text are those that are in it, place by place.
use Rattle.std.proofs.Common.{◌≡◌, ◌≢◌, ℕ, zero, suc, ◌+◌, ◌-◌, ◌<◌, ◌≤◌, List, [], ◌∷◌, length}
use Rattle.std.proofs.Common.{take, drop, Bool, true, false, cond, Option, Some, None, refl, sym}
use Rattle.std.proofs.Common.{ap, ◌∙◌, subst, arith, length-drop, length-take-le}
use Rattle.std.specs.Prelude.{take_while, slice_index, nat_eq, nat_lt, ◌==◌, ◌&&◌}
use Rattle.std.specs.Char.{is_ascii_alphabetic, is_ascii_digit}
use Rattle.std.specs.List.{prefix_len}
use Rattle.std.specs.Str.Parse.{digits_value}
use Rattle.std.proofs.lemmas.List.Sums.{prefix_len_passes, prefix_len_stops, prefix_len-le-length}
use Rattle.std.proofs.lemmas.List.Sums.{prefix_len_is}
use Rattle.std.proofs.lemmas.Bool.Decides.{nat_tests}
use Rattle.zs_term.specs.Token.{Token, number, mark, Placed, Lexed, nothing, stuck, with_token}
use Rattle.zs_term.specs.Token.{word_mark, pair_mark, single_mark, word_at, number_at, longest}
use Rattle.zs_term.specs.Token.{symbol_at, token_at, lex, lexed}
use Rattle.zs_term.specs.Places.{IsRun, IsTokenOf, word, digits, pair, single, AreSpaces}
use Rattle.zs_term.specs.Places.{AreTokensFrom, TokensOfText}
use Rattle.zs_term.specs.declared.token.Mark.{Mark}
use Rattle.zs_term.proofs.Lexing.{lex_end, lex_space, lex_stuck, lex_found, number_found}

-- a test of bytes that the first byte of every symbol fails
record FailsSymbols (p : ℕ → Bool) : Type 0 where
  marks : (p 95 ≡ false) × (p 38 ≡ false) × (p 124 ≡ false) × (p 60 ≡ false) × (p 33 ≡ false)
      × (p 62 ≡ false)
  bytes : (p 40 ≡ false) × (p 41 ≡ false) × (p 44 ≡ false) × (p 46 ≡ false) × (p 61 ≡ false)
      × (p 43 ≡ false) × (p 42 ≡ false)

letters_fail : FailsSymbols is_ascii_alphabetic
letters_fail = record {
  marks = (refl, refl, refl, refl, refl, refl);
  bytes = (refl, refl, refl, refl, refl, refl, refl);
}

digits_fail : FailsSymbols is_ascii_digit
digits_fail = record {
  marks = (refl, refl, refl, refl, refl, refl);
  bytes = (refl, refl, refl, refl, refl, refl, refl);
}

true_or_false : {P : Type 0} (b : Bool) → b ≡ true → b ≡ false → P
true_or_false b h k = let e : true ≡ false = sym h ∙ k in cc

-- a byte that passes differs from one that fails
other_byte : (p : ℕ → Bool) (a k : ℕ) → p a ≡ true → p k ≡ false → nat_eq a k ≡ false
other_byte p a k h e = on (nat_eq a k) refl where
  on : (b : Bool) → nat_eq a k ≡ b → nat_eq a k ≡ false
  on true same = let s : a ≡ k = grind (arith, nat_tests) in
      true_or_false (p k) (sym (ap p s) ∙ h) e
  on false d = d

-- no symbol begins with a byte that passes
no_pair : (p : ℕ → Bool) (a b : ℕ) → FailsSymbols p → p a ≡ true → pair_mark a b ≡ None
no_pair p a b f h =
    let e = other_byte p a 95 h f.marks.0 in
    let g = other_byte p a 38 h f.marks.1 in
    let i = other_byte p a 124 h f.marks.2 in
    let j = other_byte p a 60 h f.marks.3 in
    let k = other_byte p a 33 h f.marks.4 in
    let l = other_byte p a 62 h f.marks.5 in
    rw (e, g, i, j, k, l) refl

no_single : (p : ℕ → Bool) (a : ℕ) → FailsSymbols p → p a ≡ true → single_mark a ≡ None
no_single p a f h =
    let e = other_byte p a 40 h f.bytes.0 in
    let g = other_byte p a 41 h f.bytes.1 in
    let i = other_byte p a 44 h f.bytes.2 in
    let j = other_byte p a 46 h f.bytes.3 in
    let k = other_byte p a 60 h f.marks.3 in
    let l = other_byte p a 61 h f.bytes.4 in
    let m = other_byte p a 62 h f.marks.5 in
    let n = other_byte p a 43 h f.bytes.5 in
    let o = other_byte p a 42 h f.bytes.6 in
    rw (e, g, i, j, k, l, m, n, o) refl

some_of : {X : Type 0} (o : Option X) (x : X) → o ≡ Some x → o ≡ None → ⊥
some_of o x h k = let e : Some x ≡ None = sym h ∙ k in cc

-- the first byte of every symbol fails
pair_fails : (p : ℕ → Bool) (a b : ℕ) (m : Mark) → FailsSymbols p →
    pair_mark a b ≡ Some m → p a ≡ false
pair_fails p a b m f h = on (p a) refl where
  on : (x : Bool) → p a ≡ x → p a ≡ false
  on true e = absurd (some_of (pair_mark a b) m h (no_pair p a b f e))
  on false e = e

single_fails : (p : ℕ → Bool) (a : ℕ) (m : Mark) → FailsSymbols p →
    single_mark a ≡ Some m → p a ≡ false
single_fails p a m f h = on (p a) refl where
  on : (x : Bool) → p a ≡ x → p a ≡ false
  on true e = absurd (some_of (single_mark a) m h (no_single p a f e))
  on false e = e

-- a digit isn't a letter
digit_no_letter : (b : ℕ) → is_ascii_digit b ≡ true → is_ascii_alphabetic b ≡ false
digit_no_letter b h = grind (arith, nat_tests)

first_case : {X : Type 0} (b : Bool) (x y : X) → b ≡ true → cond b x y ≡ x
first_case true x y h = refl
first_case false x y h = cc

second_case : {X : Type 0} (b : Bool) (x y : X) → b ≡ false → cond b x y ≡ y
second_case true x y h = cc
second_case false x y h = refl

-- the three kinds of tokens
at_letter : (bytes : List ℕ) → is_ascii_alphabetic (slice_index bytes 0) ≡ true →
    token_at bytes ≡ Some (word_at bytes)
at_letter bytes h = first_case (is_ascii_alphabetic (slice_index bytes 0)) (Some (word_at bytes))
    (cond (is_ascii_digit (slice_index bytes 0)) (number_at bytes) (symbol_at bytes)) h

at_digit : (bytes : List ℕ) → is_ascii_alphabetic (slice_index bytes 0) ≡ false →
    is_ascii_digit (slice_index bytes 0) ≡ true → token_at bytes ≡ number_at bytes
at_digit bytes h k =
    second_case (is_ascii_alphabetic (slice_index bytes 0)) (Some (word_at bytes))
    (cond (is_ascii_digit (slice_index bytes 0)) (number_at bytes) (symbol_at bytes)) h
    ∙ first_case (is_ascii_digit (slice_index bytes 0)) (number_at bytes) (symbol_at bytes) k

at_symbol : (bytes : List ℕ) → is_ascii_alphabetic (slice_index bytes 0) ≡ false →
    is_ascii_digit (slice_index bytes 0) ≡ false → token_at bytes ≡ symbol_at bytes
at_symbol bytes h k =
    second_case (is_ascii_alphabetic (slice_index bytes 0)) (Some (word_at bytes))
    (cond (is_ascii_digit (slice_index bytes 0)) (number_at bytes) (symbol_at bytes)) h
    ∙ second_case (is_ascii_digit (slice_index bytes 0)) (number_at bytes) (symbol_at bytes) k

-- `take_while` takes exactly the longest run
run_len : (p : ℕ → Bool) (n : ℕ) (bytes : List ℕ) → IsRun p n bytes → prefix_len p bytes ≡ n
run_len p n bytes r = prefix_len_is p bytes n 0 r.inside r.all r.ends

run_of : (p : ℕ → Bool) (bytes : List ℕ) → 0 < prefix_len p bytes →
    IsRun p (prefix_len p bytes) bytes
run_of p bytes h = record {
  some = h;
  inside = prefix_len-le-length p bytes;
  all = λ i l. prefix_len_passes p bytes i 0 l;
  ends = λ l. prefix_len_stops p bytes 0 l;
}

-- the computed token at the front is this token
record Found (bytes : List ℕ) (t : Token) (n : ℕ) : Type 0 where
  inside : 0 < length bytes
  some : 0 < n
  no_space : slice_index bytes 0 ≢ 32
  is : token_at bytes ≡ Some (t, n)

passes_first : (p : ℕ → Bool) (n : ℕ) (bytes : List ℕ) → IsRun p n bytes → p 32 ≡ false →
    (0 < length bytes) × (slice_index bytes 0 ≢ 32)
passes_first p n bytes r e =
    (omega (arith, r.some, r.inside), λ s. true_or_false (p 32) (sym (ap p s) ∙ r.all 0 r.some) e)

-- several digits, the first of which isn't 0
no_led_zero : (ds : List ℕ) (n : ℕ) (first : ℕ) → length ds ≡ n →
    (0 < n → slice_index ds 0 ≡ first) → (1 < n → first ≢ 48) →
    (nat_lt 1 (length ds) && slice_index ds 0 == 48) ≡ false
no_led_zero ds n first e same h = on (nat_lt 1 (length ds)) refl where
  on : (b : Bool) → nat_lt 1 (length ds) ≡ b → (b && nat_eq (slice_index ds 0) 48) ≡ false
  on true l =
      let many : 1 < length ds = grind (arith, nat_tests) in
      let many_n : 1 < n = omega (arith, many, e) in
      let is_first = same (omega (arith, many_n)) in
      let other = h many_n in
      let other_ds : slice_index ds 0 ≢ 48 = λ s. other (sym is_first ∙ s) in
      grind (arith, nat_tests)
  on false l = refl

take_first : (n : ℕ) (bytes : List ℕ) → 0 < n → slice_index (take n bytes) 0 ≡ slice_index bytes 0
take_first zero bytes h = absurd (omega arith)
take_first (suc n) [] h = refl
take_first (suc n) (b ∷ bytes) h = refl

found_of : (bytes : List ℕ) (t : Token) (n : ℕ) → IsTokenOf bytes t n → Found bytes t n
found_of bytes _ _ (word n r) =
    let first = passes_first is_ascii_alphabetic n bytes r refl in
    let len = run_len is_ascii_alphabetic n bytes r in
    record {
      inside = first.0;
      some = r.some;
      no_space = first.1;
      is = at_letter bytes (r.all 0 r.some)
          ∙ ap (λ k. Some (mark (word_mark (take k bytes)), length (take k bytes))) len
          ∙ ap (λ k. Some (mark (word_mark (take n bytes)), k)) (length-take-le n bytes r.inside);
    }
found_of bytes _ _ (digits n r led) =
    let first = passes_first is_ascii_digit n bytes r refl in
    let digit = r.all 0 r.some in
    let count = length-take-le n bytes r.inside in
    let front : take n bytes ≡ take_while is_ascii_digit bytes =
    ap (λ k. take k bytes) (sym (run_len is_ascii_digit n bytes r)) in
    record {
      inside = first.0;
      some = r.some;
      no_space = first.1;
      is = at_digit bytes (digit_no_letter (slice_index bytes 0) digit) digit
          ∙ number_found bytes (take n bytes) front
          (no_led_zero (take n bytes) n (slice_index bytes 0) count (take_first n bytes) led)
          ∙ ap (λ k. Some (number (digits_value 10 (take n bytes)), k)) count;
    }
found_of bytes _ _ (pair m e) =
    let a = slice_index bytes 0 in
    let b = slice_index bytes 1 in
    record {
      inside = two_inside bytes e;
      some = omega arith;
      no_space = λ s. some_of (pair_mark a b) m e (ap (λ k. pair_mark k b) s);
      is = at_symbol bytes (pair_fails is_ascii_alphabetic a b m letters_fail e)
          (pair_fails is_ascii_digit a b m digits_fail e) ∙ ap (λ o. longest o (single_mark a)) e;
    } where
      two_inside : (bs : List ℕ) → pair_mark (slice_index bs 0) (slice_index bs 1) ≡ Some m →
          0 < length bs
      two_inside [] k = absurd (some_of (pair_mark 0 0) m k refl)
      two_inside (x ∷ xs) k = omega arith
found_of bytes _ _ (single m none e) =
    let a = slice_index bytes 0 in
    record {
      inside = one_inside bytes e;
      some = omega arith;
      no_space = λ s. some_of (single_mark a) m e (ap single_mark s);
      is = at_symbol bytes (single_fails is_ascii_alphabetic a m letters_fail e)
          (single_fails is_ascii_digit a m digits_fail e) ∙ ap (λ o. longest o (single_mark a)) none
          ∙ ap (longest None) e;
    } where
      one_inside : (bs : List ℕ) → single_mark (slice_index bs 0) ≡ Some m → 0 < length bs
      one_inside [] k = absurd (some_of (single_mark 0) m k refl)
      one_inside (x ∷ xs) k = omega arith

-- if the first byte passes, the run isn't empty
some_pass : (p : ℕ → Bool) (bytes : List ℕ) → 0 < length bytes → p (slice_index bytes 0) ≡ true →
    0 < prefix_len p bytes
some_pass p [] h e = absurd (omega arith)
some_pass p (b ∷ bytes) h e = rw e (omega arith)

-- the token that is computed at the front is there
token_of : (bytes : List ℕ) → 0 < length bytes → (found : Token × ℕ) → token_at bytes ≡ Some found →
    IsTokenOf bytes found.0 found.1
token_of bytes inside found h = letter (is_ascii_alphabetic a) refl where
  a : ℕ
  a = slice_index bytes 0

  as_found : (t : Token) (n : ℕ) → Some (t, n) ≡ Some found → IsTokenOf bytes t n →
      IsTokenOf bytes found.0 found.1
  as_found t n e k = let same : (t, n) ≡ found = cc in subst (λ r. IsTokenOf bytes r.0 r.1) same k

  a_word : is_ascii_alphabetic (slice_index bytes 0) ≡ true → IsTokenOf bytes found.0 found.1
  a_word e =
      let r = run_of is_ascii_alphabetic bytes (some_pass is_ascii_alphabetic bytes inside e) in
      as_found (word_at bytes).0 (word_at bytes).1 (sym (at_letter bytes e) ∙ h)
      (subst (λ k. IsTokenOf bytes (word_at bytes).0 k)
      (sym (length-take-le (prefix_len is_ascii_alphabetic bytes) bytes r.inside))
      (word (prefix_len is_ascii_alphabetic bytes) r))

  a_number : is_ascii_alphabetic (slice_index bytes 0) ≡ false →
      is_ascii_digit (slice_index bytes 0) ≡ true → IsTokenOf bytes found.0 found.1
  a_number l e = padded (nat_lt 1 (length ds) && slice_index ds 0 == 48) refl where
    ds : List ℕ
    ds = take_while is_ascii_digit bytes

    r : IsRun is_ascii_digit (prefix_len is_ascii_digit bytes) bytes
    r = run_of is_ascii_digit bytes (some_pass is_ascii_digit bytes inside e)

    count : length (take_while is_ascii_digit bytes) ≡ prefix_len is_ascii_digit bytes
    count = length-take-le (prefix_len is_ascii_digit bytes) bytes r.inside

    not_led : (nat_lt 1 (length (take_while is_ascii_digit bytes))
        && slice_index (take_while is_ascii_digit bytes) 0 == 48) ≡ false →
        1 < prefix_len is_ascii_digit bytes → slice_index bytes 0 ≢ 48
    not_led z many zero_first =
        let long : nat_lt 1 (length (take_while is_ascii_digit bytes)) ≡ true =
        (let m : 1 < length (take_while is_ascii_digit bytes) = omega (arith, count, many) in
        grind (arith, nat_tests)) in
        let front : slice_index (take_while is_ascii_digit bytes) 0 ≡ 48 =
        take_first (prefix_len is_ascii_digit bytes) bytes r.some ∙ zero_first in
        let led : nat_eq (slice_index (take_while is_ascii_digit bytes) 0) 48 ≡ true =
        grind (arith, nat_tests) in
        true_or_false (nat_lt 1 (length (take_while is_ascii_digit bytes))
        && slice_index (take_while is_ascii_digit bytes) 0 == 48)
        (ap (λ x. x && nat_eq (slice_index (take_while is_ascii_digit bytes) 0) 48) long ∙ led)
        z

    padded : (b : Bool) → (nat_lt 1 (length (take_while is_ascii_digit bytes))
        && slice_index (take_while is_ascii_digit bytes) 0 == 48) ≡ b →
        IsTokenOf bytes found.0 found.1
    padded true z =
        absurd (some_of (number_at bytes) found (sym (at_digit bytes l e) ∙ h)
        (first_case (nat_lt 1 (length (take_while is_ascii_digit bytes))
        && slice_index (take_while is_ascii_digit bytes) 0 == 48) None
        (Some (
          number (digits_value 10 (take_while is_ascii_digit bytes)),
          length (take_while is_ascii_digit bytes),
        )) z))
    padded false z =
        as_found (number (digits_value 10 (take_while is_ascii_digit bytes)))
        (length (take_while is_ascii_digit bytes))
        (sym (number_found bytes (take_while is_ascii_digit bytes) refl z)
        ∙ sym (at_digit bytes l e) ∙ h)
        (subst (λ k. IsTokenOf bytes (number (digits_value 10 (take_while is_ascii_digit bytes))) k)
        (sym count) (digits (prefix_len is_ascii_digit bytes) r (not_led z)))

  a_symbol : (o q : Option Mark) → pair_mark (slice_index bytes 0) (slice_index bytes 1) ≡ o →
      single_mark (slice_index bytes 0) ≡ q → longest o q ≡ Some found →
      IsTokenOf bytes found.0 found.1
  a_symbol (Some m) q e f g = as_found (mark m) 2 g (pair m e)
  a_symbol None (Some m) e f g = as_found (mark m) 1 g (single m e f)
  a_symbol None None e f g = cc

  digit : is_ascii_alphabetic (slice_index bytes 0) ≡ false → (b : Bool) →
      is_ascii_digit (slice_index bytes 0) ≡ b → IsTokenOf bytes found.0 found.1
  digit l true e = a_number l e
  digit l false e = a_symbol (pair_mark (slice_index bytes 0) (slice_index bytes 1))
      (single_mark (slice_index bytes 0)) refl refl (sym (at_symbol bytes l e) ∙ h)

  letter : (b : Bool) → is_ascii_alphabetic (slice_index bytes 0) ≡ b →
      IsTokenOf bytes found.0 found.1
  letter true e = a_word e
  letter false e = digit e (is_ascii_digit (slice_index bytes 0)) refl

module _ (text : List ℕ) where
  -- spaces are skipped
  skip : (d from : ℕ) →
      ((i : ℕ) → from ≤ i → i < from + d → (i < length text) × (slice_index text i ≡ 32)) →
      lex 0 from (drop from text) ≡ lex 0 (from + d) (drop (from + d) text)
  skip zero from h = let e : from + zero ≡ from = omega arith in rw e refl
  skip (suc d) from h =
      let here = h from (omega arith) (omega arith) in
      let e : from + 1 + d ≡ from + suc d = omega arith in
      lex_space text from here.0 here.1 ∙ skip d (from + 1)
      (λ i l m. h i (omega (arith, l)) (omega (arith, m))) ∙ ap (λ n. lex 0 n (drop n text)) e

  skip_to : (from to : ℕ) → from ≤ to → to ≤ length text → AreSpaces text from to →
      lex 0 from (drop from text) ≡ lex 0 to (drop to text)
  skip_to from to le within s =
      let e : from + (to - from) ≡ to = omega (arith, le) in
      skip (to - from) from (λ i l m. (omega (arith, m, le, within), s i l (omega (arith, m, le))))
      ∙ ap (λ n. lex 0 n (drop n text)) e

  -- the byte at a place is the first byte of the text from that place on
  first_of_rest : (at : ℕ) → slice_index (drop at text) 0 ≡ slice_index text at
  first_of_rest at = at_front at text where
    at_front : (n : ℕ) (bs : List ℕ) → slice_index (drop n bs) 0 ≡ slice_index bs n
    at_front zero bs = refl
    at_front (suc n) [] = refl
    at_front (suc n) (b ∷ bs) = at_front n bs

  -- the tokens in the text are the computed ones
  is_read : (ps : List Placed) (stop : Option ℕ) (from : ℕ) → AreTokensFrom text from ps stop →
      lex 0 from (drop from text) ≡ record { tokens = ps; stop = stop }
  is_read [] None from s =
      let end = from + (length text - from) in
      skip (length text - from) from (λ i l m. (omega (arith, l, m), s i l (omega (arith, l, m))))
      ∙ lex_end text end (omega arith)
  is_read [] (Some at) from h =
      skip_to from at h.0 (omega (arith, h.1)) h.2
      ∙ lex_stuck text at h.1 h.3 (no_token (token_at (drop at text)) refl) where
        no_token : (o : Option (Token × ℕ)) → token_at (drop at text) ≡ o →
            token_at (drop at text) ≡ None
        no_token None e = e
        no_token (Some found) e = absurd (h.4 found.0 found.1
            (token_of (drop at text) (omega (arith, h.1, length-drop at text)) found e))
  is_read (p ∷ ps) stop from h =
      let f = found_of (drop p.place text) p.token h.0 h.3 in
      let inside : p.place < length text = omega (arith, f.inside, length-drop p.place text) in
      skip_to from p.place h.1 (omega (arith, inside)) h.2
      ∙ lex_found text p.place h.0 p.token inside (λ s. f.no_space (first_of_rest p.place ∙ s))
      f.some f.is
      ∙ ap (with_token p.place p.token) (is_read ps stop (p.place + h.0) h.4)

  -- one more space before them
  more_spaces : (from to : ℕ) → slice_index text from ≡ 32 → AreSpaces text (from + 1) to →
      AreSpaces text from to
  more_spaces from to e s = λ i l m. on i l m (nat_eq i from) refl where
    on : (i : ℕ) → from ≤ i → i < to → (b : Bool) → nat_eq i from ≡ b → slice_index text i ≡ 32
    on i l m true same = let k : i ≡ from = grind (arith, nat_tests) in ap (slice_index text) k ∙ e
    on i l m false d = s i (let n : i ≢ from = grind (arith, nat_tests) in omega (arith, n, l)) m

  after_space : (from : ℕ) (ps : List Placed) (stop : Option ℕ) → slice_index text from ≡ 32 →
      AreTokensFrom text (from + 1) ps stop → AreTokensFrom text from ps stop
  after_space from [] None e s = more_spaces from (length text) e s
  after_space from [] (Some at) e h = (omega (arith, h.0), h.1, more_spaces from at e h.2, h.3, h.4)
  after_space from (p ∷ ps) stop e h =
      (h.0, omega (arith, h.1), more_spaces from p.place e h.2, h.3, h.4)

  abbrev Reading : ℕ → Type 0
  Reading from = (found : Lexed) × AreTokensFrom text from found.tokens found.stop

  -- every text has tokens: from a place, if it has them from every later place
  module _ (fuel from : ℕ) (h : length text ≤ from + suc fuel)
      (later : (n : ℕ) → length text ≤ n + fuel → Reading n) where
    reading_token : from < length text → slice_index text from ≢ 32 → (o : Option (Token × ℕ)) →
        token_at (drop from text) ≡ o → Reading from
    reading_token inside other None e = (
      stuck from,
      (
        omega arith,
        inside,
        λ i l m. absurd (omega (arith, l, m)),
        other,
        λ t n k. some_of (token_at (drop from text)) (t, n)
            (found_of (drop from text) t n k).is e,
      ),
    )
    reading_token inside other (Some found) e =
        let stands = token_of (drop from text) (omega (arith, inside, length-drop from text)) found
        e in
        let some = (found_of (drop from text) found.0 found.1 stands).some in
        let rest = later (from + found.1) (omega (arith, h, some)) in (
          with_token from found.0 rest.0,
          (found.1, omega arith, λ i l m. absurd (omega (arith, l, m)), stands, rest.1),
        )

    reading_byte : from < length text → (b : Bool) → nat_eq (slice_index text from) 32 ≡ b →
        Reading from
    reading_byte inside true e =
        let space : slice_index text from ≡ 32 = grind (arith, nat_tests) in
        let rest = later (from + 1) (omega (arith, h)) in
        (rest.0, after_space from rest.0.tokens rest.0.stop space rest.1)
    reading_byte inside false e = let other : slice_index text from ≢ 32 =
        grind (arith, nat_tests) in reading_token inside other (token_at (drop from text)) refl

    reading_place : (b : Bool) → nat_lt from (length text) ≡ b → Reading from
    reading_place true e = let inside : from < length text = grind (arith, nat_tests) in
        reading_byte inside (nat_eq (slice_index text from) 32) refl
    reading_place false e = let past : length text ≤ from = grind (arith, nat_tests) in
        (nothing, λ i l m. absurd (omega (arith, past, l, m)))

  reading : (fuel from : ℕ) → length text ≤ from + fuel → Reading from
  reading zero from h = (nothing, λ i l m. absurd (omega (arith, h, l, m)))
  reading (suc fuel) from h =
      reading_place fuel from h (λ n k. reading fuel n k) (nat_lt from (length text)) refl

-- the computed tokens are exactly those in the text
pub tokens_of_text : TokensOfText
tokens_of_text text found =
    let r = reading text (length text) 0 (omega arith) in
    let whole : lexed text ≡ r.0 = is_read text r.0.tokens r.0.stop 0 r.1 in (
      λ h. subst (λ l. AreTokensFrom text 0 l.tokens l.stop) (sym whole ∙ h) r.1,
      λ h. is_read text found.tokens found.stop 0 h,
    )
