-- A report and its trailer, taken apart: the last line of a text, ranges read back, and one part
-- after others.
use Rattle.std.proofs.Common.{◌≡◌, ◌<◌, ◌≤◌, ◌+◌, ◌-◌, ◌*◌, ◌/◌, ◌%◌, ◌^◌, ◌==◌, inl, inr, ℕ, zero}
use Rattle.std.proofs.Common.{suc, List, [], ◌∷◌, ◌++◌}
use Rattle.std.proofs.Common.{length, drop, get_or, Bool, true, false, cond, Option, Some, codes}
use Rattle.std.proofs.Common.{refl, sym, ap, ◌∙◌, append_assoc, append-nil, arith, subst, nat_le}
use Rattle.std.proofs.Common.{nat_lt}
use Rattle.std.specs.Prelude.{⊤, IfSome, decimal, option_and_then}
use Rattle.std.specs.Char.{digit_value, is_ascii_digit}
use Rattle.std.specs.Fmt.{digit_glyph, digits, digits_onto}
use Rattle.std.specs.Str.Parse.{AllDigits, digits_value, digits_value_after}
use Rattle.std.proofs.lemmas.Bool.{eq-eqb, le-leb, lt-ltb, ne_eqb, and_from}
use Rattle.std.proofs.lemmas.Fmt.{decimal_is_IsNumeral, decimal_is_IsNumeral_wide}
use Rattle.std.proofs.lemmas.List.{append_cancel_left, append_cancel_right, drop_at, length-append}
use Rattle.std.proofs.lemmas.Str.{digit_value_digit}
use Rattle.std.proofs.lemmas.Str.Parse.{digit_from_value}
use Rattle.hex.proofs.HexLemmas.{length-encode_with}
use Rattle.hex.specs.Hex.{encode_lower, encode_with, lower_digits}
use Rattle.sha2.specs.Sha256.{sha256}
use Rattle.zs_term.specs.Saturating.{max_moment}
use Rattle.zs_run.specs.PlanReport.{with_total}
use Rattle.zs_lines.specs.Buffers.{IsOneLine}
use Rattle.zs_lines.specs.Numbers.{digits_from, number_of, whole}
use Rattle.zs_population.specs.Joining.{AreParts, EndsLine, IsPart, PartRecord, report_of_part}
use Rattle.zs_population.specs.Parts.{IsPartRange, IsSplit}
use Rattle.zs_population.specs.Population.{max_population}
use Rattle.zs_population.specs.Trailer.{origin_text, range_text, trailer_line, trailer_of}
use Rattle.zs_population.specs.Words.{jobs_from, jobs_of, jobs_up_to}
use Rattle.zs_population.specs.declared.lines.Sums.{Sums}
use Rattle.zs_population.specs.declared.range.JobRange.{JobRange}

-- ---- the last line of a text

-- equal lists have equal first elements, and equal rests
first_same : (a b : ℕ) (r s : List ℕ) → a ∷ r ≡ b ∷ s → a ≡ b
first_same a b r s same = cc

rest_same : (a b : ℕ) (r s : List ℕ) → a ∷ r ≡ b ∷ s → r ≡ s
rest_same a b r s same = cc

-- a line has no newline
newline-apart : (front rest : List ℕ) → IsOneLine (front ++ 10 ∷ rest) → ⊥
newline-apart [] rest line = let no : true ≡ false = line.0 in cc
newline-apart (b ∷ front) rest line = newline-apart front rest line.1

-- what follows the first byte of whole lines is whole lines
ends-tail : (b : ℕ) (text : List ℕ) → EndsLine (b ∷ text) → EndsLine text
ends-tail b text (inl none) = absurd cc
ends-tail b text (inr ([], is)) = inl (rest_same b 10 text [] is)
ends-tail b text (inr (c ∷ front, is)) = inr (front, rest_same b c text (front ++ 10 ∷ []) is)

-- a line is no whole line and more
whole-apart : (b : ℕ) (text rest line : List ℕ) → EndsLine (b ∷ text) → IsOneLine line →
    line ≡ (b ∷ text) ++ rest → ⊥
whole-apart b text rest line (inl none) one is = cc
whole-apart b text rest line (inr (front, ends)) one is =
    let whole : line ≡ front ++ 10 ∷ rest =
    is ∙ ap (λ (t : List ℕ). t ++ rest) ends ∙ append_assoc front (10 ∷ []) rest in
    newline-apart front rest (subst IsOneLine whole one)

-- whole lines and a line after them determine both
last-unique : (a c x y : List ℕ) → EndsLine a → EndsLine c → IsOneLine x → IsOneLine y →
    a ++ x ≡ c ++ y → (a ≡ c) × (x ≡ y)
last-unique [] [] x y p q one other same = (refl, same)
last-unique [] (e ∷ c) x y p q one other same = absurd (whole-apart e c y x q one same)
last-unique (b ∷ a) [] x y p q one other same = absurd (whole-apart b a x y p other (sym same))
last-unique (b ∷ a) (e ∷ c) x y p q one other same =
    let first : b ≡ e = first_same b e (a ++ x) (c ++ y) same in
    let rest = last-unique a c x y (ends-tail b a p) (ends-tail e c q) one other
    (rest_same b e (a ++ x) (c ++ y) same) in
    ((λ i. first i ∷ rest.0 i), rest.1)

-- a text has one last line
pub split-unique : (text a b c d : List ℕ) → IsSplit text a b → IsSplit text c d → (a ≡ c) × (b ≡ d)
split-unique text a b c d (line, one, is, whole, ends) (other, same_line, was, total, end) =
    let left : text ≡ (a ++ line) ++ 10 ∷ [] =
    whole ∙ ap (λ t. a ++ t) is ∙ sym (append_assoc a line (10 ∷ [])) in
    let right : text ≡ (c ++ other) ++ 10 ∷ [] =
    total ∙ ap (λ t. c ++ t) was ∙ sym (append_assoc c other (10 ∷ [])) in
    let same : a ++ line ≡ c ++ other =
    append_cancel_right (a ++ line) (c ++ other) (10 ∷ []) (sym left ∙ right) in
    let parts = last-unique a c line other ends end one same_line same in
    (parts.0, is ∙ ap (λ (t : List ℕ). t ++ 10 ∷ []) parts.1 ∙ sym was)

-- ---- texts without a newline

-- the test whether a text has no newline
abbrev is_one_line : List ℕ → Bool
is_one_line [] = true
is_one_line (b ∷ bs) = cond (b == 10) false (is_one_line bs)

-- what a passed test says of the first byte and of the rest
tested : (t : Bool) (bs : List ℕ) → cond t false (is_one_line bs) ≡ true →
    (t ≡ false) × (is_one_line bs ≡ true)
tested true bs is = absurd (let no : false ≡ true = is in cc)
tested false bs is = (refl, is)

-- a text that passes the test
one-line : (bs : List ℕ) → is_one_line bs ≡ true → IsOneLine bs
one-line [] is = tt
one-line (b ∷ bs) is = let both = tested (b == 10) bs is in (both.0, one-line bs both.1)

-- two texts, one after the other
one-line-append : (xs ys : List ℕ) → IsOneLine xs → IsOneLine ys → IsOneLine (xs ++ ys)
one-line-append [] ys p q = q
one-line-append (x ∷ xs) ys p q = (p.0, one-line-append xs ys p.1 q)

-- a text without a newline, as a record, so that antt finds the text
record Line (text : List ℕ) : Type 0 where
  is : IsOneLine text

-- a literal that passes the test
fixed : (text : List ℕ) → is_one_line text ≡ true → Line text
fixed text is = record { is = one-line text is }

-- the same for two texts
infixl 20 ◌then◌
◌then◌ : {xs ys : List ℕ} → Line xs → Line ys → Line (xs ++ ys)
◌then◌ {xs} {ys} p q = record { is = one-line-append xs ys p.is q.is }

-- a digit is no newline
glyph-line : (d : ℕ) → (digit_glyph false d == 10) ≡ false
glyph-line d = ne_eqb (digit_glyph false d) 10 (by (nat_lt d 10))
  where
    by : (small : Bool) → cond small (48 + d) (87 + d) ≡ 10 → ⊥
    by true is = omega arith
    by false is = omega arith

-- either of two texts
either-line : (b : Bool) (xs ys : List ℕ) → IsOneLine xs → IsOneLine ys → IsOneLine (cond b xs ys)
either-line true xs ys p q = p
either-line false xs ys p q = q

-- digits in front of a text
onto-line : (k n : ℕ) (digits : List ℕ) → IsOneLine digits →
    IsOneLine (digits_onto k 10 false n digits)
onto-line zero n digits line = line
onto-line (suc k) n digits line =
    let more : IsOneLine (digit_glyph false (n % 10) ∷ digits) = (glyph-line (n % 10), line) in
    either-line (n / 10 == 0) (digit_glyph false (n % 10) ∷ digits)
    (digits_onto k 10 false (n / 10) (digit_glyph false (n % 10) ∷ digits)) more
    (onto-line k (n / 10) (digit_glyph false (n % 10) ∷ digits) more)

-- a number of any size
decimal-line : (n : ℕ) → Line (decimal n)
unfolding digits
decimal-line n = record { is = onto-line 64 n [] tt }

-- a byte of a line is no newline, nor is 0
byte-apart : (bs : List ℕ) (k : ℕ) → IsOneLine bs → (get_or bs k 0 == 10) ≡ false
byte-apart [] k line = refl
byte-apart (b ∷ bs) zero line = line.0
byte-apart (b ∷ bs) (suc k) line = byte-apart bs k line.1

-- hex text, if the digits have no newline
hex-line : (table bytes : List ℕ) → IsOneLine table → IsOneLine (encode_with table bytes)
unfolding encode_with
hex-line table [] line = tt
hex-line table (b ∷ bytes) line =
    (byte-apart table _ line, (byte-apart table _ line, hex-line table bytes line))

-- hex text
lower-line : (bytes : List ℕ) → Line (encode_lower bytes)
lower-line bytes = record { is = hex-line lower_digits bytes (one-line lower_digits refl) }

-- ---- the last lines of a report

-- what a trailer says of the jobs and the population
origin-line : (range : JobRange) (sums : Sums) → Line (origin_text range sums)
origin-line range sums =
    let jobs : Line (range_text range) = decimal-line range.first then fixed (codes "..") refl
    then decimal-line (range.first + range.count) in
    fixed (codes "{\"jobs\":\"") refl then jobs then fixed (codes "\",\"lines\":") refl
    then decimal-line sums.lines
    then fixed (codes ",\"population\":\"") refl then lower-line sums.digest
    then fixed (codes "\",\"report\":\"") refl

-- a trailer is the last line of the text that it ends
pub trailer-splits : (text lines digest : List ℕ) (range : JobRange) (sums : Sums) → EndsLine lines
    → text ≡ lines ++ trailer_line range sums digest
    → IsSplit text lines (trailer_line range sums digest)
trailer-splits text lines digest range sums ends is = (
  (origin_text range sums ++ encode_lower digest) ++ codes "\"}",
  (origin-line range sums then lower-line digest then fixed (codes "\"}") refl).is,
  sym (append_assoc (origin_text range sums ++ encode_lower digest) (codes "\"}") (10 ∷ [])),
  is,
  ends,
)

-- the total ends a line
pub total-ends : (lines : List ℕ) (polls : ℕ) → EndsLine (with_total lines polls)
total-ends lines polls = inr (lines ++ codes "polls " ++ decimal polls, refl)

-- the trailer is the last line of the report of a part
pub part-splits : (sums : Sums) (bytes : List ℕ) (part : PartRecord) → sums.lines < 2 ^ 64
    → IsPart sums bytes part
    → IsSplit bytes (report_of_part part) (trailer_of part.range sums (report_of_part part))
part-splits sums bytes part count is =
    trailer-splits bytes (report_of_part part)
    (sha256 (report_of_part part ++ origin_text part.range sums)) part.range sums
    (total-ends part.lines part.polls) is.4

-- the total is the last line of a report
pub report-splits : (part : PartRecord) → part.polls < 2 ^ 128 → EndsLine part.lines →
    IsSplit (report_of_part part) part.lines (with_total [] part.polls)
report-splits part few ends = (
  codes "polls " ++ decimal part.polls,
  (fixed (codes "polls ") refl then decimal-line part.polls).is,
  refl,
  append_assoc (part.lines ++ codes "polls ") (decimal part.polls) (codes "\n")
      ∙ append_assoc part.lines (codes "polls ") (decimal part.polls ++ codes "\n"),
  ends,
)

-- ---- one more part

-- a report that continues those before it is one more part
pub parts-snoc : (sums : Sums) (first : ℕ) (reports : List (Option (List ℕ))) (end : ℕ)
    (lines : List ℕ) (polls : ℕ) → AreParts sums first reports end lines polls
    → (bytes : Option (List ℕ)) (part : PartRecord) → IfSome bytes (λ known. IsPart sums known part)
    → part.range.first ≡ end
    → AreParts sums first (reports ++ bytes ∷ []) (end + part.range.count) (lines ++ part.lines)
    (polls + part.polls)
parts-snoc sums first [] end lines polls are bytes part is at = (
  part,
  [],
  0,
  is,
  at ∙ are.0,
  (ap (λ n. n + part.range.count) are.0, refl, refl),
  ap (λ (t : List ℕ). t ++ part.lines) are.1 ∙ sym (append-nil part.lines),
  omega (arith, are.2),
)
parts-snoc sums first (known ∷ reports) end lines polls
    (one, more, count, fits, begins, rest, text, total) bytes part is at = (
      one,
      more ++ part.lines,
      count + part.polls,
      fits,
      begins,
      parts-snoc sums (first + one.range.count) reports end more count rest bytes part is at,
      ap (λ (t : List ℕ). t ++ part.lines) text ∙ append_assoc one.lines more part.lines,
      omega (arith, total),
    )

-- ---- what a trailer begins with

-- the pieces of a trailer, from the other side
regrouped : (a r q b d c h e x z : List ℕ)
    → ((((((a ++ r) ++ (q ++ b)) ++ d) ++ c) ++ h) ++ e) ++ x ++ z
    ≡ ((a ++ r) ++ q) ++ (b ++ (d ++ (c ++ (h ++ (e ++ (x ++ z))))))
regrouped a r q b d c h e x z = simp append_assoc

-- what follows the range
abbrev after_range : Sums → List ℕ → List ℕ
after_range sums digest = codes ",\"lines\":" ++ (decimal sums.lines ++ (codes ",\"population\":\""
    ++ (encode_lower sums.digest
    ++ (codes "\",\"report\":\"" ++ (encode_lower digest ++ codes "\"}\n")))))

-- a trailer from its front on
begins-with : (range : JobRange) (sums : Sums) (digest : List ℕ)
    → trailer_line range sums digest ≡ codes "{\"jobs\":\"" ++ range_text range ++ codes "\""
    ++ after_range sums digest
begins-with range sums digest =
    regrouped (codes "{\"jobs\":\"") (range_text range) (codes "\"") (codes ",\"lines\":")
    (decimal sums.lines) (codes ",\"population\":\"")
    (encode_lower sums.digest) (codes "\",\"report\":\"") (encode_lower digest) (codes "\"}\n")

-- a trailer begins with its range
pub origin-range : (range : JobRange) (sums : Sums) (digest : List ℕ)
    → (rest : List ℕ) × (trailer_line range sums digest ≡ codes "{\"jobs\":\"" ++ range_text range
    ++ codes "\"" ++ rest)
origin-range range sums digest = (after_range sums digest, begins-with range sums digest)

-- ---- a range, read back

-- more digits make no smaller number
grows : (n : ℕ) (ds : List ℕ) → n ≤ digits_value_after 10 n ds
grows n [] = omega arith
grows n (c ∷ ds) = omega (arith, grows (n * 10 + digit_value c) ds)

-- the text doesn't begin with a digit
abbrev StopsDigits : List ℕ → Type 0
StopsDigits [] = ⊤
StopsDigits (c ∷ rest) = is_ascii_digit c ≡ false

-- a digit passes the test of digits
is-digit : (c : ℕ) → digit_value c < 10 → is_ascii_digit c ≡ true
is-digit c small = let within = digit_from_value c small in
    and_from _ _ (le-leb 48 c within.0) (le-leb c 57 within.1)

-- the value of a digit
digit-is : (c : ℕ) → digit_value c < 10 → c - 48 ≡ digit_value c
digit-is c small = omega (arith, digit_value_digit c (digit_from_value c small))

-- one digit more
found-digit : (n count c d : ℕ) (bs : List ℕ) → is_ascii_digit c ≡ true → c - 48 ≡ d
    → n * 10 + d ≤ max_moment
    → digits_from n count (c ∷ bs) ≡ digits_from (n * 10 + d) (count + 1) bs
found-digit n count c d bs first value few =
    let fits : nat_le (n * 10 + d) max_moment ≡ true = le-leb (n * 10 + d) max_moment few in
    rw (first, value, fits) refl

-- digits are read to their end
digits-read : (n count : ℕ) (ds rest : List ℕ) → AllDigits 10 ds → StopsDigits rest
    → digits_value_after 10 n ds ≤ max_moment
    → digits_from n count (ds ++ rest) ≡ Some (digits_value_after 10 n ds, count + length ds)
digits-read n count [] [] all stops few = ap (λ k. Some (n, k)) (omega arith)
digits-read n count [] (c ∷ rest) all stops few = rw stops (ap (λ k. Some (n, k)) (omega arith))
digits-read n count (c ∷ ds) rest all stops few =
    let m : ℕ = n * 10 + digit_value c in
    let place : count + 1 + length ds ≡ count + length (c ∷ ds) = omega arith in
    found-digit n count c (digit_value c) (ds ++ rest) (is-digit c all.0) (digit-is c all.0)
    (omega (arith, grows m ds, few))
    ∙ digits-read m (count + 1) ds rest all.1 stops few
    ∙ ap (λ k. Some (digits_value_after 10 m ds, k)) place

-- a number is read to its end
decimal-read : (n : ℕ) (rest : List ℕ) → n ≤ max_moment → StopsDigits rest →
    digits_from 0 0 (decimal n ++ rest) ≡ Some (n, length (decimal n))
decimal-read n rest few stops =
    let is = decimal_is_IsNumeral n (omega arith) in
    digits-read 0 0 (decimal n) rest is.0.1 stops (omega (arith, is.1, few))
    ∙ (λ i. Some (
      is.1 i,
      (let none : 0 + length (decimal n) ≡ length (decimal n) =
          omega arith in none) i,
    ))

-- a number is a whole text
number-read : (n : ℕ) → n ≤ max_moment → number_of (decimal n) ≡ Some n
number-read n few =
    let some : nat_lt 0 (length (decimal n)) ≡ true =
    lt-ltb 0 (length (decimal n)) (decimal_is_IsNumeral n (omega arith)).0.0 in
    let all : (length (decimal n) == length (decimal n)) ≡ true =
    eq-eqb (length (decimal n)) (length (decimal n)) refl in
    ap (λ (bs : List ℕ). option_and_then (whole (decimal n)) (digits_from 0 0 bs))
    (sym (append-nil (decimal n)))
    ∙ ap (option_and_then (whole (decimal n))) (decimal-read n [] few tt) ∙ rw (some, all) refl

-- the range of two numbers
up-to : (range : JobRange) → IsPartRange range →
    jobs_up_to range.first (range.first + range.count) ≡ Some range
up-to range fits =
    let ordered : nat_le range.first (range.first + range.count) ≡ true =
    le-leb range.first (range.first + range.count) (omega arith) in
    let within : nat_le (range.first + range.count) max_population ≡ true =
    le-leb (range.first + range.count) max_population fits.1 in
    let count : range.first + range.count - range.first ≡ range.count = omega arith in
    rw (ordered, within, count)
    (λ i. Some (record { first = range.first; count = range.count; is_part = (sym fits.0) i }))

-- the text of a range names it
pub range-read : (range : JobRange) → IsPartRange range → jobs_of (range_text range) ≡ Some range
range-read range fits =
    let first : List ℕ = decimal range.first in
    let end : List ℕ = decimal (range.first + range.count) in
    let whole_text : range_text range ≡ first ++ (codes ".." ++ end) =
    append_assoc first (codes "..") end in
    let some : (length first == 0) ≡ false =
    ne_eqb (length first) 0
    (λ none. omega
    (arith, none, (decimal_is_IsNumeral range.first (omega (arith, fits.1))).0.0)) in
    let rest : drop (length first) (first ++ (codes ".." ++ end)) ≡ codes ".." ++ end =
    drop_at first (codes ".." ++ end) (length first) refl in
    let next : number_of end ≡ Some (range.first + range.count) =
    number-read (range.first + range.count) (omega (arith, fits.1)) in
    ap jobs_of whole_text
    ∙ ap (option_and_then (jobs_from (first ++ (codes ".." ++ end))))
    (decimal-read range.first (codes ".." ++ end) (omega (arith, fits.1)) refl)
    ∙ rw (some, rest, next) (up-to range fits)

-- ---- what the last lines determine

-- a total determines the number of polls
pub total-tells : (polls others : ℕ) → polls < 2 ^ 128 → others < 2 ^ 128 →
    with_total [] polls ≡ with_total [] others → polls ≡ others
total-tells polls others few fewer same =
    let line : decimal polls ++ codes "\n" ≡ decimal others ++ codes "\n" =
    append_cancel_left (codes "polls ") (decimal polls ++ codes "\n")
    (decimal others ++ codes "\n") same in
    let digits : decimal polls ≡ decimal others =
    append_cancel_right (decimal polls) (decimal others) (codes "\n") line in
    sym (decimal_is_IsNumeral_wide polls (omega arith)).1 ∙ ap (digits_value 10) digits
    ∙ (decimal_is_IsNumeral_wide others (omega arith)).1

-- texts that end with texts of one length begin with the same
fronts-same : (a b x y : List ℕ) → length x ≡ length y → a ++ x ≡ b ++ y → a ≡ b
fronts-same [] [] x y long same = refl
fronts-same [] (c ∷ b) x y long same =
    let total : length x ≡ length ((c ∷ b) ++ y) = ap length same in
    absurd (omega (arith, long, total, length-append (c ∷ b) y))
fronts-same (c ∷ a) [] x y long same =
    let total : length ((c ∷ a) ++ x) ≡ length y = ap length same in
    absurd (omega (arith, long, total, length-append (c ∷ a) x))
fronts-same (c ∷ a) (d ∷ b) x y long same =
    let first : c ≡ d = cc in
    let others : a ++ x ≡ b ++ y = cc in
    let rest : a ≡ b = fronts-same a b x y long others in
    cc

-- texts of one length, after the same text
as-long : (a x y : List ℕ) → length x ≡ length y → length (a ++ x) ≡ length (a ++ y)
as-long a x y long = omega (arith, long, length-append a x, length-append a y)

-- what follows a range is as long as its digest says
tails-same : (sums : Sums) (one two : List ℕ) → length one ≡ length two →
    length (after_range sums one) ≡ length (after_range sums two)
tails-same sums one two long =
    let digits : length (encode_lower one) ≡ length (encode_lower two) =
    length-encode_with _ one ∙ ap (λ k. 2 * k) long ∙ sym (length-encode_with _ two) in
    let ends : length (encode_lower one ++ codes "\"}\n")
    ≡ length (encode_lower two ++ codes "\"}\n") =
    omega (
      arith,
      digits,
      length-append (encode_lower one) (codes "\"}\n"),
      length-append (encode_lower two) (codes "\"}\n"),
    ) in
    as-long (codes ",\"lines\":") _ _
    (as-long (decimal sums.lines) _ _ (as-long (codes ",\"population\":\"") _ _
    (as-long (encode_lower sums.digest) _ _ (as-long (codes "\",\"report\":\"") _ _ ends))))

-- a trailer determines the range
pub trailer-tells : (range other : JobRange) (sums : Sums) (one two : List ℕ)
    → length one ≡ length two → IsPartRange range → IsPartRange other
    → trailer_line range sums one ≡ trailer_line other sums two → range ≡ other
trailer-tells range other sums one two long fits other_fits same =
    let whole : (codes "{\"jobs\":\"" ++ range_text range ++ codes "\"") ++ after_range sums one
    ≡ (codes "{\"jobs\":\"" ++ range_text other ++ codes "\"") ++ after_range sums two =
    sym (begins-with range sums one) ∙ same ∙ begins-with other sums two in
    let fronts : codes "{\"jobs\":\"" ++ range_text range ++ codes "\"" ≡ codes "{\"jobs\":\""
    ++ range_text other ++ codes "\"" =
    fronts-same _ _ (after_range sums one) (after_range sums two)
    (tails-same sums one two long) whole in
    let front : codes "{\"jobs\":\"" ++ range_text range ≡ codes "{\"jobs\":\""
    ++ range_text other =
    append_cancel_right _ _ (codes "\"") fronts in
    let text : range_text range ≡ range_text other =
    append_cancel_left (codes "{\"jobs\":\"") _ _ front in
    let found : Some range ≡ Some other =
    sym (range-read range fits) ∙ ap jobs_of text ∙ range-read other other_fits in
    cc
