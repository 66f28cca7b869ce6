-- The last line of a text, and what single lines of a report say.
use Rattle.std.proofs.Common.{◌≡◌, ◌≢◌, ◌<◌, ◌≤◌, ◌==◌, ◌+◌, ◌-◌, ◌^◌, ℕ, zero, suc, List, [], ◌∷◌}
use Rattle.std.proofs.Common.{◌++◌, length, take, drop, codes, Ok, Some, Result, refl}
use Rattle.std.proofs.Common.{sym, ap, ◌∙◌, append_assoc, length-append, arith, subst, inl, inr}
use Rattle.std.proofs.lemmas.Bool.{cases_lt, eqb-true}
use Rattle.std.proofs.lemmas.Fmt.{IsAscii-decimal_wide, decimal_is_IsNumeral_wide}
use Rattle.std.proofs.lemmas.Fmt.{parse-decimal_wide}
use Rattle.std.proofs.lemmas.List.{drop_at, get_or-drop, get_or_append_left}
use Rattle.std.proofs.lemmas.List.{get_or_at, length-drop, length-take-le, take_at}
use Rattle.std.proofs.lemmas.Str.{IsUtf8-from_ascii}
use Rattle.std.specs.Char.{digit_value}
use Rattle.std.specs.Fmt.{decimal}
use Rattle.std.specs.Prelude.{slice_index, ⊤}
use Rattle.std.specs.Str.{IsUtf8}
use Rattle.std.specs.Str.Parse.{AllDigits, ParsesUnsigned}
use Rattle.memchr.specs.Find.{NoneBefore, Nowhere, Passes, is_byte}
use Rattle.zs_run.specs.PlanReport.{with_total}
use Rattle.zs_lines.specs.Buffers.{IsOneLine}
use Rattle.zs_lines.proofs.ByteLemmas.{at-newline, one_line-nowhere}
use Rattle.zs_population.specs.Parts.{IsPartRange, IsSplit, NamesRange}
use Rattle.zs_population.specs.Population.{max_population}
use Rattle.zs_population.specs.Trailer.{range_text}
use Rattle.zs_population.specs.Words.{jobs_of}
use Rattle.zs_population.specs.declared.range.JobRange.{JobRange}
use Rattle.zs_population.proofs.Trailers.{range-read}

-- ---- the last line

-- no newline comes after a place
line-after : (bs : List ℕ) (n : ℕ) → Nowhere (Passes (is_byte 10) bs) n (length bs) →
    IsOneLine (drop n bs)
line-after bs n none =
    one_line-nowhere (drop n bs) (length (drop n bs)) refl
    (λ k low high is. none (n + k) (omega arith) (omega (arith, high, length-drop n bs))
    (rw (get_or-drop n bs k 0) at is))

-- the last newline of a text before its end
pub split-found : (text rest : List ℕ) (at : ℕ) → text ≡ rest ++ 10 ∷ [] → at < length rest
    → Passes (is_byte 10) rest at → Nowhere (Passes (is_byte 10) rest) (at + 1) (length rest)
    → IsSplit text (take (at + 1) text) (drop (at + 1) text)
split-found text rest at is within here none =
    let front : List ℕ = take at rest in
    let line : List ℕ = drop (at + 1) rest in
    let whole : text ≡ (front ++ 10 ∷ []) ++ (line ++ 10 ∷ []) =
    is ∙ ap (λ (bs : List ℕ). bs ++ 10 ∷ []) (at-newline rest at within here)
    ∙ append_assoc front (10 ∷ line) (10 ∷ [])
    ∙ sym (append_assoc front (10 ∷ []) (line ++ 10 ∷ [])) in
    let long : length (front ++ 10 ∷ []) ≡ at + 1 =
    omega (
      arith,
      length-append front (10 ∷ []),
      length-take-le at rest (omega (arith, within)),
    ) in
    let begin : take (at + 1) text ≡ front ++ 10 ∷ [] =
    ap (take (at + 1)) whole ∙ take_at (front ++ 10 ∷ []) (line ++ 10 ∷ []) (at + 1) long in
    let end : drop (at + 1) text ≡ line ++ 10 ∷ [] =
    ap (drop (at + 1)) whole ∙ drop_at (front ++ 10 ∷ []) (line ++ 10 ∷ []) (at + 1) long in (
      line,
      line-after rest (at + 1) none,
      end,
      rw (begin, end) whole,
      inr (front, begin),
    )

-- a text that is one line
pub split-whole : (text rest : List ℕ) → text ≡ rest ++ 10 ∷ [] →
    Nowhere (Passes (is_byte 10) rest) 0 (length rest) → IsSplit text (take 0 text) (drop 0 text)
split-whole text rest is none =
    (rest, one_line-nowhere rest (length rest) refl none, is, refl, inl refl)

-- ---- the range of a trailer

-- none of the bytes is a quotation mark
abbrev IsFree : List ℕ → Type 0
IsFree [] = ⊤
IsFree (b ∷ bs) = (b ≢ 34) × IsFree bs

free-append : (xs ys : List ℕ) → IsFree xs → IsFree ys → IsFree (xs ++ ys)
free-append [] ys free more = more
free-append (x ∷ xs) ys free more = (free.0, free-append xs ys free.1 more)

free-digits : (ds : List ℕ) → AllDigits 10 ds → IsFree ds
free-digits [] all = tt
free-digits (d ∷ ds) all = (
  λ is. let small : 36 < 10 = subst (λ (c : ℕ). digit_value c < 10) is all.0 in
      omega (arith, small),
  free-digits ds all.1,
)

free-decimal : (n : ℕ) → n ≤ max_population → IsFree (decimal n)
free-decimal n few = free-digits (decimal n) (decimal_is_IsNumeral_wide n (omega (arith, few))).0.1

free-range : (range : JobRange) → IsPartRange range → IsFree (range_text range)
free-range range fits =
    let first : IsFree (decimal range.first) = free-decimal range.first (omega (arith, fits.1)) in
    let dots : IsFree (codes "..") = (λ is. omega (arith, is), (λ is. omega (arith, is), tt)) in
    free-append (decimal range.first ++ codes "..") (decimal (range.first + range.count))
    (free-append (decimal range.first) (codes "..") first dots)
    (free-decimal (range.first + range.count) fits.1)

free-at : (bs : List ℕ) → IsFree bs → (k : ℕ) → k < length bs → slice_index bs k ≢ 34
free-at [] free k low = absurd (omega (arith, low))
free-at (b ∷ bs) free zero low = free.0
free-at (b ∷ bs) free (suc k) low = free-at bs free.1 k (omega (arith, low))

-- the first quotation mark
first-quote : (free rest : List ℕ) (at n : ℕ) → IsFree free →
    NoneBefore (Passes (is_byte 34) (free ++ 34 ∷ rest)) 0 n at →
    Passes (is_byte 34) (free ++ 34 ∷ rest) at → at ≡ length free
first-quote free rest at n none before here = elim (cases_lt at (length free)) [
  | inl early ↦ absurd
      (free-at free none at early (sym (get_or_append_left free (34 ∷ rest) 0 at early)
      ∙ eqb-true (slice_index (free ++ 34 ∷ rest) at) 34 here))
  | inr late ↦ elim (cases_lt (length free) at) [
    | inl later ↦ (
        let mark : slice_index (free ++ 34 ∷ rest) (length free) ≡ 34 =
        get_or_at free 34 rest 0 (length free) refl in
        absurd (before.before (length free) (omega arith) later (ap (λ n. n == 34) mark))
        )
    | inr same ↦ omega (arith, late, same)
  ]
]

-- the text before the first quotation mark after the beginning of a trailer
pub range-found : (trailer rest : List ℕ) (at n : ℕ) (range : JobRange) → rest ≡ drop 9 trailer
    → NoneBefore (Passes (is_byte 34) rest) 0 n at → Passes (is_byte 34) rest at
    → IsPartRange range → NamesRange trailer range → jobs_of (take at rest) ≡ Some range
range-found trailer rest at n range is before here fits names =
    let text : List ℕ = range_text range in
    let after : rest ≡ text ++ 34 ∷ names.0 =
    is ∙ ap (drop 9) names.1 ∙ append_assoc text (34 ∷ []) names.0 in
    let free : IsFree text = free-range range fits in
    let place : at ≡ length text =
    first-quote text names.0 at n free (rw after at before) (rw after at here) in
    let found : take at rest ≡ text =
    ap (take at) after ∙ take_at text (34 ∷ names.0) at (sym place) in
    ap jobs_of found ∙ range-read range fits

-- ---- the last line of a report

-- the digits of the number of polls
pub digits-are : (total rest digits : List ℕ) (polls : ℕ) → total ≡ with_total [] polls →
    rest ≡ drop 6 total → digits ≡ take (length rest - 1) rest → digits ≡ decimal polls
digits-are total rest digits polls is stripped cut =
    let after : rest ≡ decimal polls ++ 10 ∷ [] = stripped ∙ ap (drop 6) is in
    let long : length rest ≡ length (decimal polls) + 1 =
    ap (λ (bs : List ℕ). length bs) after ∙ length-append (decimal polls) (10 ∷ []) in
    cut ∙ ap (take (length rest - 1)) after ∙ take_at (decimal polls) (10 ∷ []) (length rest - 1)
    (omega (arith, long))

-- digits are text
pub digits-text : (digits : List ℕ) (polls : ℕ) → polls < 2 ^ 128 → digits ≡ decimal polls →
    IsUtf8 digits
digits-text digits polls few is =
    rw is (IsUtf8-from_ascii (decimal polls) (IsAscii-decimal_wide polls (omega (arith, few))))

-- they are the number
pub digits-parse : {E : Type 0} (digits : List ℕ) (polls : ℕ) (r : Result ℕ E) → polls < 2 ^ 128 →
    digits ≡ decimal polls → ParsesUnsigned 128 10 digits r → r ≡ Ok polls
digits-parse digits polls r few is parses =
    parse-decimal_wide 128 polls digits r few (omega (arith, few)) is parses
