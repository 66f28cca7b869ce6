-- Texts whose first part determines its length.
use Rattle.std.proofs.Common.{◌≡◌, ◌<◌, ◌^◌, ◌++◌, ◌⊎◌, inl, inr, ℕ, List, [], ◌∷◌, length, refl}
use Rattle.std.proofs.Common.{sym, arith}
use Rattle.std.specs.Prelude.{⊤, decimal, nat_eq, false}
use Rattle.std.proofs.lemmas.Bool.Decides.{nat_tests}
use Rattle.std.specs.Char.{digit_value}
use Rattle.std.specs.Str.Parse.{AllDigits}
use Rattle.std.proofs.lemmas.Str.Parse.{digit_from_value}
use Rattle.std.proofs.lemmas.Fmt.{decimal_is_IsNumeral, decimal_injective}

-- the byte is no digit
abbrev pub IsMark : ℕ → Type 0
IsMark c = (c < 48) ⊎ (57 < c)

-- the text doesn't begin with a digit
abbrev pub EndsNumber : List ℕ → Type 0
EndsNumber [] = ⊤
EndsNumber (c ∷ r) = IsMark c

pub first_of_both : (a b : ℕ) (r s : List ℕ) → a ∷ r ≡ b ∷ s → a ≡ b
first_of_both a b r s h = cc

pub rest_of_both : (a b : ℕ) (r s : List ℕ) → a ∷ r ≡ b ∷ s → r ≡ s
rest_of_both a b r s h = cc

-- two lists with different first elements aren't equal
pub clash : (a b : ℕ) (r s : List ℕ) → nat_eq a b ≡ false → a ∷ r ≡ b ∷ s → ⊥
clash a b r s unlike h = let e = first_of_both a b r s h in grind (arith, nat_tests)

no_mark : (c : ℕ) → digit_value c < 10 → IsMark c → ⊥
no_mark c d (inl low) = omega (arith, digit_from_value c d)
no_mark c d (inr high) = omega (arith, digit_from_value c d)

no_end : (c : ℕ) (r s : List ℕ) → digit_value c < 10 → EndsNumber s → s ≡ c ∷ r → ⊥
no_end c r [] d e h = cc
no_end c r (b ∷ s) d e h = let same : b ≡ c = cc in no_mark b (rw same d) e

digits_split : (ds es r s : List ℕ) → AllDigits 10 ds → AllDigits 10 es → EndsNumber r
    → EndsNumber s
    → ds ++ r ≡ es ++ s → (ds ≡ es) × (r ≡ s)
digits_split [] [] r s d e p q h = (refl, h)
digits_split [] (c ∷ es) r s d e p q h = absurd (no_end c (es ++ s) r e.0 p h)
digits_split (c ∷ ds) [] r s d e p q h = absurd (no_end c (ds ++ r) s d.0 q (sym h))
digits_split (c ∷ ds) (b ∷ es) r s d e p q h =
    let same : c ≡ b = cc in
    let rest : (ds ≡ es) × (r ≡ s) =
    digits_split ds es r s d.1 e.1 p q (rest_of_both c b (ds ++ r) (es ++ s) h) in
    (cc (rest.0), rest.1)

-- a number ends before the first byte that is no digit
pub number_split : (m n : ℕ) (r s : List ℕ) → m < 2 ^ 64 → n < 2 ^ 64 → EndsNumber r → EndsNumber s
    → decimal m ++ r ≡ decimal n ++ s → (m ≡ n) × (r ≡ s)
number_split m n r s fits fit p q h =
    let parts = digits_split (decimal m) (decimal n) r s (decimal_is_IsNumeral m fits).0.1
    (decimal_is_IsNumeral n fit).0.1 p q h in
    (decimal_injective m n fits fit parts.0, parts.1)

digits_begin : (ds r s : List ℕ) (c : ℕ) → AllDigits 10 ds → 0 < length ds → IsMark c →
    ds ++ r ≡ c ∷ s → ⊥
digits_begin [] r s c d some mark h = omega arith
digits_begin (b ∷ ds) r s c d some mark h = let same : b ≡ c = cc in
    no_mark c (rw (← same) d.0) mark

-- a number begins with a digit
pub number_begins : (n : ℕ) (r s : List ℕ) (c : ℕ) → n < 2 ^ 64 → IsMark c →
    decimal n ++ r ≡ c ∷ s → ⊥
number_begins n r s c fits mark h =
    let all = (decimal_is_IsNumeral n fits).0 in digits_begin (decimal n) r s c all.1 all.0 mark h
