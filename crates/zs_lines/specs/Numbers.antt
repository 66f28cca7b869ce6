-- Whole numbers in text.
use Rattle.std.specs.Prelude.{ℕ, ◌+◌, ◌*◌, ◌-◌, List, [], ◌∷◌, length, nat_le, nat_lt, ◌==◌, ◌&&◌}
use Rattle.std.specs.Prelude.{if◌then◌else◌, Option, Some, None, option_and_then}
use Rattle.std.specs.Char.{is_ascii_digit}
use Rattle.zs_term.specs.Saturating.{max_moment}

-- The number of the digits at the front of a text, and how many they are, after `count` digits of
-- the number n; none if it has more than 64 bits.
abbrev pub digits_from : ℕ → ℕ → List ℕ → Option (ℕ × ℕ)
digits_from n count [] = Some (n, count)
digits_from n count (b ∷ bs) =
    if is_ascii_digit b then (if nat_le (n * 10 + (b - 48)) max_moment
    then digits_from (n * 10 + (b - 48)) (count + 1) bs else None) else Some (n, count)

-- the number, if the text is digits alone
abbrev pub whole : List ℕ → ℕ × ℕ → Option ℕ
whole text found = if nat_lt 0 found.1 && (found.1 == length text) then Some found.0 else None

-- the number that a text is
abbrev pub number_of : List ℕ → Option ℕ
number_of text = option_and_then (whole text) (digits_from 0 0 text)
