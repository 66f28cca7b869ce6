-- Saturation: numbers of any size, cut at 2^64 - 1.
use Rattle.std.specs.Prelude.{ℕ, min}

-- the greatest moment, delay, counter and input: 2^64 - 1
abbrev pub max_moment : ℕ
max_moment = 18446744073709551615

-- a number of any size, or 2^64 - 1 if it is greater
abbrev pub saturated : ℕ → ℕ
saturated x = min x 18446744073709551615
