-- Which tokens are in a text, stated place by place. `Token.lexed` computes them byte by byte
-- instead. The law `tokens_of_text` of `src/laws.rt` says that both agree.
use Rattle.std.specs.Prelude.{◌≡◌, ◌≢◌, ℕ, ◌+◌, ◌<◌, ◌≤◌, ◌↔◌, Bool, true, false, List, [], ◌∷◌}
use Rattle.std.specs.Prelude.{length, take, drop, slice_index, Option, Some, None}
use Rattle.std.specs.Char.{is_ascii_alphabetic, is_ascii_digit}
use Rattle.std.specs.Str.Parse.{digits_value}
use Rattle.zs_term.specs.Token.{Token, number, mark, Placed, Lexed, lexed, word_mark, pair_mark}
use Rattle.zs_term.specs.Token.{single_mark}
use Rattle.zs_term.specs.declared.token.Mark.{Mark}

-- the first n bytes pass, at least one, and the byte after them doesn't, if there is one
pub record IsRun (passes : ℕ → Bool) (n : ℕ) (bytes : List ℕ) : Type 0 where
  pub some : 0 < n
  pub inside : n ≤ length bytes
  pub all : (i : ℕ) → i < n → passes (slice_index bytes i) ≡ true
  pub ends : n < length bytes → passes (slice_index bytes n) ≡ false

-- the longest token at the front of these bytes, and its length in bytes
pub data IsTokenOf (bytes : List ℕ) : Token → ℕ → Type 0 where
  -- a word: all letters at the front
  word : (n : ℕ) → IsRun is_ascii_alphabetic n bytes
      → IsTokenOf bytes (mark (word_mark (take n bytes))) n
  -- a number: all digits at the front; several digits don't begin with 48, a `0`
  digits : (n : ℕ) → IsRun is_ascii_digit n bytes → (1 < n → slice_index bytes 0 ≢ 48)
      → IsTokenOf bytes (number (digits_value 10 (take n bytes))) n
  -- a symbol of two bytes
  pair : (m : Mark) → pair_mark (slice_index bytes 0) (slice_index bytes 1) ≡ Some m
      → IsTokenOf bytes (mark m) 2
  -- a symbol of one byte, if no symbol of two bytes is there
  single : (m : Mark) → pair_mark (slice_index bytes 0) (slice_index bytes 1) ≡ None
      → single_mark (slice_index bytes 0) ≡ Some m
      → IsTokenOf bytes (mark m) 1

-- all bytes from one place up to another are spaces
abbrev pub AreSpaces : List ℕ → ℕ → ℕ → Type 0
AreSpaces text from to = (i : ℕ) → from ≤ i → i < to → slice_index text i ≡ 32

-- The tokens of the text from a place on. Before each are only spaces. After the last are only
-- spaces up to the end, or up to a byte that is no space and begins no token.
abbrev pub AreTokensFrom : List ℕ → ℕ → List Placed → Option ℕ → Type 0
AreTokensFrom text from [] None = AreSpaces text from (length text)
AreTokensFrom text from [] (Some at) =
    (from ≤ at) × (at < length text) × AreSpaces text from at × (slice_index text at ≢ 32)
    × ((t : Token) (n : ℕ) → IsTokenOf (drop at text) t n → ⊥)
AreTokensFrom text from (p ∷ ps) stop =
    (n : ℕ) × (from ≤ p.place) × AreSpaces text from p.place
    × IsTokenOf (drop p.place text) p.token n × AreTokensFrom text (p.place + n) ps stop

-- the tokens that `lexed` computes are exactly those in the text
abbrev pub TokensOfText : Type 0
TokensOfText = (text : List ℕ) (found : Lexed)
    → (lexed text ≡ found) ↔ AreTokensFrom text 0 found.tokens found.stop
