-- The tokens of a text: words, numbers and symbols, separated by spaces (32). Other white space
-- isn't allowed.
use Rattle.std.specs.Prelude.{ℕ, zero, suc, ◌+◌, ◌-◌, ◌==◌, ◌&&◌, nat_lt, List, [], ◌∷◌, length}
use Rattle.std.specs.Prelude.{take_while, slice_index, Option, Some, None, if◌then◌else◌, codes}
use Rattle.std.specs.Char.{is_ascii_alphabetic, is_ascii_digit}
use Rattle.std.specs.Str.{bytes_eq}
use Rattle.std.specs.Str.Parse.{digits_value}
use Rattle.zs_term.specs.declared.token.Mark.{Mark}
use Rattle.zs_term.specs.declared.token.Mark.TheVariants.{PlainWord, CountedWord, ExponentialWord}
use Rattle.zs_term.specs.declared.token.Mark.TheVariants.{Operator, MethodWord, CollectAllWord}
use Rattle.zs_term.specs.declared.token.Mark.TheVariants.{Comparison, PieceWord, MergeWord}
use Rattle.zs_term.specs.declared.token.Mark.TheVariants.{ScaleWord, OtherWord, Open, Close, Comma}
use Rattle.zs_term.specs.declared.token.Mark.TheVariants.{Dot}
use Rattle.zs_term.specs.declared.forms.Plain.{Plain}
use Rattle.zs_term.specs.declared.forms.Plain.TheVariants.{Forever, Identity, Elapsed}
use Rattle.zs_term.specs.declared.forms.Counted.{Counted}
use Rattle.zs_term.specs.declared.forms.Counted.TheVariants.{Recurs, Spaced, Fixed, Fibonacci}
use Rattle.zs_term.specs.declared.forms.Counted.TheVariants.{Linear, Windowed}
use Rattle.zs_term.specs.declared.forms.Infix.TheVariants.{Both, Either, AndThen}
use Rattle.zs_term.specs.declared.forms.Method.{Method}
use Rattle.zs_term.specs.declared.forms.Method.TheVariants.{WhileInput, WhileOutput, Map, ResetWhen}
use Rattle.zs_term.specs.declared.forms.Piece.TheVariants.{First, Second, Size}
use Rattle.zs_term.specs.declared.forms.Scale.TheVariants.{Constant, Plus, Times}
use Rattle.zs_term.specs.declared.term.Cmp.TheVariants.{Lt, Le, Eq, Ne, Gt, Ge}

-- a token: a number of any size, or a word or symbol
pub data Token : Type 0 where
  number : ℕ → Token
  mark : Mark → Token

-- the word of a leaf without numbers
abbrev pub plain_word : Plain → List ℕ
plain_word Forever = codes "forever"
plain_word Identity = codes "identity"
plain_word Elapsed = codes "elapsed"

-- the word of a leaf with one number
abbrev pub counted_word : Counted → List ℕ
counted_word Recurs = codes "recurs"
counted_word Spaced = codes "spaced"
counted_word Fixed = codes "fixed"
counted_word Fibonacci = codes "fibonacci"
counted_word Linear = codes "linear"
counted_word Windowed = codes "windowed"

-- the leaf without numbers that a word names
abbrev pub plain_of : List ℕ → Option Plain
plain_of w =
    if bytes_eq w (plain_word Forever) then Some Forever
    else (if bytes_eq w (plain_word Identity) then Some Identity
    else (if bytes_eq w (plain_word Elapsed) then Some Elapsed
    else None))

-- the leaf with one number that a word names
abbrev pub counted_of : List ℕ → Option Counted
counted_of w =
    if bytes_eq w (counted_word Recurs) then Some Recurs
    else (if bytes_eq w (counted_word Spaced) then Some Spaced
    else (if bytes_eq w (counted_word Fixed) then Some Fixed
    else (if bytes_eq w (counted_word Fibonacci) then Some Fibonacci
    else (if bytes_eq w (counted_word Linear) then Some Linear
    else (if bytes_eq w (counted_word Windowed) then Some Windowed
    else None)))))

-- the method with arguments that a word names
abbrev pub method_of : List ℕ → Option Method
method_of w =
    if bytes_eq w (codes "whileInput") then Some WhileInput
    else (if bytes_eq w (codes "whileOutput") then Some WhileOutput
    else (if bytes_eq w (codes "map") then Some Map
    else (if bytes_eq w (codes "resetWhen") then Some ResetWhen
    else None)))

-- any other word; OtherWord if no form of a term has it
abbrev pub other_mark : List ℕ → Mark
other_mark w =
    if bytes_eq w (codes "exponential") then ExponentialWord
    else (if bytes_eq w (codes "andThenEither") then Operator AndThen
    else (if bytes_eq w (codes "collectAll") then CollectAllWord
    else (if bytes_eq w (codes "size") then PieceWord Size
    else (if bytes_eq w (codes "merge") then MergeWord
    else (if bytes_eq w (codes "as") then ScaleWord Constant
    else OtherWord)))))

-- the mark of the value, or the other mark if there is no value
abbrev pub mark_or : {X : Type 0} → (X → Mark) → Option X → Mark → Mark
mark_or as_mark (Some x) other = as_mark x
mark_or as_mark None other = other

-- the mark of a word
abbrev pub word_mark : List ℕ → Mark
word_mark w = mark_or PlainWord (plain_of w)
    (mark_or CountedWord (counted_of w) (mark_or MethodWord (method_of w) (other_mark w)))

-- a symbol of two bytes: 95 is `_`, 49 `1`, 38 `&`, 124 `|`, 60 `<`, 61 `=`, 33 `!`, 62 `>`
abbrev pub pair_mark : ℕ → ℕ → Option Mark
pair_mark a b =
    if a == 95 && b == 49 then Some (PieceWord First)
    else (if a == 95 && b == 50 then Some (PieceWord Second)
    else (if a == 38 && b == 38 then Some (Operator Both)
    else (if a == 124 && b == 124 then Some (Operator Either)
    else (if a == 60 && b == 61 then Some (Comparison Le)
    else (if a == 33 && b == 61 then Some (Comparison Ne)
    else (if a == 62 && b == 61 then Some (Comparison Ge)
    else None))))))

-- a symbol of one byte: `(`, `)`, `,`, `.`, `<`, `=`, `>`, `+`, `*`
abbrev pub single_mark : ℕ → Option Mark
single_mark a =
    if a == 40 then Some Open
    else (if a == 41 then Some Close
    else (if a == 44 then Some Comma
    else (if a == 46 then Some Dot
    else (if a == 60 then Some (Comparison Lt)
    else (if a == 61 then Some (Comparison Eq)
    else (if a == 62 then Some (Comparison Gt)
    else (if a == 43 then Some (ScaleWord Plus)
    else (if a == 42 then Some (ScaleWord Times)
    else None))))))))

-- the letters at the front, as a word
abbrev pub word_at : List ℕ → Token × ℕ
word_at bytes = let letters = take_while is_ascii_alphabetic bytes in
    (mark (word_mark letters), length letters)

-- the digits at the front; several of them don't begin with 48, a `0`
abbrev pub number_at : List ℕ → Option (Token × ℕ)
number_at bytes =
    let digits = take_while is_ascii_digit bytes in
    if nat_lt 1 (length digits) && slice_index digits 0 == 48 then None
    else Some (number (digits_value 10 digits), length digits)

-- of two symbols that fit, the longer one
abbrev pub longest : Option Mark → Option Mark → Option (Token × ℕ)
longest (Some m) o = Some (mark m, 2)
longest None (Some m) = Some (mark m, 1)
longest None None = None

-- the symbol at the front
abbrev pub symbol_at : List ℕ → Option (Token × ℕ)
symbol_at bytes = longest (pair_mark (slice_index bytes 0) (slice_index bytes 1))
    (single_mark (slice_index bytes 0))

-- the token at the front, and its length in bytes
abbrev pub token_at : List ℕ → Option (Token × ℕ)
token_at bytes =
    let first = slice_index bytes 0 in
    if is_ascii_alphabetic first then Some (word_at bytes)
    else (if is_ascii_digit first then number_at bytes
    else symbol_at bytes)

-- a token and the byte at which it begins
pub record Placed : Type 0 where
  pub place : ℕ
  pub token : Token

-- the tokens of a text, and the first byte at which no token begins, if there is one
pub record Lexed : Type 0 where
  pub tokens : List Placed
  pub stop : Option ℕ

-- no more tokens up to the end
abbrev pub nothing : Lexed
nothing = record { tokens = []; stop = None }

-- no token begins at this byte
abbrev pub stuck : ℕ → Lexed
stuck at = record { tokens = []; stop = Some at }

-- one more token before the rest
abbrev pub with_token : ℕ → Token → Lexed → Lexed
with_token at t rest =
    record { tokens = record { place = at; token = t } ∷ rest.tokens; stop = rest.stop }

-- the token at this place, and those after it
abbrev pub next_token : ℕ → Option (Token × ℕ) → (ℕ → Lexed) → Lexed
next_token at None behind = stuck at
next_token at (Some found) behind = with_token at found.0 (behind (found.1 - 1))

-- the tokens from a place on; the first `owned` bytes still belong to the token before
unfoldable pub lex : ℕ → ℕ → List ℕ → Lexed
lex owned at [] = nothing
lex (suc owned) at (b ∷ bytes) = lex owned (at + 1) bytes
lex zero at (b ∷ bytes) =
    if b == 32 then lex 0 (at + 1) bytes
    else next_token at (token_at (b ∷ bytes)) (λ owned. lex owned (at + 1) bytes)

-- the tokens of a text
abbrev pub lexed : List ℕ → Lexed
lexed text = lex 0 0 text
