-- What the lexer finds at a place of a text.
use Rattle.std.specs.Prelude.{◌≡◌, ℕ, ◌<◌, ◌≤◌, List, length, drop, Option, Some}
use Rattle.zs_term.specs.Token.{Token, number, mark, lex, nothing, stuck, with_token}
use Rattle.zs_term.specs.Number.{fit}
use Rattle.zs_term.specs.declared.token.Lexeme.{Lexeme}
use Rattle.zs_term.specs.declared.token.Lexeme.TheVariants.{Number, Mark}
use Rattle.zs_term.specs.declared.lexer.Found.{Found}
use Rattle.zs_term.specs.declared.lexer.Scan.{Scan}
use Rattle.zs_term.specs.declared.lexer.Scan.TheVariants.{End, Stuck, Next}

-- the code's token is this token
abbrev pub IsLexeme : Lexeme → Token → Type 0
IsLexeme (Number value) t = (n : ℕ) × (t ≡ number n) × (value ≡ fit n)
IsLexeme (Mark m) t = t ≡ mark m

-- the lexer found this token at the front, or nothing
abbrev pub IsFoundAs : Option (Token × ℕ) → List ℕ → Found → Type 0
IsFoundAs found bytes f = (t : Token) × IsLexeme f.lexeme t
    × (found ≡ Some (t, f.len)) × (0 < f.len) × (f.len ≤ length bytes)

-- the lexer found what comes next in the text from a place on
abbrev pub Scans : List ℕ → ℕ → Scan → Type 0
Scans text from End = lex 0 from (drop from text) ≡ nothing
Scans text from (Stuck at) = lex 0 from (drop from text) ≡ stuck at
Scans text from (Next at lexeme end) =
    (t : Token) × IsLexeme lexeme t × (lex 0 from (drop from text)
    ≡ with_token at t (lex 0 end (drop end text))) × (from < end) × (end ≤ length text)
