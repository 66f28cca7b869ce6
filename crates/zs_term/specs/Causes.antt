-- Why a text or a term is rejected, and where: the causes in their order, stated over spellings.
use Rattle.std.specs.Prelude.{◌≡◌, ℕ, ◌^◌, nat_le, IsSome, Bool, true, false, List, [], ◌∷◌, ◌++◌}
use Rattle.std.specs.Prelude.{map, length, Option, Some, None, if◌then◌else◌}
use Rattle.zs_term.specs.Schedule.{Schedule, is_within_limits, has_factors, has_windows}
use Rattle.zs_term.specs.Kinds.{kind_of, IsSchedule}
use Rattle.zs_term.specs.Token.{Token, number, mark, Placed, lexed}
use Rattle.zs_term.specs.Grammar.{Spells, IsOpen}
use Rattle.zs_term.specs.declared.fault.TermFault.{TermFault}
use Rattle.zs_term.specs.declared.fault.TermFault.TheVariants.{NoTerm, TooBig, BadNumber, BadFactor}
use Rattle.zs_term.specs.declared.fault.TermFault.TheVariants.{NoKind, BadWindow, Memory}

-- the tokens without their places
abbrev pub tokens_of : List Placed → List Token
tokens_of placed = map (λ p. p.token) placed

-- the text spells the term
pub record TextSpells (text : List ℕ) (term : Schedule) : Type 0 where
  pub to_the_end : (lexed text).stop ≡ None
  pub spelled : Spells (tokens_of (lexed text).tokens) term

-- The text spells no term, and this is the place that `NoTerm` reports.
pub data IsNoTermAt (text : List ℕ) : ℕ → Type 0 where
  -- the first token with which no spelling can go on
  refused : (before : List Placed) (p : Placed) (behind : List Placed)
      → (lexed text).tokens ≡ before ++ p ∷ behind
      → IsOpen (tokens_of before)
      → (IsOpen (tokens_of before ++ p.token ∷ []) → ⊥) → IsNoTermAt text p.place
  -- the first byte at which no token begins
  no_token : (at : ℕ) → (lexed text).stop ≡ Some at
      → IsOpen (tokens_of (lexed text).tokens) → IsNoTermAt text at
  -- the end of the text, if all tokens begin a spelling but are none
  unfinished : (lexed text).stop ≡ None → IsOpen (tokens_of (lexed text).tokens)
      → ((term : Schedule) → Spells (tokens_of (lexed text).tokens) term → ⊥)
      → IsNoTermAt text (length text)

-- a number above 2^64 - 1
abbrev pub is_huge : Token → Bool
is_huge (number n) = nat_le (2 ^ 64) n
is_huge (mark m) = false

-- the place of the first number above 2^64 - 1
abbrev pub first_huge : List Placed → Option ℕ
first_huge [] = None
first_huge (p ∷ ps) = if is_huge p.token then Some p.place else first_huge ps

-- the text spells the term, which is within the limits, and its numbers fit in 64 bits
pub record IsRead (text : List ℕ) (term : Schedule) : Type 0 where
  pub spelled : TextSpells text term
  pub within : is_within_limits term ≡ true
  pub fits : first_huge (lexed text).tokens ≡ None

-- the text spells the term, which is a schedule
pub record SpellsSchedule (text : List ℕ) (term : Schedule) : Type 0 where
  pub read : IsRead text term
  pub schedule : IsSchedule term

-- the text has the cause of this fault, and of no fault that is checked before it
abbrev pub IsCause : List ℕ → TermFault → Type 0
IsCause text (NoTerm at) = IsNoTermAt text at
IsCause text TooBig = (term : Schedule) × TextSpells text term × (is_within_limits term ≡ false)
IsCause text (BadNumber at) = (term : Schedule) × TextSpells text term
    × (is_within_limits term ≡ true) × (first_huge (lexed text).tokens ≡ Some at)
IsCause text BadFactor = (term : Schedule) × IsRead text term × (has_factors term ≡ false)
IsCause text NoKind =
    (term : Schedule) × IsRead text term × (has_factors term ≡ true) × (kind_of term ≡ None)
IsCause text BadWindow = (term : Schedule) × IsRead text term
    × (has_factors term ≡ true) × IsSome (kind_of term) × (has_windows term ≡ false)
IsCause text Memory = Unit {0}

-- the term has the cause of this fault, and of no fault that is checked before it
abbrev pub IsTermCause : Schedule → TermFault → Type 0
IsTermCause term (NoTerm at) = ⊥
IsTermCause term TooBig = is_within_limits term ≡ false
IsTermCause term (BadNumber at) = ⊥
IsTermCause term BadFactor = (is_within_limits term ≡ true) × (has_factors term ≡ false)
IsTermCause term NoKind =
    (is_within_limits term ≡ true) × (has_factors term ≡ true) × (kind_of term ≡ None)
IsTermCause term BadWindow = (is_within_limits term ≡ true)
    × (has_factors term ≡ true) × IsSome (kind_of term) × (has_windows term ≡ false)
IsTermCause term Memory = Unit {0}
