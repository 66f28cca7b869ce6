-- What has been read of a text so far.
use Rattle.std.specs.Prelude.{◌≡◌, ℕ, ◌≤◌, Bool, false, List, [], ◌++◌, length, drop, Option, Some}
use Rattle.std.specs.Prelude.{None, if◌then◌else◌}
use Rattle.zs_term.specs.Token.{Token, Placed, Lexed, lex, lexed}
use Rattle.zs_term.specs.Machine.{State, at, start, run, value}
use Rattle.zs_term.specs.Schedule.{Schedule}
use Rattle.zs_term.specs.Parts.{Kept, keep}
use Rattle.zs_term.specs.Totals.{ArePast, IsPast}
use Rattle.zs_term.specs.Causes.{tokens_of, TextSpells, is_huge, first_huge}

-- tokens placed before those of a rest
abbrev pub behind_tokens : List Placed → Lexed → Lexed
behind_tokens done rest = record { tokens = done ++ rest.tokens; stop = rest.stop }

-- the tokens before this place lead to the state, and `huge` is the first number above 2^64 - 1;
-- terms are built until the schedule is past a limit
pub record SoFar (build : Bool) (text : List ℕ)
    (s : State Kept (Option ℕ)) (huge : Option ℕ) (from : ℕ) : Type 0 where
  pub done : List Placed
  pub shape : lexed text ≡ behind_tokens done (lex 0 from (drop from text))
  pub goes : run (keep build) (Some (at [] start)) (tokens_of done) ≡ Some s
  pub numbers : huge ≡ first_huge done
  pub inside : from ≤ length text
  pub nested : length s.frames ≤ from
  pub past : build ≡ false → IsPast s

-- the place of the first number above 2^64 - 1, after one more token
abbrev pub huge_with : Option ℕ → ℕ → Token → Option ℕ
huge_with (Some h) place t = Some h
huge_with None place t = if is_huge t then Some place else None

-- the text spells a term; `kept` is stored of it, and `huge` is its first number above 2^64 - 1;
-- it was built if its sizes are within the limits
pub record IsWhole (text : List ℕ) (kept : Kept) (huge : Option ℕ) : Type 0 where
  pub build : Bool
  pub term : Schedule
  pub spelled : TextSpells text term
  pub is : value (keep build) term ≡ kept
  pub numbers : huge ≡ first_huge (lexed text).tokens
  pub past : build ≡ false → ArePast (kept.depth, kept.weight)
