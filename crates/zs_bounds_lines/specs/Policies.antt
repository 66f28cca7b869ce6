-- The policy of a line. A carriage return at the end of a line isn't part of it. An empty line, and
-- one that begins with `#`, has no policy.
use Rattle.std.specs.Prelude.{ℕ, List, [], ◌∷◌, ◌==◌, Bool, true, if◌then◌else◌, Option, Some, None}
use Rattle.std.specs.Prelude.{Result, Ok, Err}
use Rattle.std.specs.Str.{is_utf8}
use Rattle.zs_term.specs.Schedule.{Schedule}
use Rattle.zs_term.specs.Verdict.{verdict_of}
use Rattle.zs_term.specs.declared.fault.TermFault.{TermFault}
use Rattle.zs_bounds_lines.specs.declared.fault.PolicyFault.{PolicyFault}
use Rattle.zs_bounds_lines.specs.declared.fault.PolicyFault.TheVariants.{NotUtf8, Term}

-- a line without the carriage return at its end
abbrev pub without_return : List ℕ → List ℕ
without_return [] = []
without_return (b ∷ []) = if b == 13 then [] else b ∷ []
without_return (b ∷ (c ∷ cs)) = b ∷ without_return (c ∷ cs)

-- the line has no policy: it is empty, or begins with `#`
abbrev pub is_passed_over : List ℕ → Bool
is_passed_over [] = true
is_passed_over (b ∷ bs) = b == 35

-- the policy of a verdict
abbrev pub judged : Result Schedule TermFault → Result (Option Schedule) PolicyFault
judged (Ok s) = Ok (Some s)
judged (Err fault) = Err (Term fault)

-- the policy of a text
abbrev pub policy_in : List ℕ → Result (Option Schedule) PolicyFault
policy_in text = if is_passed_over text then Ok None else judged (verdict_of text)

-- the policy of a line, if it has one
unfoldable pub policy_of : List ℕ → Result (Option Schedule) PolicyFault
policy_of line = let text = without_return line in
    if is_utf8 text then policy_in text else Err NotUtf8
