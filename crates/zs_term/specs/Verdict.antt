-- What reading a text returns, as a function that computes: its schedule or its one fault.
-- The law `verdict_is_the_one` of `src/laws.rt` ties it to the relations of `Causes`: the schedule
-- is the one that the text spells, and the fault is the first in the order of `TermFault`.
use Rattle.std.specs.Prelude.{◌≡◌, ◌≢◌, ℕ, List, [], ◌∷◌, length, Option, Some, None, if◌then◌else◌}
use Rattle.std.specs.Prelude.{Result, Ok, Err, MatchResult}
use Rattle.zs_term.specs.Schedule.{Schedule, schedule_of, is_within_limits, has_factors}
use Rattle.zs_term.specs.Schedule.{has_windows}
use Rattle.zs_term.specs.OutputKind.{OutputKind}
use Rattle.zs_term.specs.Kinds.{kind_of}
use Rattle.zs_term.specs.Token.{Placed, lexed}
use Rattle.zs_term.specs.Machine.{Frame, Stage, start, after, State, at, step, plant}
use Rattle.zs_term.specs.Causes.{first_huge, SpellsSchedule, IsCause}
use Rattle.zs_term.specs.declared.term.Term.{Term}
use Rattle.zs_term.specs.declared.fault.TermFault.{TermFault}
use Rattle.zs_term.specs.declared.fault.TermFault.TheVariants.{NoTerm, TooBig, BadNumber, BadFactor}
use Rattle.zs_term.specs.declared.fault.TermFault.TheVariants.{NoKind, BadWindow, Memory}

-- the whole term if no form is open, else the place after all tokens
abbrev pub finished_at : ℕ → List (Frame Schedule) → Stage Schedule ℕ → Result Schedule ℕ
finished_at end [] (after t) = Ok t
finished_at end fs stage = Err end

-- continues from a state, or stops at the place at which no spelling can go on
abbrev pub go_on : ℕ → Option (State Schedule ℕ)
    → (State Schedule ℕ → Result Schedule ℕ) → Result Schedule ℕ
go_on place None rest = Err place
go_on place (Some s) rest = rest s

-- the tokens from a state on: the whole term, or the first place at which no spelling can go on
abbrev pub term_from : ℕ → Option ℕ → State Schedule ℕ → List Placed → Result Schedule ℕ
term_from end (Some place) s [] = Err place
term_from end None s [] = finished_at end s.frames s.stage
term_from end stop s (p ∷ ps) =
    go_on p.place (step plant (Some s) p.token) (λ next. term_from end stop next ps)

-- the term that a text spells, or the place that `NoTerm` reports
abbrev pub spelled_term : List ℕ → Result Schedule ℕ
spelled_term text = term_from (length text) (lexed text).stop (at [] start) (lexed text).tokens

-- the verdict on a term with its kind, if it has one
abbrev pub with_kind : Schedule → Option OutputKind → Result Schedule TermFault
with_kind t None = Err NoKind
with_kind t (Some kind) = if has_windows t then Ok t else Err BadWindow

-- the verdict on a term within the limits, given the place of its first number above 2^64 - 1
abbrev pub with_numbers_at : Schedule → Option ℕ → Result Schedule TermFault
with_numbers_at t (Some place) = Err (BadNumber place)
with_numbers_at t None = if has_factors t then with_kind t (kind_of t) else Err BadFactor

-- the verdict on a term, given the place of its first number above 2^64 - 1
abbrev pub judged_term : Schedule → Option ℕ → Result Schedule TermFault
judged_term t huge = if is_within_limits t then with_numbers_at t huge else Err TooBig

-- the verdict on a term made by hand, whose numbers all fit
abbrev pub checked_as : Schedule → Result Schedule TermFault
checked_as t = judged_term t None

-- the verdict on a text, given its term or the place that `NoTerm` reports
abbrev pub judged : List ℕ → Result Schedule ℕ → Result Schedule TermFault
judged text (Err place) = Err (NoTerm place)
judged text (Ok t) = judged_term t (first_huge (lexed text).tokens)

-- the verdict on a text: the schedule that it spells, or its one fault
abbrev pub verdict_of : List ℕ → Result Schedule TermFault
verdict_of text = judged text (spelled_term text)

-- a result is this verdict: the term of its schedule, or its fault; `Memory` may come instead
abbrev pub IsVerdict : Result Schedule TermFault → Result Term TermFault → Type 0
IsVerdict verdict result =
    MatchResult result (λ term. verdict ≡ Ok (schedule_of term))
    (λ fault. fault ≢ Memory → verdict ≡ Err fault)

-- the computed schedule is the one that the text spells, and the computed fault is the first
abbrev pub VerdictIsTheOne : Type 0
VerdictIsTheOne = (text : List ℕ) → MatchResult (verdict_of text)
    (λ t. SpellsSchedule text t) (λ fault. IsCause text fault × (fault ≡ Memory → ⊥))
