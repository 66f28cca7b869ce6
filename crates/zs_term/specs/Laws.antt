-- Laws of spellings, texts and faults. The functions of `src/laws.rt` prove them.
use Rattle.std.specs.Prelude.{◌≡◌, ℕ, List}
use Rattle.zs_term.specs.Schedule.{Schedule}
use Rattle.zs_term.specs.Number.{HasFittingNumbers}
use Rattle.zs_term.specs.Kinds.{IsSchedule}
use Rattle.zs_term.specs.Token.{Token}
use Rattle.zs_term.specs.Grammar.{Spells}
use Rattle.zs_term.specs.Causes.{TextSpells, SpellsSchedule, IsCause}
use Rattle.zs_term.specs.Canonical.{canonical_text}
use Rattle.zs_term.specs.declared.fault.TermFault.{TermFault}
use Rattle.zs_term.specs.declared.fault.TermFault.TheVariants.{Memory}

-- no token list spells two terms
abbrev pub OneTerm : Type 0
OneTerm = (tokens : List Token) (a b : Schedule) → Spells tokens a → Spells tokens b → a ≡ b

-- two faults of a text are the same fault at the same place, unless one is `Memory`
abbrev pub OneFault : Type 0
OneFault = (text : List ℕ) (e f : TermFault) → IsCause text e
    → IsCause text f → (e ≡ Memory → ⊥) → (f ≡ Memory → ⊥) → e ≡ f

-- a text that spells a schedule has no fault but `Memory`
abbrev pub OneVerdict : Type 0
OneVerdict = (text : List ℕ) (t : Schedule) → SpellsSchedule text t
    → (fault : TermFault) → IsCause text fault → fault ≡ Memory

-- the canonical spelling of a term spells the term
abbrev pub CanonicalSpells : Type 0
CanonicalSpells = (t : Schedule) → HasFittingNumbers t → TextSpells (canonical_text t) t

-- reading the canonical spelling of a schedule returns the schedule
abbrev pub RoundTrip : Type 0
RoundTrip = (t : Schedule) → IsSchedule t
    → HasFittingNumbers t → SpellsSchedule (canonical_text t) t
