-- The numbers of decisions and errors for C, as `include/zsched.h` names them, and the places that
-- go with them.
use Rattle.std.specs.Prelude.{ℕ}
use Rattle.zs_term.specs.declared.fault.TermFault.{TermFault}
use Rattle.zs_term.specs.declared.fault.TermFault.TheVariants.{NoTerm, TooBig, BadNumber, BadFactor}
use Rattle.zs_term.specs.declared.fault.TermFault.TheVariants.{NoKind, BadWindow}
use Rattle.zs_term.specs.declared.fault.TermFault.TheVariants.{Memory as TermMemory}
use Rattle.zs_step.specs.declared.decision.Decision.{Decision}
use Rattle.zs_step.specs.declared.decision.Decision.TheVariants.{Stop, Next}
use Rattle.zs_c.specs.declared.refusal.Refusal.{Refusal}
use Rattle.zs_c.specs.declared.refusal.Refusal.TheVariants.{NotUtf8, Memory, KeepsList}
use Rattle.zs_c.specs.declared.refusal.Refusal.TheVariants.{NoRoom, NoDriver, OtherSize, Text}

-- the number of a decision
abbrev pub decision_number : Decision → ℕ
decision_number (Next moment) = 0
decision_number Stop = 1

-- the moment at which a decision continues, or 0
abbrev pub next_moment : Decision → ℕ
next_moment (Next moment) = moment
next_moment Stop = 0

-- the number of a text's fault
abbrev pub fault_number : TermFault → ℕ
fault_number TermMemory = 5
fault_number (NoTerm at) = 11
fault_number TooBig = 12
fault_number (BadNumber at) = 13
fault_number BadFactor = 14
fault_number NoKind = 15
fault_number BadWindow = 16

-- the byte at which a text's fault shows, or 0
abbrev pub fault_place : TermFault → ℕ
fault_place (NoTerm at) = at
fault_place TooBig = 0
fault_place (BadNumber at) = at
fault_place BadFactor = 0
fault_place NoKind = 0
fault_place BadWindow = 0
fault_place TermMemory = 0

-- the number of an error
abbrev pub refusal_number : Refusal → ℕ
refusal_number (NotUtf8 at) = 4
refusal_number Memory = 5
refusal_number KeepsList = 6
refusal_number NoRoom = 7
refusal_number NoDriver = 10
refusal_number OtherSize = 17
refusal_number (Text fault) = fault_number fault

-- the byte at which an error shows, or 0
abbrev pub refusal_place : Refusal → ℕ
refusal_place (NotUtf8 at) = at
refusal_place Memory = 0
refusal_place KeepsList = 0
refusal_place NoRoom = 0
refusal_place NoDriver = 0
refusal_place OtherSize = 0
refusal_place (Text fault) = fault_place fault
