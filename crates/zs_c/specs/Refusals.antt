-- Why a text is rejected, and why its schedule has no program.
use Rattle.std.specs.Prelude.{◌≡◌, ℕ, true, false, List, Err}
use Rattle.std.specs.Str.{IsUtf8}
use Rattle.std.specs.Str.Lossy.{utf8_valid_len}
use Rattle.zs_term.specs.Schedule.{Schedule}
use Rattle.zs_term.specs.Causes.{SpellsSchedule}
use Rattle.zs_term.specs.Verdict.{verdict_of}
use Rattle.zs_c.specs.declared.refusal.Refusal.{Refusal}
use Rattle.zs_c.specs.declared.refusal.Refusal.TheVariants.{NotUtf8, Memory, KeepsList}
use Rattle.zs_c.specs.declared.refusal.Refusal.TheVariants.{NoRoom, NoDriver, OtherSize, Text}
use Rattle.zs_c.specs.Shown.{shows_no_list}

-- the text spells a schedule
abbrev pub SpellsSome : List ℕ → Type 0
SpellsSome text = (t : Schedule) × SpellsSchedule text t

-- Why a text is rejected: it isn't UTF-8 from this byte on; or it is, and this is its one fault; or
-- memory ran out.
abbrev pub IsTextRefusal : List ℕ → Refusal → Type 0
IsTextRefusal text (NotUtf8 at) = (IsUtf8 text → ⊥) × (at ≡ utf8_valid_len text)
IsTextRefusal text (Text fault) = IsUtf8 text × (verdict_of text ≡ Err fault)
IsTextRefusal text Memory = Unit {0}
IsTextRefusal text KeepsList = ⊥
IsTextRefusal text NoRoom = ⊥
IsTextRefusal text NoDriver = ⊥
IsTextRefusal text OtherSize = ⊥

-- the text spells a schedule whose output shows no list
pub record SpellsFlat (text : List ℕ) (t : Schedule) : Type 0 where
  pub spelled : SpellsSchedule text t
  pub flat : shows_no_list t ≡ true

-- the text spells a schedule whose output shows a list
pub record SpellsListed (text : List ℕ) : Type 0 where
  pub term : Schedule
  pub spelled : SpellsSchedule text term
  pub listed : shows_no_list term ≡ false

-- Why there is no program: the text is rejected; or it spells a schedule whose output shows a list.
abbrev pub IsSizeRefusal : List ℕ → Refusal → Type 0
IsSizeRefusal text KeepsList = SpellsListed text
IsSizeRefusal text (NotUtf8 at) = IsTextRefusal text (NotUtf8 at)
IsSizeRefusal text (Text fault) = IsTextRefusal text (Text fault)
IsSizeRefusal text Memory = IsTextRefusal text Memory
IsSizeRefusal text NoRoom = ⊥
IsSizeRefusal text NoDriver = ⊥
IsSizeRefusal text OtherSize = ⊥
