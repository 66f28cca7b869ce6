-- What the calls over a program return to C. A program is words that begin with those of a
-- schedule, and is that of one schedule alone. For other words, nothing is stated but why a call
-- fails, and what a step changes.
use Rattle.std.specs.Prelude.{◌≡◌, ◌≢◌, ℕ, ◌+◌, ◌<◌, List, [], ◌∷◌, ◌++◌, length, drop}
use Rattle.zs_term.specs.Schedule.{Schedule}
use Rattle.zs_step.specs.History.{History}
use Rattle.zs_c.specs.declared.program.denial.Denial.{Denial}
use Rattle.zs_c.specs.declared.program.denial.Denial.TheVariants.{NoStep, Falls, NoRoom}
use Rattle.zs_c.specs.declared.program.denial.Denial.TheVariants.{NoProgram, OtherState, OtherSize}
use Rattle.zs_c.specs.declared.program.denial.Denial.TheVariants.{OtherVersion}
use Rattle.zs_c.specs.Program.{program_of, program_check, program_state, IsProgram}
use Rattle.zs_c.specs.Program.{KeepsProgramState, state_version, state_head, version_in, check_in}
use Rattle.zs_c.specs.Program.{state_size_in, last_in, stepped_in}
use Rattle.zs_c.specs.declared.refusal.Refusal.{Refusal}
use Rattle.zs_c.specs.declared.refusal.Refusal.TheVariants.{NotUtf8, Memory, KeepsList}
use Rattle.zs_c.specs.declared.refusal.Refusal.TheVariants.{NoRoom as RefusalNoRoom, NoDriver}
use Rattle.zs_c.specs.declared.refusal.Refusal.TheVariants.{OtherSize as RefusalOtherSize, Text}
use Rattle.zs_c.specs.Refusals.{SpellsFlat, IsSizeRefusal}
use Rattle.zs_c.specs.Shown.{IsCountable}
use Rattle.zs_c.specs.Told.{TellsStep, TellsOutput}

-- the number of a denial
abbrev pub denial_number : Denial → ℕ
denial_number NoStep = 2
denial_number Falls = 3
denial_number NoRoom = 7
denial_number NoProgram = 8
denial_number OtherState = 9
denial_number OtherSize = 17
denial_number OtherVersion = 18

-- the text spells a schedule, and these are the numbers of words of its program and of its state
pub record IsProgramSized (text : List ℕ) (size state_size : ℕ) : Type 0 where
  pub term : Schedule
  pub spelled : SpellsFlat text term
  pub sized : size ≡ length (program_of term)
  pub state_sized : (h : History) (planned : ℕ)
      → state_size ≡ length (program_state term h planned)

-- the text spells a schedule whose program has more words than this
pub record OutgrowsProgram (text : List ℕ) (room : ℕ) : Type 0 where
  pub term : Schedule
  pub spelled : SpellsFlat text term
  pub over : room < length (program_of term)

-- Why a text isn't compiled: for a reason of `IsSizeRefusal`; or its program has more words than
-- the buffer.
abbrev pub IsCompileRefusal : List ℕ → ℕ → Refusal → Type 0
IsCompileRefusal text room RefusalNoRoom = OutgrowsProgram text room
IsCompileRefusal text room KeepsList = IsSizeRefusal text KeepsList
IsCompileRefusal text room (NotUtf8 at) = IsSizeRefusal text (NotUtf8 at)
IsCompileRefusal text room (Text fault) = IsSizeRefusal text (Text fault)
IsCompileRefusal text room Memory = IsSizeRefusal text Memory
IsCompileRefusal text room NoDriver = ⊥
IsCompileRefusal text room RefusalOtherSize = ⊥

-- the text spells a schedule, and this is its program
pub record IsNewProgram (text words : List ℕ) : Type 0 where
  pub term : Schedule
  pub spelled : SpellsFlat text term
  pub is : words ≡ program_of term

-- The text spells a schedule, and words begin with its program. Words after the program are
-- unchanged.
pub record IsCompiled (text old new : List ℕ) : Type 0 where
  pub term : Schedule
  pub spelled : SpellsFlat text term
  pub compiled : new ≡ program_of term ++ drop (length (program_of term)) old
  pub program : IsProgram new term

-- Why a program isn't begun: it is that of no schedule; or its state has more words.
abbrev pub IsUnfit : List ℕ → List ℕ → Denial → Type 0
IsUnfit program state NoProgram = (t : Schedule) → IsProgram program t → ⊥
IsUnfit program state NoRoom =
    (t : Schedule) → IsProgram program t → length state < length (program_state t [] 0)
IsUnfit program state OtherState = ⊥
IsUnfit program state NoStep = ⊥
IsUnfit program state Falls = ⊥
IsUnfit program state OtherSize = ⊥
IsUnfit program state OtherVersion = ⊥

-- Why a program has no such state: for one of these reasons; or the words begin with another
-- version, or are another program's.
abbrev pub IsForeign : List ℕ → List ℕ → Denial → Type 0
IsForeign program state NoProgram = IsUnfit program state NoProgram
IsForeign program state NoRoom = IsUnfit program state NoRoom
IsForeign program state OtherState =
    (t : Schedule) → IsProgram program t → check_in state ≢ program_check t
IsForeign program state OtherVersion = version_in state ≢ state_version
IsForeign program state NoStep = ⊥
IsForeign program state Falls = ⊥
IsForeign program state OtherSize = ⊥

-- Why a program isn't stepped: for one of these reasons; or the moment is below the last one.
abbrev pub IsStepDenied : List ℕ → List ℕ → ℕ → Denial → Type 0
IsStepDenied program state now Falls = now < last_in state
IsStepDenied program state now NoProgram = IsForeign program state NoProgram
IsStepDenied program state now NoRoom = IsForeign program state NoRoom
IsStepDenied program state now OtherState = IsForeign program state OtherState
IsStepDenied program state now OtherVersion = IsForeign program state OtherVersion
IsStepDenied program state now NoStep = ⊥
IsStepDenied program state now OtherSize = ⊥

-- Why there is no output: the words are no state of a program; or no step was made.
abbrev pub IsOutputDenied : List ℕ → List ℕ → Denial → Type 0
IsOutputDenied program state NoStep = stepped_in state ≡ 0
IsOutputDenied program state NoProgram = IsForeign program state NoProgram
IsOutputDenied program state NoRoom = IsForeign program state NoRoom
IsOutputDenied program state OtherState = IsForeign program state OtherState
IsOutputDenied program state OtherVersion = IsForeign program state OtherVersion
IsOutputDenied program state Falls = ⊥
IsOutputDenied program state OtherSize = ⊥

-- a number is that of a reason that holds why a call over a program fails
pub record IsDeniedFor (Holds : Denial → Type 0) (n : ℕ) : Type 0 where
  pub why : Denial
  pub is_so : Holds why
  pub numbered : n ≡ denial_number why

-- a program's state before any step, with nothing planned, written to the front of words
pub record IsProgramBegun (t : Schedule) (old new : List ℕ) : Type 0 where
  pub begun : new ≡ program_state t [] 0 ++ drop (length (program_state t [] 0)) old

-- A step of words that are checked, whatever else they and a state's words are: the version, the
-- check word and the words after the state are unchanged, and the last moment is that of the step.
pub record IsStepSafe (program old new : List ℕ) (now : ℕ) : Type 0 where
  pub version : version_in new ≡ version_in old
  pub check : check_in new ≡ check_in old
  pub moment : last_in new ≡ now
  pub behind : drop (state_size_in program + state_head) new
      ≡ drop (state_size_in program + state_head) old

-- The decision of one more step is returned, for each history whose state the words were, if 64
-- bits hold the sizes of lists. The new words are the state after that step, with the same planned
-- begin. Words after the state are unchanged, whatever the words were.
pub record IsProgramStepped (t : Schedule) (old new : List ℕ) (step : ℕ × ℕ)
    (number next visited : ℕ) : Type 0 where
  pub tells : (h : History) (planned : ℕ) → KeepsProgramState t h planned old → IsCountable t h
      → TellsStep t (step ∷ h) number next visited
  pub state : (h : History) (planned : ℕ) → KeepsProgramState t h planned old → IsCountable t h
      → KeepsProgramState t (step ∷ h) planned new
  pub behind : drop (length (program_state t [] 0)) new ≡ drop (length (program_state t [] 0)) old

-- The output of the last step is returned, for each history whose state the words are.
abbrev pub IsOutputTold : Schedule → List ℕ → List ℕ → List ℕ → ℕ → Type 0
IsOutputTold t state room out size =
    (h : History) (planned : ℕ) → KeepsProgramState t h planned state
    → TellsOutput t h room out size
