-- The schedule of an opened program: for private contracts alone.
use Rattle.std.specs.Prelude.{◌≡◌, ℕ, ◌≤◌, true, List}
use Rattle.zs_term.specs.Output.{Output}
use Rattle.zs_term.specs.Schedule.{Schedule, is_within_limits, weight, max_depth, max_weight}
use Rattle.zs_step.specs.History.{History}
use Rattle.zs_step.specs.Answer.{answer_of}
use Rattle.zs_step.specs.declared.decision.Decision.{Decision}
use Rattle.zs_c.specs.declared.program.opening.Opened.{Opened}
use Rattle.zs_c.specs.declared.program.leaf.Step.{Step}
use Rattle.zs_c.specs.Code.{IsCode, code_of, held_of, held_size}
use Rattle.zs_c.specs.Shown.{shows_no_list}
use Rattle.zs_c.specs.Numbers.{decision_number, next_moment}
use Rattle.zs_c.specs.Program.{program_check}
use Rattle.zs_c.specs.Programs.{IsProgramStepped}
use Rattle.zs_c.specs.declared.turn.Turn.{Turn}
use Rattle.zs_c.specs.Plan.{IsTurnPlanned}

-- an opened program is that of a schedule
pub record Opens (o : Opened) (t : Schedule) : Type 0 where
  pub check : o.check ≡ program_check t
  pub state : o.state ≡ held_size t
  pub code : o.code.now ≡ code_of t
  pub within : is_within_limits t ≡ true

-- A decision and a number of visits are those of a step of every schedule that an opened program
-- is of.
abbrev pub StepsOpened : Opened → List ℕ → List ℕ → Step → Decision → ℕ → Type 0
StepsOpened o old new step d visited =
    (t : Schedule) → Opens o t → IsProgramStepped t old new (step.moment, step.input)
    (decision_number d) (next_moment d) visited

-- a turn is that of every schedule that an opened program is of
abbrev pub PlansOpened : Opened → List ℕ → List ℕ → Turn → ℕ → ℕ → Type 0
PlansOpened o old new turn number begin =
    (t : Schedule) → Opens o t → IsTurnPlanned t turn old new number begin

-- a fact holds of every output that words may represent, if it shows no list
abbrev pub OfEachOutput : List ℕ → List ℕ → (Output → Type 0) → Type 0
OfEachOutput code words Holds =
    (t : Schedule) (h : History) → IsCode t code max_depth → weight t ≤ max_weight
    → shows_no_list t ≡ true → words ≡ held_of t h → Holds (answer_of t h).output
