-- A schedule as a program: a version, a check word of the words after it, the sizes of its code and
-- of its state, and its code. Words of programs and of states are named here, by their places.
use Rattle.std.specs.Prelude.{◌≡◌, ℕ, ◌+◌, ◌*◌, ◌%◌, ◌^◌, ◌<◌, ◌≤◌, true, List, [], ◌∷◌}
use Rattle.std.specs.Prelude.{◌++◌, length, take, drop, fold, slice_index_or}
use Rattle.zs_term.specs.Schedule.{Schedule, is_within_limits}
use Rattle.zs_step.specs.History.{History, last_moment}
use Rattle.zs_c.specs.Code.{code_of, held_of, held_size}

-- the first word of each program: the bytes of "zsched", the highest first, and the version of the
-- form, which is 3
abbrev pub program_version : ℕ
program_version = 8823505394977734659

-- the check word of no words
abbrev pub check_start : ℕ
check_start = 14695981039346656037

-- a check word after one more word
abbrev pub check_more : ℕ → ℕ → ℕ
check_more check word = ((check * 11400714819323198485) % 2 ^ 64 + word) % 2 ^ 64

-- The check word of some words. If exactly one word changes, the check word changes, because the
-- factor is odd.
unfoldable pub check_word : List ℕ → ℕ
check_word words = fold check_more check_start words

-- the version with which words begin, and a program's check word, in the program and in its states
abbrev pub version_in : List ℕ → ℕ
version_in words = slice_index_or words 0 0

abbrev pub check_in : List ℕ → ℕ
check_in words = slice_index_or words 1 0

-- the numbers of words of a program's code and of its schedule's state
abbrev pub code_size_in : List ℕ → ℕ
code_size_in program = slice_index_or program 2 0

abbrev pub state_size_in : List ℕ → ℕ
state_size_in program = slice_index_or program 3 0

-- the number of these words; the code comes after them
abbrev pub program_head : ℕ
program_head = 4

-- Words with a version, a code that isn't empty, and the check word of what comes after it. All
-- other words are rejected; these are stepped, also if they are the program of no schedule.
pub record IsChecked (words : List ℕ) : Type 0 where
  pub version : version_in words ≡ program_version
  pub some : 0 < code_size_in words
  pub within : code_size_in words + program_head ≤ length words
  pub check : check_in words ≡ check_word (take (code_size_in words + 2) (drop 2 words))

-- the words after the check word of a program
abbrev pub body_of : Schedule → List ℕ
body_of t = length (code_of t) ∷ (held_size t ∷ code_of t)

-- the check word of a schedule's program, which its states have too
abbrev pub program_check : Schedule → ℕ
program_check t = check_word (body_of t)

-- the program of a schedule
abbrev pub program_of : Schedule → List ℕ
program_of t = program_version ∷ (program_check t ∷ body_of t)

-- words begin with the program of a schedule that is within the limits of texts
pub record IsProgram (program : List ℕ) (t : Schedule) : Type 0 where
  pub more : List ℕ
  pub is : program ≡ program_of t ++ more
  pub within : is_within_limits t ≡ true

-- the first word of each state: the bytes of "zstate", the highest first, and the version of the
-- form, which is 1
abbrev pub state_version : ℕ
state_version = 8823524056862359553

-- the last moment, the planned begin of the next attempt in milliseconds, and 1 after a step
abbrev pub last_in : List ℕ → ℕ
last_in state = slice_index_or state 2 0

abbrev pub planned_in : List ℕ → ℕ
planned_in state = slice_index_or state 3 0

abbrev pub stepped_in : List ℕ → ℕ
stepped_in state = slice_index_or state 4 0

-- the number of words before those of the schedule's state: these, a version and a check word
abbrev pub state_head : ℕ
state_head = 5

-- 1 if a step was made, else 0
abbrev pub has_stepped : History → ℕ
has_stepped [] = 0
has_stepped (p ∷ h) = 1

-- the state of a program after a history
abbrev pub program_state : Schedule → History → ℕ → List ℕ
program_state t h planned =
    state_version
    ∷ (program_check t ∷ (last_moment h ∷ (planned ∷ (has_stepped h ∷ held_of t h))))

-- words begin with the state of a schedule's program after a history, with a planned begin
abbrev pub KeepsProgramState : Schedule → History → ℕ → List ℕ → Type 0
KeepsProgramState t h planned words =
    (more : List ℕ) × (words ≡ program_state t h planned ++ more)

-- words begin with the version of states and the check word of a program
pub record IsStateOf (program words : List ℕ) : Type 0 where
  pub version : version_in words ≡ state_version
  pub check : check_in words ≡ check_in program
