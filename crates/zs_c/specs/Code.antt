-- A schedule as words: each node before its parts, as a tag and its numbers. An operator between
-- two schedules has the sizes of the first after its tag: the number of words of its code, and of
-- its state. `one_schedule` of `src/program/laws.rt` states that words are the program of at most
-- one schedule.
use Rattle.std.specs.Prelude.{◌≡◌, ℕ, ◌≤◌, List, [], ◌∷◌, ◌++◌, length}
use Rattle.zs_term.specs.Output.{number_in, count}
use Rattle.zs_term.specs.Schedule.{Schedule, leaf, two, over, Leaf, Pairing, both, either, and_then}
use Rattle.zs_term.specs.Schedule.{Modifier, while_input, while_output, collect_all, mapped}
use Rattle.zs_term.specs.Schedule.{reset_when, depth}
use Rattle.zs_term.specs.declared.term.Cmp.{Cmp}
use Rattle.zs_term.specs.declared.term.Cmp.TheVariants.{Lt, Le, Eq, Ne, Gt, Ge}
use Rattle.zs_term.specs.declared.term.Pick.{Pick}
use Rattle.zs_term.specs.declared.term.Pick.TheVariants.{Whole, First as PickFirst}
use Rattle.zs_term.specs.declared.term.Pick.TheVariants.{Second as PickSecond, Size as PickSize}
use Rattle.zs_term.specs.declared.term.Func.{Func}
use Rattle.zs_term.specs.declared.term.Func.TheVariants.{First, Second, Size, Merge, Const, Add}
use Rattle.zs_term.specs.declared.term.Func.TheVariants.{Mul}
use Rattle.zs_step.specs.History.{History, earlier}
use Rattle.zs_step.specs.Answer.{answer_of, leaf_answer, from_done, since_reset, collected}
use Rattle.zs_c.specs.Words.{leaf_code, leaf_words, sequel_words}

-- the words of a leaf's state: its last output, and what the next step needs to know
abbrev pub leaf_held : Leaf → History → List ℕ
leaf_held l h = number_in (leaf_answer l h).output ∷ leaf_words l h

-- The words of a schedule's state. In place of its list, `collectAll` has the size of the list, and
-- that of the list which the next step shows.
abbrev pub held_of : Schedule → History → List ℕ
held_of (leaf l) h = leaf_held l h
held_of (two both a b) h = held_of a h ++ held_of b h
held_of (two either a b) h = held_of a h ++ held_of b h
held_of (two and_then a b) h = sequel_words (from_done (answer_of a) h) (held_of a) (held_of b) h
held_of (over s (while_input t)) h = held_of s h
held_of (over s (while_output k t)) h = held_of s h
held_of (over s collect_all) h =
    count (collected (answer_of s) (earlier h)) ∷ (count (collected (answer_of s) h) ∷ held_of s h)
held_of (over s (mapped f)) h = held_of s h
held_of (over s (reset_when k t)) h = held_of s (since_reset (answer_of s) k t h)

-- the number of words of a schedule's state
abbrev pub held_size : Schedule → ℕ
held_size t = length (held_of t [])

-- the word of a comparison
abbrev pub cmp_word : Cmp → ℕ
cmp_word Lt = 0
cmp_word Le = 1
cmp_word Eq = 2
cmp_word Ne = 3
cmp_word Gt = 4
cmp_word Ge = 5

-- the word of what a test reads
abbrev pub pick_word : Pick → ℕ
pick_word Whole = 0
pick_word PickFirst = 1
pick_word PickSecond = 2
pick_word PickSize = 3

-- the word of a function
abbrev pub func_word : Func → ℕ
func_word First = 0
func_word Second = 1
func_word Size = 2
func_word Merge = 3
func_word (Const n) = 4
func_word (Add n) = 5
func_word (Mul n) = 6

-- the number of a function, or 0
abbrev pub func_number : Func → ℕ
func_number First = 0
func_number Second = 0
func_number Size = 0
func_number Merge = 0
func_number (Const n) = n
func_number (Add n) = n
func_number (Mul n) = n

-- the tag of an operator between two schedules
abbrev pub pairing_tag : Pairing → ℕ
pairing_tag both = 11
pairing_tag either = 12
pairing_tag and_then = 13

-- the words of an operator over one schedule
abbrev pub modifier_code : Modifier → List ℕ
modifier_code (while_input t) = 14 ∷ (cmp_word t.cmp ∷ (t.than ∷ []))
modifier_code (while_output k t) = 15 ∷ (pick_word k ∷ (cmp_word t.cmp ∷ (t.than ∷ [])))
modifier_code (mapped f) = 16 ∷ (func_word f ∷ (func_number f ∷ []))
modifier_code (reset_when k t) = 17 ∷ (pick_word k ∷ (cmp_word t.cmp ∷ (t.than ∷ [])))
modifier_code collect_all = 18 ∷ []

-- the words of a schedule
abbrev pub code_of : Schedule → List ℕ
code_of (leaf l) = leaf_code l
code_of (two p a b) =
    pairing_tag p ∷ (length (code_of a) ∷ (held_size a ∷ (code_of a ++ code_of b)))
code_of (over s m) = modifier_code m ++ code_of s

-- the words of an operator between two schedules, with its tag
abbrev pub pair_code : ℕ → Schedule → Schedule → List ℕ
pair_code tag a b = tag ∷ (length (code_of a) ∷ (held_size a ∷ (code_of a ++ code_of b)))

-- words are the code of a schedule that is at most `levels` deep
pub record IsCode (t : Schedule) (code : List ℕ) (levels : ℕ) : Type 0 where
  pub is : code ≡ code_of t
  pub deep : depth t ≤ levels
