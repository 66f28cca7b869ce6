-- How words are read as the form of a node: by their tag, whatever follows it. `proofs/Nodes.antt`
-- proves that the code of a schedule is read as the form of its root.
use Rattle.std.specs.Prelude.{◌≡◌, ℕ, ◌==◌, if◌then◌else◌, List, length, take, drop}
use Rattle.zs_term.specs.Schedule.{Schedule, leaf, two, over, both, either, and_then, while_input}
use Rattle.zs_term.specs.Schedule.{while_output, collect_all, mapped, reset_when}
use Rattle.zs_term.specs.declared.term.Cmp.{Cmp}
use Rattle.zs_term.specs.declared.term.Cmp.TheVariants.{Lt, Le, Eq, Ne, Gt, Ge}
use Rattle.zs_term.specs.declared.term.Test.{Test}
use Rattle.zs_term.specs.declared.term.Pick.{Pick}
use Rattle.zs_term.specs.declared.term.Pick.TheVariants.{Whole, First as PickFirst}
use Rattle.zs_term.specs.declared.term.Pick.TheVariants.{Second as PickSecond, Size as PickSize}
use Rattle.zs_term.specs.declared.term.Func.{Func}
use Rattle.zs_term.specs.declared.term.Func.TheVariants.{First, Second, Size, Merge, Const, Add}
use Rattle.zs_term.specs.declared.term.Func.TheVariants.{Mul}
use Rattle.zs_c.specs.declared.program.node.Sizes.{Sizes}
use Rattle.zs_c.specs.declared.program.node.Form.{Form}
use Rattle.zs_c.specs.declared.program.node.Form.TheVariants.{Leaf, Both, Either, AndThen}
use Rattle.zs_c.specs.declared.program.node.Form.TheVariants.{WhileInput, WhileOutput, Map}
use Rattle.zs_c.specs.declared.program.node.Form.TheVariants.{ResetWhen, CollectAll}
use Rattle.zs_step.specs.LeafState.{state_leaf}
use Rattle.zs_c.specs.Leaves.{word_at, rule_at, new_leaf}
use Rattle.zs_c.specs.Code.{code_of, held_size, IsCode}

-- the comparison of a word
abbrev pub cmp_of : ℕ → Cmp
cmp_of w =
    if w == 0 then Lt
    else (if w == 1 then Le
    else (if w == 2 then Eq else (if w == 3 then Ne else (if w == 4 then Gt else Ge))))

-- a comparison with a number
abbrev pub test_of : ℕ → ℕ → Test
test_of w than = record { cmp = cmp_of w; than = than }

-- what a test reads, by its word
abbrev pub pick_of : ℕ → Pick
pick_of w =
    if w == 0 then Whole
    else (if w == 1 then PickFirst else (if w == 2 then PickSecond else PickSize))

-- the function of a word and a number
abbrev pub func_of : ℕ → ℕ → Func
func_of w n =
    if w == 0 then First
    else (if w == 1 then Second else (if w == 2 then Size else (if w == 3 then Merge else
    (if w == 4 then Const n else (if w == 5 then Add n else Mul n)))))

-- the sizes after an operator's tag
abbrev pub sizes_at : List ℕ → Sizes
sizes_at code = record { code = word_at code 1; state = word_at code 2 }

-- the form of a node, by its tag and the words after it
unfoldable pub node_at : List ℕ → Form
node_at code =
    let w = word_at code 0 in
    if w == 11 then Both (sizes_at code) else (if w == 12 then Either (sizes_at code) else
    (if w == 13 then AndThen (sizes_at code)
    else (if w == 14 then WhileInput (test_of (word_at code 1) (word_at code 2)) else
    (if w == 15
    then WhileOutput (pick_of (word_at code 1)) (test_of (word_at code 2) (word_at code 3)) else
    (if w == 16 then Map (func_of (word_at code 1) (word_at code 2)) else
    (if w == 17
    then ResetWhen (pick_of (word_at code 1)) (test_of (word_at code 2) (word_at code 3))
    else (if w == 18 then CollectAll else Leaf (new_leaf (rule_at code)))))))))

-- the sizes of an operator's first part
abbrev pub sizes_of : Schedule → Sizes
sizes_of a = record { code = length (code_of a); state = held_size a }

-- a schedule whose root has this form
abbrev pub IsNode : Form → Schedule → Type 0
IsNode (Leaf l) t = (t ≡ leaf (state_leaf l)) × (l ≡ new_leaf (state_leaf l))
IsNode (Both n) t = (a : Schedule) × (b : Schedule) × (t ≡ two both a b) × (n ≡ sizes_of a)
IsNode (Either n) t = (a : Schedule) × (b : Schedule) × (t ≡ two either a b) × (n ≡ sizes_of a)
IsNode (AndThen n) t = (a : Schedule) × (b : Schedule) × (t ≡ two and_then a b) × (n ≡ sizes_of a)
IsNode (WhileInput x) t = (s : Schedule) × (t ≡ over s (while_input x))
IsNode (WhileOutput k x) t = (s : Schedule) × (t ≡ over s (while_output k x))
IsNode (Map f) t = (s : Schedule) × (t ≡ over s (mapped f))
IsNode (ResetWhen k x) t = (s : Schedule) × (t ≡ over s (reset_when k x))
IsNode CollectAll t = (s : Schedule) × (t ≡ over s collect_all)

-- the sizes and the code of an operator are those of two schedules, each at most `levels` deep
pub record IsParts (a b : Schedule) (n : Sizes) (code : List ℕ) (levels : ℕ) : Type 0 where
  pub sizes : n ≡ sizes_of a
  pub first : IsCode a (take n.code (drop 3 code)) levels
  pub second : IsCode b (drop n.code (drop 3 code)) levels
