-- The one canonical spelling of a term.
use Rattle.std.specs.Prelude.{ℕ, List, [], ◌++◌, codes}
use Rattle.std.specs.Fmt.{decimal}
use Rattle.zs_term.specs.Schedule.{Schedule, leaf, two, over, Leaf, plain, counted, exponential}
use Rattle.zs_term.specs.Schedule.{Pairing, both, either, and_then, Modifier, while_input}
use Rattle.zs_term.specs.Schedule.{while_output, collect_all, mapped, reset_when}
use Rattle.zs_term.specs.Token.{plain_word, counted_word}
use Rattle.zs_term.specs.declared.term.Test.{Test}
use Rattle.zs_term.specs.declared.term.Cmp.{Cmp}
use Rattle.zs_term.specs.declared.term.Cmp.TheVariants.{Lt, Le, Eq, Ne, Gt, Ge}
use Rattle.zs_term.specs.declared.term.Pick.{Pick}
use Rattle.zs_term.specs.declared.term.Pick.TheVariants.{Whole as PickWhole, First as PickFirst}
use Rattle.zs_term.specs.declared.term.Pick.TheVariants.{Second as PickSecond, Size as PickSize}
use Rattle.zs_term.specs.declared.term.Func.{Func}
use Rattle.zs_term.specs.declared.term.Func.TheVariants.{First, Second, Size, Merge, Const, Add}
use Rattle.zs_term.specs.declared.term.Func.TheVariants.{Mul}

-- a comparison and the space after it
abbrev pub cmp_text : Cmp → List ℕ
cmp_text Lt = codes "< "
cmp_text Le = codes "<= "
cmp_text Eq = codes "= "
cmp_text Ne = codes "!= "
cmp_text Gt = codes "> "
cmp_text Ge = codes ">= "

-- a pick and the space after it; nothing for the whole output
abbrev pub pick_text : Pick → List ℕ
pick_text PickWhole = []
pick_text PickFirst = codes "_1 "
pick_text PickSecond = codes "_2 "
pick_text PickSize = codes "size "

-- the text of a function
abbrev pub func_text : Func → List ℕ
func_text First = codes "_1"
func_text Second = codes "_2"
func_text Size = codes "size"
func_text Merge = codes "merge"
func_text (Const n) = codes "as " ++ decimal n
func_text (Add n) = codes "+ " ++ decimal n
func_text (Mul n) = codes "* " ++ decimal n

-- `word(N)`
abbrev pub number_text : List ℕ → ℕ → List ℕ
number_text word n = word ++ (codes "(" ++ (decimal n ++ codes ")"))

-- `(S op S)`, with the spaces in the operator's text
abbrev pub infix_text : List ℕ → List ℕ → List ℕ → List ℕ
infix_text left operator right = codes "(" ++ (left ++ (operator ++ (right ++ codes ")")))

-- `C N)`: a comparison, a number and the closing parenthesis
abbrev pub test_text : Test → List ℕ
test_text t = cmp_text t.cmp ++ (decimal t.than ++ codes ")")

-- ` andThenEither `, the operator's text; the longer texts are unfolded one by one
unfoldable pub and_then_text : List ℕ
and_then_text = codes " andThenEither "

-- the text before the base of an `exponential`
unfoldable pub exponential_text : List ℕ
exponential_text = codes "exponential("

-- the text before a test of the input
unfoldable pub while_input_text : List ℕ
while_input_text = codes ".whileInput("

-- the text before a test of the output
unfoldable pub while_output_text : List ℕ
while_output_text = codes ".whileOutput("

-- the text before the test of a reset
unfoldable pub reset_when_text : List ℕ
reset_when_text = codes ".resetWhen("

-- the spelling of a leaf
abbrev pub leaf_text : Leaf → List ℕ
leaf_text (plain p) = plain_word p
leaf_text (counted c n) = number_text (counted_word c) n
leaf_text (exponential b f) =
    exponential_text ++ (decimal b ++ (codes ", " ++ (decimal f ++ codes ")")))

-- the text between two schedules
abbrev pub pairing_text : Pairing → List ℕ
pairing_text both = codes " && "
pairing_text either = codes " || "
pairing_text and_then = and_then_text

-- the text after a schedule
abbrev pub modifier_text : Modifier → List ℕ
modifier_text (while_input t) = while_input_text ++ test_text t
modifier_text (while_output p t) = while_output_text ++ (pick_text p ++ test_text t)
modifier_text collect_all = codes ".collectAll"
modifier_text (mapped f) = codes ".map(" ++ (func_text f ++ codes ")")
modifier_text (reset_when p t) = reset_when_text ++ (pick_text p ++ test_text t)

-- the spelling that `write` returns
abbrev pub canonical_text : Schedule → List ℕ
canonical_text (leaf l) = leaf_text l
canonical_text (two p a b) = infix_text (canonical_text a) (pairing_text p) (canonical_text b)
canonical_text (over s m) = canonical_text s ++ modifier_text m
