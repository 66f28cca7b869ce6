-- Which token lists spell which terms: one equation for each shape, with numbers of any size.
use Rattle.std.specs.Prelude.{◌≡◌, ℕ, List, [], ◌∷◌, ◌++◌, ◌⊎◌}
use Rattle.zs_term.specs.Schedule.{Schedule, leaf, two, over, Leaf, plain, counted, exponential}
use Rattle.zs_term.specs.Schedule.{Pairing, both, either, and_then, Modifier, while_input}
use Rattle.zs_term.specs.Schedule.{while_output, collect_all, mapped, reset_when}
use Rattle.zs_term.specs.Token.{Token, number, mark}
use Rattle.zs_term.specs.declared.token.Mark.{Mark}
use Rattle.zs_term.specs.declared.token.Mark.TheVariants.{PlainWord, CountedWord, ExponentialWord}
use Rattle.zs_term.specs.declared.token.Mark.TheVariants.{Operator, MethodWord, CollectAllWord}
use Rattle.zs_term.specs.declared.token.Mark.TheVariants.{Comparison, PieceWord, MergeWord}
use Rattle.zs_term.specs.declared.token.Mark.TheVariants.{ScaleWord, Open, Close, Comma, Dot}
use Rattle.zs_term.specs.declared.forms.Infix.TheVariants.{Both, Either, AndThen}
use Rattle.zs_term.specs.declared.forms.Method.{Method}
use Rattle.zs_term.specs.declared.forms.Method.TheVariants.{WhileInput, WhileOutput, Map, ResetWhen}
use Rattle.zs_term.specs.declared.forms.Piece.TheVariants.{First as PieceFirst}
use Rattle.zs_term.specs.declared.forms.Piece.TheVariants.{Second as PieceSecond, Size as PieceSize}
use Rattle.zs_term.specs.declared.forms.Scale.TheVariants.{Constant, Plus, Times}
use Rattle.zs_term.specs.declared.term.Test.{Test}
use Rattle.zs_term.specs.declared.term.Pick.{Pick}
use Rattle.zs_term.specs.declared.term.Pick.TheVariants.{Whole as PickWhole, First as PickFirst}
use Rattle.zs_term.specs.declared.term.Pick.TheVariants.{Second as PickSecond, Size as PickSize}
use Rattle.zs_term.specs.declared.term.Func.{Func}
use Rattle.zs_term.specs.declared.term.Func.TheVariants.{First, Second, Size, Merge, Const, Add}
use Rattle.zs_term.specs.declared.term.Func.TheVariants.{Mul}

-- the token of a pick; nothing for the whole output
abbrev pub pick_tokens : Pick → List Token
pick_tokens PickWhole = []
pick_tokens PickFirst = mark (PieceWord PieceFirst) ∷ []
pick_tokens PickSecond = mark (PieceWord PieceSecond) ∷ []
pick_tokens PickSize = mark (PieceWord PieceSize) ∷ []

-- the tokens of a function
abbrev pub func_tokens : Func → List Token
func_tokens First = mark (PieceWord PieceFirst) ∷ []
func_tokens Second = mark (PieceWord PieceSecond) ∷ []
func_tokens Size = mark (PieceWord PieceSize) ∷ []
func_tokens Merge = mark MergeWord ∷ []
func_tokens (Const n) = mark (ScaleWord Constant) ∷ number n ∷ []
func_tokens (Add n) = mark (ScaleWord Plus) ∷ number n ∷ []
func_tokens (Mul n) = mark (ScaleWord Times) ∷ number n ∷ []

-- `word(N)`
abbrev pub with_number : Mark → ℕ → List Token
with_number word n = mark word ∷ mark Open ∷ number n ∷ mark Close ∷ []

-- `word(N, N)`
abbrev pub with_numbers : Mark → ℕ → ℕ → List Token
with_numbers word m n = mark word ∷ mark Open ∷ number m ∷ mark Comma ∷ number n ∷ mark Close ∷ []

-- `(S op S)`
abbrev pub with_infix : List Token → Mark → List Token → List Token
with_infix left operator right = mark Open ∷ left ++ (mark operator ∷ right ++ mark Close ∷ [])

-- `.word(..)`
abbrev pub with_method : Method → List Token → List Token
with_method word arguments =
    mark Dot ∷ mark (MethodWord word) ∷ mark Open ∷ arguments ++ mark Close ∷ []

-- `C N`, a comparison with a number
abbrev pub test_tokens : Test → List Token
test_tokens t = mark (Comparison t.cmp) ∷ number t.than ∷ []

-- `(S op S)`, with a relation for what spells each S
abbrev pub IsInfix : (List Token → Type 0) → Mark → (List Token → Type 0) → List Token → Type 0
IsInfix Left operator Right tokens =
    (left : List Token) × (right : List Token) × Left left
    × Right right × (tokens ≡ with_infix left operator right)

-- S followed by these tokens, with a relation for what spells S
abbrev pub IsFollowed : (List Token → Type 0) → List Token → List Token → Type 0
IsFollowed Front behind tokens = (front : List Token) × Front front × (tokens ≡ front ++ behind)

-- the tokens spell the leaf
abbrev pub SpellsLeaf : List Token → Leaf → Type 0
SpellsLeaf tokens (plain p) = tokens ≡ mark (PlainWord p) ∷ []
SpellsLeaf tokens (counted c n) = tokens ≡ with_number (CountedWord c) n
SpellsLeaf tokens (exponential b f) = ((tokens ≡ with_number ExponentialWord b) × (f ≡ 2))
    ⊎ (tokens ≡ with_numbers ExponentialWord b f)

-- the token between two schedules
abbrev pub pairing_mark : Pairing → Mark
pairing_mark both = Operator Both
pairing_mark either = Operator Either
pairing_mark and_then = Operator AndThen

-- the tokens after a schedule
abbrev pub modifier_tokens : Modifier → List Token
modifier_tokens (while_input t) = with_method WhileInput (test_tokens t)
modifier_tokens (while_output p t) = with_method WhileOutput (pick_tokens p ++ test_tokens t)
modifier_tokens collect_all = mark Dot ∷ mark CollectAllWord ∷ []
modifier_tokens (mapped f) = with_method Map (func_tokens f)
modifier_tokens (reset_when p t) = with_method ResetWhen (pick_tokens p ++ test_tokens t)

-- the tokens spell the term
abbrev pub Spells : List Token → Schedule → Type 0
Spells tokens (leaf l) = SpellsLeaf tokens l
Spells tokens (two p a b) = IsInfix (λ x. Spells x a) (pairing_mark p) (λ y. Spells y b) tokens
Spells tokens (over s m) = IsFollowed (λ x. Spells x s) (modifier_tokens m) tokens

-- the tokens begin a spelling, or are a whole one
abbrev pub IsOpen : List Token → Type 0
IsOpen tokens = (rest : List Token) × (term : Schedule) × Spells (tokens ++ rest) term
