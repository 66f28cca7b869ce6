-- The parser as a machine: its state after some tokens is what is open and what may come next. It
-- holds for every way of composing parts (`Make`).
use Rattle.std.specs.Prelude.{ℕ, List, [], ◌∷◌, Option, Some, None, option_map}
use Rattle.zs_term.specs.Schedule.{Schedule, leaf, two, over, Leaf, plain, counted, exponential}
use Rattle.zs_term.specs.Schedule.{Pairing, both, either, and_then, while_input, while_output}
use Rattle.zs_term.specs.Schedule.{collect_all, mapped, reset_when, Modifier}
use Rattle.zs_term.specs.Token.{Token, number, mark}
use Rattle.zs_term.specs.declared.token.Mark.{Mark}
use Rattle.zs_term.specs.declared.token.Mark.TheVariants.{PlainWord, CountedWord, ExponentialWord}
use Rattle.zs_term.specs.declared.token.Mark.TheVariants.{Operator, MethodWord, CollectAllWord}
use Rattle.zs_term.specs.declared.token.Mark.TheVariants.{Comparison, PieceWord, MergeWord}
use Rattle.zs_term.specs.declared.token.Mark.TheVariants.{ScaleWord, Open, Close, Comma, Dot}
use Rattle.zs_term.specs.declared.term.Test.{Test}
use Rattle.zs_term.specs.declared.term.Cmp.{Cmp}
use Rattle.zs_term.specs.declared.term.Pick.{Pick}
use Rattle.zs_term.specs.declared.term.Pick.TheVariants.{Whole as PickWhole, First as PickFirst}
use Rattle.zs_term.specs.declared.term.Pick.TheVariants.{Second as PickSecond, Size as PickSize}
use Rattle.zs_term.specs.declared.term.Func.{Func}
use Rattle.zs_term.specs.declared.term.Func.TheVariants.{First, Second, Size, Merge, Const, Add}
use Rattle.zs_term.specs.declared.term.Func.TheVariants.{Mul}
use Rattle.zs_term.specs.declared.forms.Plain.{Plain}
use Rattle.zs_term.specs.declared.forms.Counted.{Counted}
use Rattle.zs_term.specs.declared.forms.Infix.{Infix}
use Rattle.zs_term.specs.declared.forms.Infix.TheVariants.{Both, Either, AndThen}
use Rattle.zs_term.specs.declared.forms.Method.{Method}
use Rattle.zs_term.specs.declared.forms.Method.TheVariants.{WhileInput, WhileOutput, Map, ResetWhen}
use Rattle.zs_term.specs.declared.forms.Action.{Action}
use Rattle.zs_term.specs.declared.forms.Action.TheVariants.{Stopping, Resetting}
use Rattle.zs_term.specs.declared.forms.Subject.{Subject}
use Rattle.zs_term.specs.declared.forms.Subject.TheVariants.{Input, Picked}
use Rattle.zs_term.specs.declared.forms.Piece.{Piece}
use Rattle.zs_term.specs.declared.forms.Piece.TheVariants.{First as PieceFirst}
use Rattle.zs_term.specs.declared.forms.Piece.TheVariants.{Second as PieceSecond, Size as PieceSize}
use Rattle.zs_term.specs.declared.forms.Scale.{Scale}
use Rattle.zs_term.specs.declared.forms.Scale.TheVariants.{Constant, Plus, Times}

-- the piece as what a test reads
abbrev pub piece_pick : Piece → Pick
piece_pick PieceFirst = PickFirst
piece_pick PieceSecond = PickSecond
piece_pick PieceSize = PickSize

-- the piece as a function
abbrev pub piece_func : Piece → Func
piece_func PieceFirst = First
piece_func PieceSecond = Second
piece_func PieceSize = Size

-- the function with a number
abbrev pub scale_by : Scale → ℕ → Func
scale_by Constant n = Const n
scale_by Plus n = Add n
scale_by Times n = Mul n

-- how terms are composed as values of A, from numbers as values of N
pub record Make (A N : Type 0) : Type 0 where
  pub num : ℕ → N
  pub plain : Plain → A
  pub counted : Counted → N → A
  pub growing : N → N → A
  pub join : Infix → A → A → A
  pub test : A → Subject → Cmp → N → A
  pub collect : A → A
  pub apply : A → Func → A
  pub scale : A → Scale → N → A

-- the part of an infix form that was read: `(`, or `(S op`
pub data Frame (A : Type 0) : Type 0 where
  left : Frame A
  right : Infix → A → Frame A

-- what was read since the innermost frame, which determines what may come next
pub data Stage (A N : Type 0) : Type 0 where
  start : Stage A N
  opening : Counted → Stage A N
  counting : Counted → Stage A N
  exp_opening : Stage A N
  exp_counting : Stage A N
  based : N → Stage A N
  factored : N → Stage A N
  closing : A → Stage A N
  after : A → Stage A N
  dotted : A → Stage A N
  method : Method → A → Stage A N
  picking : Action → A → Stage A N
  testing : A → Subject → Stage A N
  comparing : A → Subject → Cmp → Stage A N
  mapping : A → Stage A N
  scaling : A → Scale → Stage A N

-- a state: the open infix forms, the innermost first, and what was read since
pub record State (A N : Type 0) : Type 0 where
  pub frames : List (Frame A)
  pub stage : Stage A N

-- the state of these frames and this stage
abbrev pub at : {A N : Type 0} → List (Frame A) → Stage A N → State A N
at fs m = record { frames = fs; stage = m }

-- the stage after `.word(`
abbrev pub argument : {A N : Type 0} → Method → A → Stage A N
argument WhileInput a = testing a Input
argument WhileOutput a = picking Stopping a
argument Map a = mapping a
argument ResetWhen a = picking Resetting a

-- the first token of a term, if it isn't `(`
abbrev pub begin_leaf : {A N : Type 0} → Make A N → Mark → Option (Stage A N)
begin_leaf make (PlainWord p) = Some (after (make.plain p))
begin_leaf make (CountedWord c) = Some (opening c)
begin_leaf make ExponentialWord = Some exp_opening
begin_leaf make _ = None

-- `(`, which leads to a stage
abbrev pub open_mark : {A N : Type 0} → Stage A N → Mark → Option (Stage A N)
open_mark next Open = Some next
open_mark next _ = None

-- `)`, which leads to a stage
abbrev pub close_mark : {A N : Type 0} → Stage A N → Mark → Option (Stage A N)
close_mark next Close = Some next
close_mark next _ = None

-- the token after `exponential(N`
abbrev pub base_mark : {A N : Type 0} → Make A N → N → Mark → Option (Stage A N)
base_mark make n Close = Some (after (make.growing n (make.num 2)))
base_mark make n Comma = Some (factored n)
base_mark make n _ = None

-- the token after `S.`
abbrev pub dot_mark : {A N : Type 0} → Make A N → A → Mark → Option (Stage A N)
dot_mark make a CollectAllWord = Some (after (make.collect a))
dot_mark make a (MethodWord k) = Some (method k a)
dot_mark make a _ = None

-- a pick, or a comparison of the whole output
abbrev pub pick_mark : {A N : Type 0} → Action → A → Mark → Option (Stage A N)
pick_mark e a (PieceWord p) = Some (testing a (Picked e (piece_pick p)))
pick_mark e a (Comparison c) = Some (comparing a (Picked e PickWhole) c)
pick_mark e a _ = None

-- a comparison
abbrev pub test_mark : {A N : Type 0} → A → Subject → Mark → Option (Stage A N)
test_mark a s (Comparison c) = Some (comparing a s c)
test_mark a s _ = None

-- a function, or the word of one with a number
abbrev pub map_mark : {A N : Type 0} → Make A N → A → Mark → Option (Stage A N)
map_mark make a (PieceWord p) = Some (closing (make.apply a (piece_func p)))
map_mark make a MergeWord = Some (closing (make.apply a Merge))
map_mark make a (ScaleWord g) = Some (scaling a g)
map_mark make a _ = None

-- a word or symbol within a form
abbrev pub inner_mark : {A N : Type 0} → Make A N → Stage A N → Mark → Option (Stage A N)
inner_mark make (opening c) m = open_mark (counting c) m
inner_mark make exp_opening m = open_mark exp_counting m
inner_mark make (based n) m = base_mark make n m
inner_mark make (closing a) m = close_mark (after a) m
inner_mark make (dotted a) m = dot_mark make a m
inner_mark make (method k a) m = open_mark (argument k a) m
inner_mark make (picking e a) m = pick_mark e a m
inner_mark make (testing a s) m = test_mark a s m
inner_mark make (mapping a) m = map_mark make a m
inner_mark make _ m = None

-- a number within a form
abbrev pub inner_number : {A N : Type 0} → Make A N → Stage A N → N → Option (Stage A N)
inner_number make (counting c) n = Some (closing (make.counted c n))
inner_number make exp_counting n = Some (based n)
inner_number make (factored b) n = Some (closing (make.growing b n))
inner_number make (comparing a s c) n = Some (closing (make.test a s c n))
inner_number make (scaling a g) n = Some (closing (make.scale a g n))
inner_number make _ n = None

-- the operator after the left part of an infix form
abbrev pub operator_mark : {A N : Type 0} → List (Frame A) → A → Mark → Option (State A N)
operator_mark fs a (Operator i) = Some (at (right i a ∷ fs) start)
operator_mark fs a _ = None

-- the token after a whole term in a frame
abbrev pub join_mark : {A N : Type 0} → Make A N → List (Frame A) → A → Mark → Option (State A N)
join_mark make [] a m = None
join_mark make (left ∷ fs) a m = operator_mark fs a m
join_mark make (right i a ∷ fs) b m =
    option_map (λ next. at fs next) (close_mark (after (make.join i a b)) m)

-- `(` or a leaf, at which a term begins
abbrev pub start_mark : {A N : Type 0} → Make A N → List (Frame A) → Mark → Option (State A N)
start_mark make fs Open = Some (at (left ∷ fs) start)
start_mark make fs m = option_map (λ next. at fs next) (begin_leaf make m)

-- the token after a whole term
abbrev pub after_mark : {A N : Type 0} → Make A N → List (Frame A) → A → Mark → Option (State A N)
after_mark make fs a Dot = Some (at fs (dotted a))
after_mark make fs a m = join_mark make fs a m

-- the state after a word or symbol, if it may come
abbrev pub step_mark : {A N : Type 0} → Make A N
    → List (Frame A) → Stage A N → Mark → Option (State A N)
step_mark make fs start m = start_mark make fs m
step_mark make fs (after a) m = after_mark make fs a m
step_mark make fs k m = option_map (λ next. at fs next) (inner_mark make k m)

-- the state after a number, if it may come
abbrev pub step_number : {A N : Type 0} → Make A N
    → List (Frame A) → Stage A N → N → Option (State A N)
step_number make fs k n = option_map (λ next. at fs next) (inner_number make k n)

-- the state after one more token, if there is one
abbrev pub step : {A N : Type 0} → Make A N → Option (State A N) → Token → Option (State A N)
step make None t = None
step make (Some s) (number n) = step_number make s.frames s.stage (make.num n)
step make (Some s) (mark m) = step_mark make s.frames s.stage m

-- the state after some tokens, if there is one
abbrev pub run : {A N : Type 0} → Make A N → Option (State A N) → List Token → Option (State A N)
run make s [] = s
run make s (t ∷ ts) = run make (step make s t) ts

-- the value of a function over a part, with its number if it has one
abbrev pub apply_func : {A N : Type 0} → Make A N → A → Func → A
apply_func make a (Const n) = make.scale a Constant (make.num n)
apply_func make a (Add n) = make.scale a Plus (make.num n)
apply_func make a (Mul n) = make.scale a Times (make.num n)
apply_func make a First = make.apply a First
apply_func make a Second = make.apply a Second
apply_func make a Size = make.apply a Size
apply_func make a Merge = make.apply a Merge

-- the value of a leaf
abbrev pub leaf_value : {A N : Type 0} → Make A N → Leaf → A
leaf_value make (plain p) = make.plain p
leaf_value make (counted c n) = make.counted c (make.num n)
leaf_value make (exponential b f) = make.growing (make.num b) (make.num f)

-- the infix form of an operator
abbrev pub pairing_infix : Pairing → Infix
pairing_infix both = Both
pairing_infix either = Either
pairing_infix and_then = AndThen

-- the value of a modifier over a part
abbrev pub modifier_value : {A N : Type 0} → Make A N → A → Modifier → A
modifier_value make a (while_input t) = make.test a Input t.cmp (make.num t.than)
modifier_value make a (while_output p t) = make.test a (Picked Stopping p) t.cmp (make.num t.than)
modifier_value make a collect_all = make.collect a
modifier_value make a (mapped f) = apply_func make a f
modifier_value make a (reset_when p t) = make.test a (Picked Resetting p) t.cmp (make.num t.than)

-- the value of a whole term
abbrev pub value : {A N : Type 0} → Make A N → Schedule → A
value make (leaf l) = leaf_value make l
value make (two p a b) = make.join (pairing_infix p) (value make a) (value make b)
value make (over s m) = modifier_value make (value make s) m

-- the operator between two schedules
abbrev pub infix_pairing : Infix → Pairing
infix_pairing Both = both
infix_pairing Either = either
infix_pairing AndThen = and_then

-- the modifier of a test
abbrev pub test_modifier : Subject → Test → Modifier
test_modifier Input t = while_input t
test_modifier (Picked Stopping p) t = while_output p t
test_modifier (Picked Resetting p) t = reset_when p t

-- composes terms as plain schedules
abbrev pub plant : Make Schedule ℕ
plant = record {
  num = λ n. n;
  plain = λ p. leaf (plain p);
  counted = λ c n. leaf (counted c n);
  growing = λ b f. leaf (exponential b f);
  join = λ i a b. two (infix_pairing i) a b;
  test = λ a s c n. over a (test_modifier s (record { cmp = c; than = n }));
  collect = λ a. over a collect_all;
  apply = λ a f. over a (mapped f);
  scale = λ a g n. over a (mapped (scale_by g n));
}
