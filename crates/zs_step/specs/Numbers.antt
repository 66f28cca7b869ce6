-- What tests read of outputs: for private contracts alone.
use Rattle.std.specs.Prelude.{◌≡◌, ℕ, ◌+◌, suc, Option, Some, None, Bool, true, false, ◌⊎◌}
use Rattle.zs_term.specs.declared.term.Func.{Func}
use Rattle.zs_term.specs.declared.term.Func.TheVariants.{First, Second, Size as SizeOf, Merge}
use Rattle.zs_term.specs.declared.term.Func.TheVariants.{Const, Add, Mul}
use Rattle.zs_term.specs.Output.{Output, Outputs, number, pair, left, right, listed, count}
use Rattle.zs_term.specs.Output.{number_in}
use Rattle.zs_step.specs.declared.numbers.Numbers.{Numbers}
use Rattle.zs_step.specs.declared.numbers.Numbers.TheVariants.{One, Two, Mixed, Size, Side}
use Rattle.zs_step.specs.declared.state.State.{State}
use Rattle.zs_step.specs.declared.state.State.TheVariants.{Leaf, Both', Either', AndThen'}
use Rattle.zs_step.specs.declared.state.State.TheVariants.{WhileInput', WhileOutput', CollectAll'}
use Rattle.zs_step.specs.declared.state.State.TheVariants.{Map', ResetWhen'}

-- an output is a pair of outputs with these numbers, or 0 for what is no number
abbrev pub IsPairOf : ℕ → ℕ → Output → Type 0
IsPairOf a b o =
    (x : Output) × (y : Output) × (o ≡ pair x y) × (a ≡ number_in x) × (b ≡ number_in y)

-- what tests read of an output
abbrev pub IsNumbers : Numbers → Output → Type 0
IsNumbers (One n) o = o ≡ number n
IsNumbers (Two a b) o = o ≡ pair (number a) (number b)
IsNumbers (Mixed a b) o = IsPairOf a b o
IsNumbers (Size n) o = (xs : Outputs) × (o ≡ listed xs) × (n ≡ count xs)
IsNumbers Side o = (x : Output) × ((o ≡ left x) ⊎ (o ≡ right x))

-- a number, if the output is one
abbrev pub IsNumber : Option ℕ → Output → Type 0
IsNumber (Some n) o = o ≡ number n
IsNumber None o = number_in o ≡ 0

-- whether a function returns a part of an output, or the content of a side
abbrev pub returns_piece : Func → Bool
returns_piece First = true
returns_piece Second = true
returns_piece SizeOf = false
returns_piece Merge = true
returns_piece (Const n) = false
returns_piece (Add n) = false
returns_piece (Mul n) = false

-- a node that makes its output itself, in place of returning that of a part, or a piece of it
abbrev pub IsSource : State → Type 0
IsSource (Leaf l) = Unit {0}
IsSource (Both' p a b) = Unit {0}
IsSource (Either' p a b) = Unit {0}
IsSource (AndThen' done p a b) = Unit {0}
IsSource (WhileInput' p s t) = ⊥
IsSource (WhileOutput' p s k t) = ⊥
IsSource (CollectAll' p s kept) = Unit {0}
IsSource (Map' p s f) = returns_piece f ≡ false
IsSource (ResetWhen' p s k t) = ⊥

-- the height of a state: a measure for functions that read it
abbrev pub height : State → ℕ
height (Leaf l) = 0
height (Both' p a b) = suc (height a + height b)
height (Either' p a b) = suc (height a + height b)
height (AndThen' done p a b) = suc (height a + height b)
height (WhileInput' p s t) = suc (height s)
height (WhileOutput' p s k t) = suc (height s)
height (CollectAll' p s kept) = suc (height s)
height (Map' p s f) = suc (height s)
height (ResetWhen' p s k t) = suc (height s)
