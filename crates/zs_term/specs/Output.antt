-- Outputs as plain values, and what tests and functions compute from them.
use Rattle.std.specs.Prelude.{◌≡◌, ℕ, ◌+◌, ◌*◌, Bool, not, List, [], ◌∷◌, nat_lt, nat_le, nat_eq}
use Rattle.zs_term.specs.Saturating.{saturated}
use Rattle.zs_term.specs.declared.outputs.Out.{Out, Num, Pair', Left', Right', Items'}
use Rattle.zs_term.specs.declared.outputs.Storage.{Storage, Own', Shared', Row_of-Out, end_of-Out}
use Rattle.zs_term.specs.declared.outputs.Storage.{more_of-Out, items-the_row-Out}
use Rattle.zs_term.specs.declared.outputs.Outs.{Outs}
use Rattle.zs_term.specs.declared.term.Test.{Test}
use Rattle.zs_term.specs.declared.term.Cmp.{Cmp}
use Rattle.zs_term.specs.declared.term.Cmp.TheVariants.{Lt, Le, Eq, Ne, Gt, Ge}
use Rattle.zs_term.specs.declared.term.Pick.{Pick}
use Rattle.zs_term.specs.declared.term.Pick.TheVariants.{Whole, First as PickFirst}
use Rattle.zs_term.specs.declared.term.Pick.TheVariants.{Second as PickSecond, Size as PickSize}
use Rattle.zs_term.specs.declared.term.Func.{Func}
use Rattle.zs_term.specs.declared.term.Func.TheVariants.{First, Second, Size, Merge, Const, Add}
use Rattle.zs_term.specs.declared.term.Func.TheVariants.{Mul}

-- an output, apart from memory: a number, a pair, a side of a choice or a list
mutual
  pub data Output : Type 0 where
    number : ℕ → Output
    pair : Output → Output → Output
    left : Output → Output
    right : Output → Output
    listed : Outputs → Output

  pub data Outputs : Type 0 where
    none : Outputs
    more : Output → Outputs → Outputs

-- the value of an output
abbrev mutual
  pub output_of : Out → Output
  output_of (Num n) = number n
  output_of (Pair' p a q b) = pair (output_of a) (output_of b)
  output_of (Left' p a) = left (output_of a)
  output_of (Right' p a) = right (output_of a)
  output_of (Items' k) = listed (stored_outputs k)

  pub stored_outputs : Storage → Outputs
  stored_outputs (Own' shape all) = row_outputs all
  stored_outputs (Shared' p shape all) = row_outputs all

  pub row_outputs : {m : _} → Row_of-Out m → Outputs
  row_outputs end_of-Out = none
  row_outputs (more_of-Out x rest) = more (output_of x) (row_outputs rest)

-- a list of outputs as values
abbrev pub outputs_of : List Out → Outputs
outputs_of [] = none
outputs_of (x ∷ xs) = more (output_of x) (outputs_of xs)

-- the outputs in a list's memory
abbrev pub stored_list : Storage → List Out
stored_list (Own' shape all) = items-the_row-Out _ all
stored_list (Shared' p shape all) = items-the_row-Out _ all

-- the list of outputs that an `Outs` stores
abbrev pub outs_list : Outs → List Out
outs_list o = stored_list o.storage

-- the values with one appended
abbrev pub with_last : Outputs → Output → Outputs
with_last none y = more y none
with_last (more x xs) y = more x (with_last xs y)

-- the second list is the first with one more output at its end
abbrev pub Appends : List Out → List Out → Out → Type 0
Appends old new out = outputs_of new ≡ with_last (outputs_of old) (output_of out)

-- the number of values
abbrev pub count : Outputs → ℕ
count none = 0
count (more x xs) = 1 + count xs

-- whether a comparison of two numbers is true
abbrev pub compares : Cmp → ℕ → ℕ → Bool
compares Lt x y = nat_lt x y
compares Le x y = nat_le x y
compares Eq x y = nat_eq x y
compares Ne x y = not (nat_eq x y)
compares Gt x y = nat_lt y x
compares Ge x y = nat_le y x

-- whether a number passes a test
abbrev pub passes : Test → ℕ → Bool
passes t x = compares t.cmp x t.than

-- the number, or 0 of any other output
abbrev pub number_in : Output → ℕ
number_in (number n) = n
number_in (pair a b) = 0
number_in (left a) = 0
number_in (right a) = 0
number_in (listed xs) = 0

-- the first part of a pair, or the output itself
abbrev pub first_in : Output → Output
first_in (number n) = number n
first_in (pair a b) = a
first_in (left a) = left a
first_in (right a) = right a
first_in (listed xs) = listed xs

-- the second part of a pair, or the output itself
abbrev pub second_in : Output → Output
second_in (number n) = number n
second_in (pair a b) = b
second_in (left a) = left a
second_in (right a) = right a
second_in (listed xs) = listed xs

-- the number of items of a list, or 0 of any other output
abbrev pub size_in : Output → ℕ
size_in (number n) = 0
size_in (pair a b) = 0
size_in (left a) = 0
size_in (right a) = 0
size_in (listed xs) = count xs

-- the content of a side of a choice, or the output itself
abbrev pub merge_in : Output → Output
merge_in (number n) = number n
merge_in (pair a b) = pair a b
merge_in (left a) = a
merge_in (right a) = a
merge_in (listed xs) = listed xs

-- The number that a test reads of an output. If a pick doesn't fit, `First` and `Second` read the
-- output itself, an output that isn't a number reads as 0, and one that isn't a list has 0 items.
-- No output of a schedule has these cases, since the schedule has a kind.
abbrev pub picked : Pick → Output → ℕ
picked Whole v = number_in v
picked PickFirst v = number_in (first_in v)
picked PickSecond v = number_in (second_in v)
picked PickSize v = size_in v

-- The result of a function. If it doesn't fit, `First`, `Second` and `Merge` return the output
-- itself, `Size` returns 0, and `Add` and `Mul` read an output that isn't a number as 0. No output
-- of a schedule has these cases, since the schedule has a kind.
abbrev pub applied : Func → Output → Output
applied First v = first_in v
applied Second v = second_in v
applied Size v = number (size_in v)
applied Merge v = merge_in v
applied (Const n) v = number n
applied (Add n) v = number (saturated (number_in v + n))
applied (Mul n) v = number (saturated (number_in v * n))
