-- Kinds as plain data, and which outputs have them.
use Rattle.std.specs.Prelude.{Bool, true, false, ◌&&◌}
use Rattle.zs_term.specs.declared.kind.Kind.{Kind}
use Rattle.zs_term.specs.declared.kind.Kind.TheVariants.{Num, Pair', Sum', Items'}
use Rattle.zs_term.specs.Output.{Output, Outputs, number, pair, left, right, listed, none, more}

-- a kind, apart from memory
pub data OutputKind : Type 0 where
  num : OutputKind
  pair_of : OutputKind → OutputKind → OutputKind
  sum_of : OutputKind → OutputKind → OutputKind
  list_of : OutputKind → OutputKind

-- the kind that the code stores, as plain data
abbrev pub output_kind_of : Kind → OutputKind
output_kind_of Num = num
output_kind_of (Pair' p a q b) = pair_of (output_kind_of a) (output_kind_of b)
output_kind_of (Sum' p a q b) = sum_of (output_kind_of a) (output_kind_of b)
output_kind_of (Items' p a) = list_of (output_kind_of a)

-- whether two kinds are equal
abbrev pub is_same_kind : OutputKind → OutputKind → Bool
is_same_kind num num = true
is_same_kind num (pair_of c d) = false
is_same_kind num (sum_of c d) = false
is_same_kind num (list_of c) = false
is_same_kind (pair_of a b) num = false
is_same_kind (pair_of a b) (pair_of c d) = is_same_kind a c && is_same_kind b d
is_same_kind (pair_of a b) (sum_of c d) = false
is_same_kind (pair_of a b) (list_of c) = false
is_same_kind (sum_of a b) num = false
is_same_kind (sum_of a b) (pair_of c d) = false
is_same_kind (sum_of a b) (sum_of c d) = is_same_kind a c && is_same_kind b d
is_same_kind (sum_of a b) (list_of c) = false
is_same_kind (list_of a) num = false
is_same_kind (list_of a) (pair_of c d) = false
is_same_kind (list_of a) (sum_of c d) = false
is_same_kind (list_of a) (list_of c) = is_same_kind a c

-- an output has a kind
abbrev mutual
  pub HasKind : Output → OutputKind → Type 0
  HasKind (number n) num = Unit {0}
  HasKind (number n) (pair_of a b) = ⊥
  HasKind (number n) (sum_of a b) = ⊥
  HasKind (number n) (list_of a) = ⊥
  HasKind (pair x y) num = ⊥
  HasKind (pair x y) (pair_of a b) = HasKind x a × HasKind y b
  HasKind (pair x y) (sum_of a b) = ⊥
  HasKind (pair x y) (list_of a) = ⊥
  HasKind (left x) num = ⊥
  HasKind (left x) (pair_of a b) = ⊥
  HasKind (left x) (sum_of a b) = HasKind x a
  HasKind (left x) (list_of a) = ⊥
  HasKind (right x) num = ⊥
  HasKind (right x) (pair_of a b) = ⊥
  HasKind (right x) (sum_of a b) = HasKind x b
  HasKind (right x) (list_of a) = ⊥
  HasKind (listed xs) num = ⊥
  HasKind (listed xs) (pair_of a b) = ⊥
  HasKind (listed xs) (sum_of a b) = ⊥
  HasKind (listed xs) (list_of a) = AllHaveKind xs a

  pub AllHaveKind : Outputs → OutputKind → Type 0
  AllHaveKind none a = Unit {0}
  AllHaveKind (more x xs) a = HasKind x a × AllHaveKind xs a
