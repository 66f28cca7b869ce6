-- The outputs of a schedule have its kind.
use Rattle.std.proofs.Common.{◌≡◌, Bool, true, false, Option, Some, None, [], ◌∷◌, refl, sym, ap}
use Rattle.std.proofs.Common.{subst, ◌&&◌, if◌then◌else◌}
use Rattle.zs_term.specs.declared.term.Pick.{Pick}
use Rattle.zs_term.specs.declared.term.Func.{Func}
use Rattle.zs_term.specs.declared.term.Func.TheVariants.{First, Second, Size, Merge, Const, Add}
use Rattle.zs_term.specs.declared.term.Func.TheVariants.{Mul}
use Rattle.zs_term.specs.Output.{Output, Outputs, number, pair, left, right, listed, none, more}
use Rattle.zs_term.specs.Output.{with_last, applied}
use Rattle.zs_term.specs.OutputKind.{OutputKind, num, pair_of, sum_of, list_of, is_same_kind}
use Rattle.zs_term.specs.OutputKind.{HasKind, AllHaveKind}
use Rattle.zs_term.specs.Schedule.{Schedule, leaf, two, over, Leaf, plain, counted, Pairing, both}
use Rattle.zs_term.specs.Schedule.{either, and_then, Modifier, while_input, while_output}
use Rattle.zs_term.specs.Schedule.{collect_all, mapped, reset_when}
use Rattle.zs_term.specs.declared.forms.Plain.TheVariants.{Forever}
use Rattle.zs_term.specs.declared.forms.Counted.TheVariants.{Recurs}
use Rattle.zs_term.specs.Kinds.{kind_of, pairing_kind, modifier_kind, answers, joined, where_fits}
use Rattle.zs_term.specs.Kinds.{list_kind, mapped_kind, fits}
use Rattle.zs_step.specs.History.{History, earlier}
use Rattle.zs_step.specs.Answer.{Answer, leaf_answer, paired, modified, answer_of, is_next}
use Rattle.zs_step.specs.Answer.{from_done, sequel_of, collect_if, collected, since_reset}

-- an output has a kind, if there is one
abbrev pub Has : Output → Option OutputKind → Type 0
Has v None = Unit {0}
Has v (Some a) = HasKind v a

-- the left of a conjunction
pub and-left : (b c : Bool) → (b && c) ≡ true → b ≡ true
and-left true c e = refl
and-left false c e = e

-- the right of a conjunction
pub and-right : (b c : Bool) → (b && c) ≡ true → c ≡ true
and-right true c e = e
and-right false c e = cc

-- kinds that compare as equal are equal
is_same_kind-true : (a b : OutputKind) → is_same_kind a b ≡ true → a ≡ b
is_same_kind-true num num e = refl
is_same_kind-true num (pair_of c d) e = cc
is_same_kind-true num (sum_of c d) e = cc
is_same_kind-true num (list_of c) e = cc
is_same_kind-true (pair_of a b) num e = cc
is_same_kind-true (pair_of a b) (pair_of c d) e =
    let l = is_same_kind-true a c (and-left (is_same_kind a c) (is_same_kind b d) e) in
    let r = is_same_kind-true b d (and-right (is_same_kind a c) (is_same_kind b d) e) in
    cc
is_same_kind-true (pair_of a b) (sum_of c d) e = cc
is_same_kind-true (pair_of a b) (list_of c) e = cc
is_same_kind-true (sum_of a b) num e = cc
is_same_kind-true (sum_of a b) (pair_of c d) e = cc
is_same_kind-true (sum_of a b) (sum_of c d) e =
    let l = is_same_kind-true a c (and-left (is_same_kind a c) (is_same_kind b d) e) in
    let r = is_same_kind-true b d (and-right (is_same_kind a c) (is_same_kind b d) e) in
    cc
is_same_kind-true (sum_of a b) (list_of c) e = cc
is_same_kind-true (list_of a) num e = cc
is_same_kind-true (list_of a) (pair_of c d) e = cc
is_same_kind-true (list_of a) (sum_of c d) e = cc
is_same_kind-true (list_of a) (list_of c) e = ap list_of (is_same_kind-true a c e)

-- a pair
has-pair : (x y : Output) (o p : Option OutputKind) → Has x o → Has y p →
    Has (pair x y) (joined pair_of o p)
has-pair x y None p s t = tt
has-pair x y (Some a) None s t = tt
has-pair x y (Some a) (Some b) s t = (s, t)

-- a left side
has-left : (x : Output) (o p : Option OutputKind) → Has x o → Has (left x) (joined sum_of o p)
has-left x None p s = tt
has-left x (Some a) None s = tt
has-left x (Some a) (Some b) s = s

-- a right side
has-right : (x : Output) (o p : Option OutputKind) → Has x p → Has (right x) (joined sum_of o p)
has-right x None p s = tt
has-right x (Some a) None s = tt
has-right x (Some a) (Some b) s = s

-- one schedule after another
has-sequel : (o : Option History) (a : Answer) (b : History → Answer) (k l : Option OutputKind) →
    Has a.output k → ((h : History) → Has (b h).output l) →
    Has (sequel_of o a b).output (joined sum_of k l)
has-sequel None a b k l s t = has-left a.output k l s
has-sequel (Some g) a b k l s t = has-right (b g).output k l (t g)

-- a pick that fits
has-fits : (k : Pick) (v : Output) (o : Option OutputKind) → Has v o → Has v (where_fits k o)
has-fits k v None s = tt
has-fits k v (Some a) s =
    elim (fits k a) as (λ b. Has v (if b then Some a else None)) [ true ↦ s | false ↦ tt ]

-- one more output at the end of a list
all-with_last : (xs : Outputs) (x : Output) (a : OutputKind) → AllHaveKind xs a → HasKind x a →
    AllHaveKind (with_last xs x) a
all-with_last none x a s t = (t, tt)
all-with_last (more y ys) x a s t = (s.0, all-with_last ys x a s.1 t)

-- one more output, if the schedule continues
all-collect : (b : Bool) (xs : Outputs) (x : Output) (a : OutputKind) → AllHaveKind xs a →
    HasKind x a → AllHaveKind (collect_if b xs x) a
all-collect true xs x a s t = all-with_last xs x a s t
all-collect false xs x a s t = s

-- a collected list
all-collected : (f : History → Answer) (a : OutputKind) → ((h : History) → HasKind (f h).output a) →
    (h : History) → AllHaveKind (collected f h) a
all-collected f a s [] = tt
all-collected f a s (p ∷ h) =
    all-collect (is_next (f (p ∷ h)).decision) (collected f h) (f (p ∷ h)).output a
    (all-collected f a s h) (s (p ∷ h))

-- a collected list, if its outputs have a kind
has-list : (f : History → Answer) (o : Option OutputKind) → ((h : History) → Has (f h).output o) →
    (h : History) → Has (listed (collected f h)) (list_kind o)
has-list f None s h = tt
has-list f (Some a) s h = all-collected f a s h

-- the content of a right side, if both sides have the same kind
has-merged : (x : Output) (a b : OutputKind) (c : Bool) → is_same_kind a b ≡ c → HasKind x b →
    Has x (if c then Some a else None)
has-merged x a b true e s = subst (HasKind x) (sym (is_same_kind-true a b e)) s
has-merged x a b false e s = tt

-- the result of a function over an output with a kind
applied-has : (f : Func) (v : Output) (a : OutputKind) → HasKind v a →
    Has (applied f v) (answers f a)
applied-has First v num s = tt
applied-has First (number n) (pair_of a b) s = absurd s
applied-has First (pair x y) (pair_of a b) s = s.0
applied-has First (left x) (pair_of a b) s = absurd s
applied-has First (right x) (pair_of a b) s = absurd s
applied-has First (listed xs) (pair_of a b) s = absurd s
applied-has First v (sum_of a b) s = tt
applied-has First v (list_of a) s = tt
applied-has Second v num s = tt
applied-has Second (number n) (pair_of a b) s = absurd s
applied-has Second (pair x y) (pair_of a b) s = s.1
applied-has Second (left x) (pair_of a b) s = absurd s
applied-has Second (right x) (pair_of a b) s = absurd s
applied-has Second (listed xs) (pair_of a b) s = absurd s
applied-has Second v (sum_of a b) s = tt
applied-has Second v (list_of a) s = tt
applied-has Size v num s = tt
applied-has Size v (pair_of a b) s = tt
applied-has Size v (sum_of a b) s = tt
applied-has Size v (list_of a) s = tt
applied-has Merge v num s = tt
applied-has Merge v (pair_of a b) s = tt
applied-has Merge (number n) (sum_of a b) s = absurd s
applied-has Merge (pair x y) (sum_of a b) s = absurd s
applied-has Merge (left x) (sum_of a b) s =
    elim (is_same_kind a b) as (λ c. Has x (if c then Some a else None)) [ true ↦ s | false ↦ tt ]
applied-has Merge (right x) (sum_of a b) s = has-merged x a b (is_same_kind a b) refl s
applied-has Merge (listed xs) (sum_of a b) s = absurd s
applied-has Merge v (list_of a) s = tt
applied-has (Const n) v num s = tt
applied-has (Const n) v (pair_of a b) s = tt
applied-has (Const n) v (sum_of a b) s = tt
applied-has (Const n) v (list_of a) s = tt
applied-has (Add n) v num s = tt
applied-has (Add n) v (pair_of a b) s = tt
applied-has (Add n) v (sum_of a b) s = tt
applied-has (Add n) v (list_of a) s = tt
applied-has (Mul n) v num s = tt
applied-has (Mul n) v (pair_of a b) s = tt
applied-has (Mul n) v (sum_of a b) s = tt
applied-has (Mul n) v (list_of a) s = tt

-- the result of a function, if it has a kind
has-applied : (f : Func) (v : Output) (o : Option OutputKind) → Has v o →
    Has (applied f v) (mapped_kind f o)
has-applied f v None s = tt
has-applied f v (Some a) s = applied-has f v a s

-- each leaf's output is a number
leaf-has : (l : Leaf) (h : History) → HasKind (leaf_answer l h).output num
leaf-has (plain Forever) h = tt
leaf-has (counted Recurs n) h = tt
leaf-has _ h = tt

-- two schedules
paired-has : (p : Pairing) (a b : History → Answer) (k l : Option OutputKind) →
    ((h : History) → Has (a h).output k) → ((h : History) → Has (b h).output l) →
    (h : History) → Has (paired p a b h).output (joined (pairing_kind p) k l)
paired-has both a b k l s t h = has-pair (a h).output (b h).output k l (s h) (t h)
paired-has either a b k l s t h = has-pair (a h).output (b h).output k l (s h) (t h)
paired-has and_then a b k l s t h = has-sequel (from_done a h) (a h) b k l (s h) t

-- one schedule
modified-has : (m : Modifier) (a : History → Answer) (o : Option OutputKind) →
    ((h : History) → Has (a h).output o) → (h : History) →
    Has (modified m a h).output (modifier_kind m o)
modified-has (while_input t) a o s h = s h
modified-has (while_output k t) a o s h = has-fits k (a h).output o (s h)
modified-has collect_all a o s h = has-list a o s (earlier h)
modified-has (mapped f) a o s h = has-applied f (a h).output o (s h)
modified-has (reset_when k t) a o s h =
    has-fits k (a (since_reset a k t h)).output o (s (since_reset a k t h))

-- the output of every schedule has its kind, if there is one
pub answer_of-has : (t : Schedule) (h : History) → Has (answer_of t h).output (kind_of t)
answer_of-has (leaf l) h = leaf-has l h
answer_of-has (two p a b) h =
    paired-has p (answer_of a) (answer_of b) (kind_of a) (kind_of b) (λ g. answer_of-has a g)
    (λ g. answer_of-has b g) h
answer_of-has (over s m) h = modified-has m (answer_of s) (kind_of s) (λ g. answer_of-has s g) h

-- every output of a schedule with a kind has that kind
pub answer_of-has_kind : (t : Schedule) (a : OutputKind) (h : History) → kind_of t ≡ Some a →
    HasKind (answer_of t h).output a
answer_of-has_kind t a h e = subst (Has (answer_of t h).output) e (answer_of-has t h)
