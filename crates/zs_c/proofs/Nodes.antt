-- The code of a schedule is read as its node.
use Rattle.std.proofs.Common.{◌≡◌, ℕ, List, refl, sym, ap, ◌∙◌, subst}
use Rattle.zs_term.specs.Schedule.{Schedule, leaf, two, over, both, either, and_then, while_input}
use Rattle.zs_term.specs.Schedule.{while_output, collect_all, mapped, reset_when}
use Rattle.zs_term.specs.declared.term.Cmp.{Cmp}
use Rattle.zs_term.specs.declared.term.Cmp.TheVariants.{Lt, Le, Eq, Ne, Gt, Ge}
use Rattle.zs_term.specs.declared.term.Test.{Test}
use Rattle.zs_term.specs.declared.term.Pick.{Pick}
use Rattle.zs_term.specs.declared.term.Pick.TheVariants.{Whole, First as PickFirst}
use Rattle.zs_term.specs.declared.term.Pick.TheVariants.{Second as PickSecond, Size as PickSize}
use Rattle.zs_term.specs.declared.term.Func.{Func}
use Rattle.zs_term.specs.declared.term.Func.TheVariants.{First, Second, Size, Merge, Const, Add}
use Rattle.zs_term.specs.declared.term.Func.TheVariants.{Mul}
use Rattle.zs_c.specs.declared.program.node.Form.{Form}
use Rattle.zs_c.specs.Code.{cmp_word, pick_word, func_word, func_number, code_of}
use Rattle.zs_c.specs.Form.{cmp_of, test_of, pick_of, func_of, node_at, IsNode}
use Rattle.zs_c.proofs.Leaves.{leaf-node}

-- a comparison
pub cmp-word : (c : Cmp) → cmp_of (cmp_word c) ≡ c
cmp-word Lt = refl
cmp-word Le = refl
cmp-word Eq = refl
cmp-word Ne = refl
cmp-word Gt = refl
cmp-word Ge = refl

-- a test
pub test-word : (t : Test) → test_of (cmp_word t.cmp) t.than ≡ t
test-word t = let f : Cmp → Test = λ c. record { cmp = c; than = t.than } in ap f (cmp-word t.cmp)

-- what a test reads
pub pick-word : (k : Pick) → pick_of (pick_word k) ≡ k
pick-word Whole = refl
pick-word PickFirst = refl
pick-word PickSecond = refl
pick-word PickSize = refl

-- a function
pub func-word : (f : Func) → func_of (func_word f) (func_number f) ≡ f
func-word First = refl
func-word Second = refl
func-word Size = refl
func-word Merge = refl
func-word (Const n) = refl
func-word (Add n) = refl
func-word (Mul n) = refl

-- a pick and a test
pub pick-test-over : (f : Pick → Test → Schedule) (k : Pick) (t : Test) →
    f (pick_of (pick_word k)) (test_of (cmp_word t.cmp) t.than) ≡ f k t
pick-test-over f k t =
    ap (λ x. f x (test_of (cmp_word t.cmp) t.than)) (pick-word k) ∙ ap (f k) (test-word t)

-- the code of a schedule is read as the node at the schedule's root
pub code-node : (t : Schedule) → IsNode (node_at (code_of t)) t
unfolding node_at
code-node (leaf l) = leaf-node l
code-node (two both a b) = (a, b, refl, refl)
code-node (two either a b) = (a, b, refl, refl)
code-node (two and_then a b) = (a, b, refl, refl)
code-node (over s (while_input t)) = (s, ap (λ x. over s (while_input x)) (sym (test-word t)))
code-node (over s (while_output k t)) =
    (s, sym (pick-test-over (λ x y. over s (while_output x y)) k t))
code-node (over s (mapped f)) = (s, ap (λ x. over s (mapped x)) (sym (func-word f)))
code-node (over s (reset_when k t)) = (s, sym (pick-test-over (λ x y. over s (reset_when x y)) k t))
code-node (over s collect_all) = (s, refl)

-- the same for words that are a schedule's code
pub read-node : (t : Schedule) (code : List ℕ) (n : Form) → n ≡ node_at code →
    code ≡ code_of t → IsNode n t
read-node t code n is coded = subst (λ x. IsNode x t) (sym (is ∙ ap node_at coded)) (code-node t)
