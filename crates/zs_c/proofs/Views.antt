-- A view shows the output that the words of a place represent, by the node of its code.
use Rattle.std.proofs.Common.{◌≡◌, ◌⊎◌, ℕ, ◌-◌, List, take, drop, inl, inr, sym, ap, ◌∙◌, subst}
use Rattle.std.proofs.Common.{arith}
use Rattle.zs_term.specs.Output.{Output, number, number_in, applied}
use Rattle.zs_term.specs.Schedule.{Schedule, leaf, two, over, both, either, and_then, while_input}
use Rattle.zs_term.specs.Schedule.{while_output, collect_all, mapped, reset_when}
use Rattle.zs_term.specs.declared.term.Test.{Test}
use Rattle.zs_term.specs.declared.term.Pick.{Pick}
use Rattle.zs_term.specs.declared.term.Func.{Func}
use Rattle.zs_term.proofs.Sizes.{depth-positive}
use Rattle.zs_step.specs.declared.leaf.Leaf.{Leaf}
use Rattle.zs_step.specs.LeafState.{state_leaf}
use Rattle.zs_step.specs.History.{earlier}
use Rattle.zs_step.specs.Answer.{answer_of, leaf_answer, collected}
use Rattle.zs_c.specs.declared.program.node.Sizes.{Sizes}
use Rattle.zs_c.specs.declared.program.node.Form.{Form}
use Rattle.zs_c.specs.declared.program.node.Form.TheVariants.{Leaf as NodeLeaf, Both, Either}
use Rattle.zs_c.specs.declared.program.node.Form.TheVariants.{AndThen, WhileInput, WhileOutput, Map}
use Rattle.zs_c.specs.declared.program.node.Form.TheVariants.{ResetWhen, CollectAll}
use Rattle.zs_c.specs.declared.program.outputs.Place.{Place}
use Rattle.zs_c.specs.declared.program.outputs.View.TheVariants.{Pair, Left, Right, Size}
use Rattle.zs_c.specs.Code.{IsCode, held_of}
use Rattle.zs_c.specs.Form.{node_at, IsNode}
use Rattle.zs_c.specs.Leaves.{word_at}
use Rattle.zs_c.specs.View.{Tells, PlaceTells, Shows}
use Rattle.zs_c.proofs.Leaves.{leaf-number}
use Rattle.zs_c.proofs.Nodes.{read-node}
use Rattle.zs_c.proofs.ViewLemmas.{TellsParts, both-tells, either-tells, left-tells, right-tells}
use Rattle.zs_c.proofs.ViewLemmas.{while_input-tells, while_output-tells, reset_when-tells}
use Rattle.zs_c.proofs.ViewLemmas.{mapped-tells}

-- the same for equal words
pub tells-at : (code other words others : List ℕ) (n m : ℕ) (o : Output) → code ≡ other →
    words ≡ others → n ≡ m → Tells other others m o → Tells code words n o
tells-at code other words others n m o coded worded same t = record {
  term = t.term;
  history = t.history;
  coded = record { is = coded ∙ t.coded.is; deep = omega (arith, t.coded.deep, same) };
  held = worded ∙ t.held;
  output = t.output;
}

-- a schedule has some level
pub no-levels : (code words : List ℕ) (levels : ℕ) (o : Output) → levels ≡ 0 →
    Tells code words levels o → ⊥
no-levels code words levels o none t = omega (arith, t.coded.deep, none, depth-positive t.term)

-- the node of a code is at the root of the schedule
pub told-node : (code words : List ℕ) (levels : ℕ) (o : Output) (n m : Form) → n ≡ node_at code →
    n ≡ m → (t : Tells code words levels o) → IsNode m t.term
told-node code words levels o n m read is t =
    subst (λ x. IsNode x t.term) is (read-node t.term code n read t.coded.is)

-- the same, for an equal schedule
pub told-as : (code words : List ℕ) (levels : ℕ) (o : Output) (t : Tells code words levels o)
    (u : Schedule) → t.term ≡ u →
    IsCode u code levels × (words ≡ held_of u t.history) × (o ≡ (answer_of u t.history).output)
told-as code words levels o t u is = (
  subst (λ x. IsCode x code levels) is t.coded,
  t.held ∙ ap (λ x. held_of x t.history) is,
  t.output ∙ ap (λ x. (answer_of x t.history).output) is,
)

-- a leaf's output is its first word
pub leaf-shows : (l : Leaf) (code words : List ℕ) (levels w : ℕ) (o : Output) (n : Form) →
    n ≡ node_at code → n ≡ NodeLeaf l → w ≡ word_at words 0 →
    Tells code words levels o → o ≡ number w
leaf-shows l code words levels w o n read is first t =
    let u = told-as code words levels o t (leaf (state_leaf l))
    (told-node code words levels o n (NodeLeaf l) read is t).0 in
    let h = t.history in
    let same : word_at words 0 ≡ number_in (leaf_answer (state_leaf l) h).output =
    ap (λ x. word_at x 0) u.1 in
    u.2 ∙ leaf-number (state_leaf l) h ∙ ap number (sym (first ∙ same))

-- the size of a list is the first word
pub list-shows : (code words : List ℕ) (levels w : ℕ) (o : Output) (n : Form) → n ≡ node_at code →
    n ≡ CollectAll → w ≡ word_at words 0 →
    Tells code words levels o → Shows (Size w) o
list-shows code words levels w o n read is first t =
    let node = told-node code words levels o n CollectAll read is t in
    let u = told-as code words levels o t (over node.0 collect_all) node.1 in
    (collected (answer_of node.0) (earlier t.history), u.2, first ∙ ap (λ x. word_at x 0) u.1)

-- two places that are the parts of one, and whose words begin at an index
pub record ArePartsOf (s : Sizes) (p a b : Place) (at : ℕ) : Type 0 where
  pub first_code : a.code.now ≡ take s.code (drop 3 p.code.now)
  pub second_code : b.code.now ≡ drop s.code (drop 3 p.code.now)
  pub first_words : a.words.now ≡ take s.state (drop at p.words.now)
  pub second_words : b.words.now ≡ drop s.state (drop at p.words.now)
  pub first_levels : a.levels ≡ p.levels - 1
  pub second_levels : b.levels ≡ p.levels - 1

-- both places represent outputs
parts-told : (s : Sizes) (p a b : Place) (x y : Output) → ArePartsOf s p a b 0 →
    TellsParts s p.code.now p.words.now p.levels x y → PlaceTells a x × PlaceTells b y
parts-told s p a b x y are t = (
  tells-at a.code.now (take s.code (drop 3 p.code.now)) a.words.now (take s.state p.words.now)
      a.levels (p.levels - 1) x are.first_code are.first_words are.first_levels t.first,
  tells-at b.code.now (drop s.code (drop 3 p.code.now)) b.words.now (drop s.state p.words.now)
      b.levels (p.levels - 1) y are.second_code are.second_words are.second_levels t.second,
)

-- the parts of `&&`
both-shows : (s : Sizes) (p a b : Place) (o : Output) (n : Form) → n ≡ node_at p.code.now →
    n ≡ Both s → ArePartsOf s p a b 0 → PlaceTells p o → Shows (Pair a b) o
both-shows s p a b o n read is are t =
    let node = told-node p.code.now p.words.now p.levels o n (Both s) read is t in
    let u = told-as p.code.now p.words.now p.levels o t (two both node.0 node.1) node.2 in
    let w = both-tells node.0 node.1 t.history p.code.now p.words.now p.levels s o u.0
    node.3 u.1 u.2 in
    let x = (answer_of node.0 t.history).output in
    let y = (answer_of node.1 t.history).output in
    let told = parts-told s p a b x y are w.1 in
    (x, y, w.0, told.0, told.1)

-- the parts of `||`
either-shows : (s : Sizes) (p a b : Place) (o : Output) (n : Form) → n ≡ node_at p.code.now →
    n ≡ Either s → ArePartsOf s p a b 0 → PlaceTells p o → Shows (Pair a b) o
either-shows s p a b o n read is are t =
    let node = told-node p.code.now p.words.now p.levels o n (Either s) read is t in
    let u = told-as p.code.now p.words.now p.levels o t (two either node.0 node.1) node.2 in
    let w = either-tells node.0 node.1 t.history p.code.now p.words.now p.levels s o u.0
    node.3 u.1 u.2 in
    let x = (answer_of node.0 t.history).output in
    let y = (answer_of node.1 t.history).output in
    let told = parts-told s p a b x y are w.1 in
    (x, y, w.0, told.0, told.1)

-- the parts of an operator that steps both
pub pair-shows : (s : Sizes) (p a b : Place) (o : Output) (n : Form) → n ≡ node_at p.code.now →
    (n ≡ Both s) ⊎ (n ≡ Either s) → ArePartsOf s p a b 0 → PlaceTells p o → Shows (Pair a b) o
pair-shows s p a b o n read is are t = elim is [
  | inl w ↦ both-shows s p a b o n read w are t
  | inr w ↦ either-shows s p a b o n read w are t
]

-- the first part of `andThenEither`, while it is active
pub left-shows : (s : Sizes) (p a b : Place) (o : Output) (n : Form) → n ≡ node_at p.code.now →
    n ≡ AndThen s → ArePartsOf s p a b 1 → word_at p.words.now 0 ≡ 0 →
    PlaceTells p o → Shows (Left a) o
left-shows s p a b o n read is are zeroed t =
    let node = told-node p.code.now p.words.now p.levels o n (AndThen s) read is t in
    let u = told-as p.code.now p.words.now p.levels o t (two and_then node.0 node.1) node.2 in
    let w = left-tells node.0 node.1 t.history p.code.now p.words.now p.levels s o u.0 node.3 u.1
    u.2 zeroed in
    let x = (answer_of node.0 t.history).output in (
      x,
      w.0,
      tells-at a.code.now (take s.code (drop 3 p.code.now)) a.words.now
          (take s.state (drop 1 p.words.now)) a.levels (p.levels - 1) x
          are.first_code are.first_words are.first_levels w.1,
    )

-- and the second from then on
pub right-shows : (s : Sizes) (p a b : Place) (o : Output) (n : Form) → n ≡ node_at p.code.now →
    n ≡ AndThen s → ArePartsOf s p a b 1 → (word_at p.words.now 0 ≡ 0 → ⊥) →
    PlaceTells p o → Shows (Right b) o
right-shows s p a b o n read is are other t =
    let node = told-node p.code.now p.words.now p.levels o n (AndThen s) read is t in
    let u = told-as p.code.now p.words.now p.levels o t (two and_then node.0 node.1) node.2 in
    let w = right-tells node.0 node.1 t.history p.code.now p.words.now p.levels s o u.0 node.3 u.1
    u.2 other in (
      w.0,
      w.1,
      tells-at b.code.now (drop s.code (drop 3 p.code.now)) b.words.now
          (drop s.state (drop 1 p.words.now)) b.levels (p.levels - 1) w.0
          are.second_code are.second_words are.second_levels w.2,
    )

-- a place that is the part of one
pub record IsPartOf (p a : Place) (at : ℕ) : Type 0 where
  pub code : a.code.now ≡ drop at p.code.now
  pub words : a.words.now ≡ p.words.now
  pub levels : a.levels ≡ p.levels - 1

-- the part of an operator that returns its part's output
pub while_input-part : (x : Test) (p a : Place) (o : Output) (n : Form) → n ≡ node_at p.code.now →
    n ≡ WhileInput x → IsPartOf p a 3 → PlaceTells p o → PlaceTells a o
while_input-part x p a o n read is part t =
    let node = told-node p.code.now p.words.now p.levels o n (WhileInput x) read is t in
    let u = told-as p.code.now p.words.now p.levels o t (over node.0 (while_input x)) node.1 in
    tells-at a.code.now (drop 3 p.code.now) a.words.now p.words.now a.levels (p.levels - 1) o
    part.code part.words part.levels
    (while_input-tells node.0 x t.history p.code.now p.words.now p.levels o u.0 u.1 u.2)

pub while_output-part : (k : Pick) (x : Test) (p a : Place) (o : Output) (n : Form) →
    n ≡ node_at p.code.now → n ≡ WhileOutput k x → IsPartOf p a 4 → PlaceTells p o → PlaceTells a o
while_output-part k x p a o n read is part t =
    let node = told-node p.code.now p.words.now p.levels o n (WhileOutput k x) read is t in
    let u = told-as p.code.now p.words.now p.levels o t (over node.0 (while_output k x)) node.1 in
    tells-at a.code.now (drop 4 p.code.now) a.words.now p.words.now a.levels (p.levels - 1) o
    part.code part.words part.levels
    (while_output-tells node.0 k x t.history p.code.now p.words.now p.levels o u.0 u.1 u.2)

pub reset_when-part : (k : Pick) (x : Test) (p a : Place) (o : Output) (n : Form) →
    n ≡ node_at p.code.now → n ≡ ResetWhen k x → IsPartOf p a 4 → PlaceTells p o → PlaceTells a o
reset_when-part k x p a o n read is part t =
    let node = told-node p.code.now p.words.now p.levels o n (ResetWhen k x) read is t in
    let u = told-as p.code.now p.words.now p.levels o t (over node.0 (reset_when k x)) node.1 in
    tells-at a.code.now (drop 4 p.code.now) a.words.now p.words.now a.levels (p.levels - 1) o
    part.code part.words part.levels
    (reset_when-tells node.0 k x t.history p.code.now p.words.now p.levels o u.0 u.1 u.2)

-- the part of `.map`, and the function of its output
pub mapped-part : (f : Func) (p a : Place) (o : Output) (n : Form) → n ≡ node_at p.code.now →
    n ≡ Map f → IsPartOf p a 3 → PlaceTells p o →
    (x : Output) × (o ≡ applied f x) × PlaceTells a x
mapped-part f p a o n read is part t =
    let node = told-node p.code.now p.words.now p.levels o n (Map f) read is t in
    let u = told-as p.code.now p.words.now p.levels o t (over node.0 (mapped f)) node.1 in
    let w = mapped-tells node.0 f t.history p.code.now p.words.now p.levels o u.0 u.1 u.2 in
    let x = (answer_of node.0 t.history).output in (
      x,
      w.0,
      tells-at a.code.now (drop 3 p.code.now) a.words.now p.words.now a.levels (p.levels - 1)
          x part.code part.words part.levels w.1,
    )
