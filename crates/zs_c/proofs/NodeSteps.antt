-- The effect of a node by the effects of its parts: before any step, and at one.
use Rattle.std.proofs.Common.{◌≡◌, ℕ, suc, ◌+◌, ◌-◌, ◌<◌, ◌≤◌, Bool, true, false, ◌⊎◌, inl, inr}
use Rattle.std.proofs.Common.{List, [], ◌∷◌, ◌++◌, length, take, drop, get_or, refl, sym, ap, ◌∙◌}
use Rattle.std.proofs.Common.{subst, arith}
use Rattle.std.proofs.lemmas.List.{length-append}
use Rattle.std.specs.Prelude.{slice_set}
use borrow.Rule.Slice.PartMut.{put_mid}
use Rattle.zs_term.specs.Output.{Output, count, passes, picked}
use Rattle.zs_term.specs.Schedule.{Schedule, Pairing, leaf, two, over, both, either, and_then}
use Rattle.zs_term.specs.Schedule.{while_input, while_output, collect_all, mapped, reset_when}
use Rattle.zs_term.specs.Schedule.{weight}
use Rattle.zs_term.specs.declared.term.Test.{Test}
use Rattle.zs_term.specs.declared.term.Pick.{Pick}
use Rattle.zs_term.specs.declared.term.Func.{Func}
use Rattle.zs_term.proofs.Sizes.{depth-positive, weight-positive}
use Rattle.zs_step.specs.declared.decision.Decision.{Decision}
use Rattle.zs_step.specs.History.{History, earlier}
use Rattle.zs_step.specs.declared.leaf.Leaf.{Leaf as LeafState}
use Rattle.zs_step.specs.LeafState.{state_leaf}
use Rattle.zs_step.specs.Answer.{answer_of, leaf_answer, since_reset, later_of, earlier_of, only_if}
use Rattle.zs_step.specs.Answer.{collected}
use Rattle.zs_c.specs.declared.program.node.Sizes.{Sizes}
use Rattle.zs_c.specs.declared.program.node.Form.{Form}
use Rattle.zs_c.specs.declared.program.node.Form.TheVariants.{Leaf, Both, Either, AndThen}
use Rattle.zs_c.specs.declared.program.node.Form.TheVariants.{WhileInput, WhileOutput, Map}
use Rattle.zs_c.specs.declared.program.node.Form.TheVariants.{ResetWhen, CollectAll}
use Rattle.zs_c.specs.Code.{IsCode, held_of, held_size, leaf_held}
use Rattle.zs_c.specs.Form.{node_at, sizes_of, IsNode, IsParts}
use Rattle.zs_c.specs.Leaves.{new_leaf}
use Rattle.zs_c.specs.Shown.{IsCountable}
use Rattle.zs_c.specs.Steps.{StepsCode, StepsBoth, StepsThen, size_after}
use Rattle.zs_c.specs.View.{Tells}
use Rattle.zs_c.proofs.Codes.{first-code, second-code, part-code, held-length}
use Rattle.zs_c.proofs.Counts.{countable-first, countable-second, countable-part, countable-since}
use Rattle.zs_c.proofs.Counts.{countable-none, count-turn}
use Rattle.zs_c.proofs.Nodes.{read-node}
use Rattle.zs_c.proofs.Pieces.{list-arg, list-kept, list-set, list-new}
use Rattle.zs_c.proofs.StepLemmas.{both-steps, either-steps, then-steps, while_input-steps}
use Rattle.zs_c.proofs.StepLemmas.{while_output-steps, mapped-steps, reset-stays, reset-begins}
use Rattle.zs_c.proofs.StepLemmas.{reset-room}

-- a code that is read as a node is that of a schedule with this node at its root
pub coded-node : (t : Schedule) (code : List ℕ) (levels : ℕ) (n m : Form) → IsCode t code levels →
    n ≡ node_at code → n ≡ m → IsNode m t
coded-node t code levels n m coded read is =
    subst (λ x. IsNode x t) is (read-node t code n read coded.is)

-- the same code at another place
pub code-at : (t : Schedule) (code other : List ℕ) (levels : ℕ) → code ≡ other →
    IsCode t other levels → IsCode t code levels
code-at t code other levels is coded = record { is = is ∙ coded.is; deep = coded.deep }

-- a schedule has some level
pub code-deep : (t : Schedule) (code : List ℕ) (levels : ℕ) → IsCode t code levels → levels ≡ 0 → ⊥
code-deep t code levels coded none = omega (arith, coded.deep, none, depth-positive t)

-- the parts of an operator between two schedules
pub parts-of : (p : Pairing) (a b : Schedule) (code : List ℕ) (levels : ℕ) (n : Sizes) →
    IsCode (two p a b) code levels → n ≡ sizes_of a → IsParts a b n code (levels - 1)
parts-of p a b code levels n coded sized =
    let size : n.code ≡ (sizes_of a).code = ap (λ (z : Sizes). z.code) sized in
    record {
      sizes = sized;
      first = first-code p a b code levels n.code coded size;
      second = second-code p a b code levels n.code coded size;
    }

-- the effect of clearing the words of a code
abbrev pub Clears : Schedule → List ℕ → List ℕ → Type 0
Clears t old new = length old ≡ held_size t → new ≡ held_of t []

-- the same for an equal schedule
pub clears-as : (t u : Schedule) (old new : List ℕ) → t ≡ u → Clears u old new → Clears t old new
clears-as t u old new is clears = subst (λ x. Clears x old new) (sym is) clears

-- two parts
pub both-size : (a b : Schedule) (old : List ℕ) →
    length old ≡ length (held_of a [] ++ held_of b []) → length old ≡ held_size a + held_size b
both-size a b old sized = sized ∙ length-append (held_of a []) (held_of b [])

-- the parts of a code that is read as `&&` or `||`
pub together-clears : (t : Schedule) (code old new : List ℕ) (levels : ℕ) (n : Form) (s : Sizes) →
    IsCode t code levels → n ≡ node_at code → (n ≡ Both s) ⊎ (n ≡ Either s) →
    ((a b : Schedule) → IsParts a b s code (levels - 1) → length old ≡ held_size a + held_size b →
    new ≡ held_of a [] ++ held_of b []) → Clears t old new
together-clears t code old new levels n s coded read is parts =
    elim is [
      | inl e ↦ let m = coded-node t code levels n (Both s) coded read e in
          let c = subst (λ x. IsCode x code levels) m.2 coded in
          clears-as t (two both m.0 m.1) old new m.2
          (λ z. parts m.0 m.1 (parts-of both m.0 m.1 code levels s c m.3)
          (both-size m.0 m.1 old z))
      | inr e ↦ let m = coded-node t code levels n (Either s) coded read e in
          let c = subst (λ x. IsCode x code levels) m.2 coded in
          clears-as t (two either m.0 m.1) old new m.2
          (λ z. parts m.0 m.1 (parts-of either m.0 m.1 code levels s c m.3)
          (both-size m.0 m.1 old z))
    ]

-- the parts of a code that is read as `andThenEither`, after their first word
then-size : (a b : Schedule) (n : ℕ) → n ≡ suc (length (held_of a [] ++ held_of b [])) →
    n ≡ suc (held_size a + held_size b)
then-size a b n sized = omega (arith, sized, length-append (held_of a []) (held_of b []))

pub then-clears : (t : Schedule) (code old new rest : List ℕ) (levels : ℕ) (n : Form) (s : Sizes) →
    IsCode t code levels → n ≡ node_at code → n ≡ AndThen s →
    ((a b : Schedule) → IsParts a b s code (levels - 1) →
    length old ≡ suc (held_size a + held_size b) → rest ≡ held_of a [] ++ held_of b []) →
    (1 ≤ length old → new ≡ 0 ∷ rest) → Clears t old new
then-clears t code old new rest levels n s coded read is parts whole =
    let m = coded-node t code levels n (AndThen s) coded read is in
    let c = subst (λ x. IsCode x code levels) m.2 coded in
    clears-as t (two and_then m.0 m.1) old new m.2
    (λ z. whole (omega (arith, z)) ∙ ap (λ (w : List ℕ). 0 ∷ w)
    (parts m.0 m.1 (parts-of and_then m.0 m.1 code levels s c m.3)
    (then-size m.0 m.1 (length old) z)))

-- a state of `collectAll` has its two sizes
pub list-few : (t : Schedule) (code words : List ℕ) (levels : ℕ) (n : Form) → IsCode t code levels →
    n ≡ node_at code → n ≡ CollectAll → length words ≡ held_size t → length words < 2 → ⊥
list-few t code words levels n coded read is sized few =
    let m = coded-node t code levels n CollectAll coded read is in
    let long : 2 ≤ held_size t = subst (λ x. 2 ≤ held_size x) (sym m.1) (omega arith) in
    omega (arith, long, sized, few)

-- the part of a code that is read as `collectAll`, after its sizes
pub list-clears : (t : Schedule) (code other old new rest : List ℕ) (levels : ℕ) (n : Form) →
    IsCode t code levels → n ≡ node_at code → other ≡ drop 1 code → n ≡ CollectAll →
    ((s : Schedule) → IsCode s other (levels - 1) → length old ≡ suc (suc (held_size s)) →
    rest ≡ held_of s []) → (2 ≤ length old → new ≡ 0 ∷ (0 ∷ rest)) → Clears t old new
list-clears t code other old new rest levels n coded read at is part whole =
    let m = coded-node t code levels n CollectAll coded read is in
    let c = subst (λ x. IsCode x code levels) m.1 coded in
    clears-as t (over m.0 collect_all) old new m.1
    (λ z. whole (omega (arith, z)) ∙ ap (λ (w : List ℕ). 0 ∷ (0 ∷ w))
    (part m.0 (code-at m.0 other (drop 1 code) (levels - 1) at
    (part-code collect_all m.0 code levels 1 c refl)) z))

-- the part of a code that is read as an operator over it
pub three-clears : (t : Schedule) (code other old new : List ℕ) (levels : ℕ) (n : Form) →
    IsCode t code levels → n ≡ node_at code → other ≡ drop 3 code →
    ((x : Test) × (n ≡ WhileInput x)) ⊎ ((f : Func) × (n ≡ Map f)) →
    ((s : Schedule) → IsCode s other (levels - 1) → Clears s old new) → Clears t old new
three-clears t code other old new levels n coded read at is part =
    elim is [
      | inl e ↦ let m = coded-node t code levels n (WhileInput e.0) coded read e.1 in
          let c = subst (λ x. IsCode x code levels) m.1 coded in
          clears-as t (over m.0 (while_input e.0)) old new m.1
          (part m.0 (code-at m.0 other (drop 3 code) (levels - 1) at
          (part-code (while_input e.0) m.0 code levels 3 c refl)))
      | inr e ↦ let m = coded-node t code levels n (Map e.0) coded read e.1 in
          let c = subst (λ x. IsCode x code levels) m.1 coded in
          clears-as t (over m.0 (mapped e.0)) old new m.1
          (part m.0 (code-at m.0 other (drop 3 code) (levels - 1) at
          (part-code (mapped e.0) m.0 code levels 3 c refl)))
    ]

pub four-clears : (t : Schedule) (code other old new : List ℕ) (levels : ℕ) (n : Form) →
    IsCode t code levels → n ≡ node_at code → other ≡ drop 4 code →
    ((k : Pick) × (x : Test) × (n ≡ WhileOutput k x))
    ⊎ ((k : Pick) × (x : Test) × (n ≡ ResetWhen k x)) →
    ((s : Schedule) → IsCode s other (levels - 1) → Clears s old new) → Clears t old new
four-clears t code other old new levels n coded read at is part =
    elim is [
      | inl e ↦ let m = coded-node t code levels n (WhileOutput e.0 e.1) coded read e.2 in
          let c = subst (λ x. IsCode x code levels) m.1 coded in
          clears-as t (over m.0 (while_output e.0 e.1)) old new m.1
          (part m.0 (code-at m.0 other (drop 4 code) (levels - 1) at
          (part-code (while_output e.0 e.1) m.0 code levels 4 c refl)))
      | inr e ↦ let m = coded-node t code levels n (ResetWhen e.0 e.1) coded read e.2 in
          let c = subst (λ x. IsCode x code levels) m.1 coded in
          clears-as t (over m.0 (reset_when e.0 e.1)) old new m.1
          (part m.0 (code-at m.0 other (drop 4 code) (levels - 1) at
          (part-code (reset_when e.0 e.1) m.0 code levels 4 c refl)))
    ]

-- the effect of clearing a leaf
pub leaf-clears : (t : Schedule) (code old new : List ℕ) (levels : ℕ) (n : Form) (l : LeafState) →
    IsCode t code levels → n ≡ node_at code → n ≡ Leaf l →
    (l ≡ new_leaf (state_leaf l) → length old ≡ length (leaf_held (state_leaf l) []) →
    new ≡ leaf_held (state_leaf l) []) → Clears t old new
leaf-clears t code old new levels n l coded read is clears =
    let m = coded-node t code levels n (Leaf l) coded read is in
    clears-as t (leaf (state_leaf l)) old new m.0 (clears m.1)

-- a step of an equal schedule
steps-as : (t u : Schedule) (h : History) (words : List ℕ) (now input : ℕ) (d : Decision)
    (before after : ℕ) → t ≡ u →
    StepsCode u h words now input d before after → StepsCode t h words now input d before after
steps-as t u h words now input d before after is steps =
    subst (λ x. StepsCode x h words now input d before after) (sym is) steps

-- a schedule has some weight
pub code-heavy : (t : Schedule) (before most : ℕ) → before + weight t ≤ most → most ≤ before → ⊥
code-heavy t before most room full = omega (arith, room, full, weight-positive t)

-- a step of a leaf
pub leaf-node : (t : Schedule) (h : History) (code old new : List ℕ) (levels now input : ℕ)
    (d : Decision) (before after : ℕ) (n : Form) (l : LeafState) →
    IsCode t code levels → n ≡ node_at code → n ≡ Leaf l → old ≡ held_of t h →
    ((g : History) → old ≡ leaf_held (state_leaf l) g →
    new ≡ leaf_held (state_leaf l) ((now, input) ∷ g)) →
    ((g : History) → old ≡ leaf_held (state_leaf l) g →
    d ≡ (leaf_answer (state_leaf l) ((now, input) ∷ g)).decision) →
    after ≡ before + 1 → StepsCode t h new now input d before after
leaf-node t h code old new levels now input d before after n l coded read is held steps
    decides counted =
    let m = (coded-node t code levels n (Leaf l) coded read is).0 in
    let first : old ≡ leaf_held (state_leaf l) h = held ∙ ap (λ x. held_of x h) m in
    steps-as t (leaf (state_leaf l)) h new now input d before after m
    (record { held = steps h first; decides = decides h first; visited = counted })

-- the step of both parts, by their code
abbrev pub PartsStep : Sizes → List ℕ → ℕ → ℕ → List ℕ → List ℕ → ℕ → ℕ → Decision → Decision →
    ℕ → ℕ → Type 0
PartsStep s code levels most old new now input x y before after =
    (a b : Schedule) (g : History) → IsParts a b s code levels →
    before + weight a + weight b ≤ most → IsCountable a g → IsCountable b g →
    old ≡ held_of a g ++ held_of b g →
    StepsBoth a b g new now input x y before after

-- a step of `&&`
pub both-node : (t : Schedule) (h : History) (code old new : List ℕ) (levels now input : ℕ)
    (x y d : Decision) (before after most : ℕ) (n : Form) (s : Sizes) →
    IsCode t code levels → n ≡ node_at code → n ≡ Both s → before + weight t ≤ most →
    IsCountable t h → old ≡ held_of t h →
    PartsStep s code (levels - 1) most old new now input x y (before + 1) after → d ≡ later_of x y →
    StepsCode t h new now input d before after
both-node t h code old new levels now input x y d before after most n s coded read is room countable
    held parts later =
    let m = coded-node t code levels n (Both s) coded read is in
    let c = subst (λ z. IsCode z code levels) m.2 coded in
    let fits : before + weight (two both m.0 m.1) ≤ most =
    subst (λ z. before + weight z ≤ most) m.2 room in
    let all = subst (λ z. IsCountable z h) m.2 countable in
    steps-as t (two both m.0 m.1) h new now input d before after m.2
    (both-steps m.0 m.1 h new now input x y d before after
    (parts m.0 m.1 h (parts-of both m.0 m.1 code levels s c m.3) (omega (arith, fits))
    (countable-first both m.0 m.1 h all) (countable-second both m.0 m.1 h all)
    (held ∙ ap (λ z. held_of z h) m.2)) later)

-- a step of `||`
pub either-node : (t : Schedule) (h : History) (code old new : List ℕ) (levels now input : ℕ)
    (x y d : Decision) (before after most : ℕ) (n : Form) (s : Sizes) →
    IsCode t code levels → n ≡ node_at code → n ≡ Either s → before + weight t ≤ most →
    IsCountable t h → old ≡ held_of t h →
    PartsStep s code (levels - 1) most old new now input x y (before + 1) after →
    d ≡ earlier_of x y → StepsCode t h new now input d before after
either-node t h code old new levels now input x y d before after most n s coded read is room
    countable held parts earlier =
    let m = coded-node t code levels n (Either s) coded read is in
    let c = subst (λ z. IsCode z code levels) m.2 coded in
    let fits : before + weight (two either m.0 m.1) ≤ most =
    subst (λ z. before + weight z ≤ most) m.2 room in
    let all = subst (λ z. IsCountable z h) m.2 countable in
    steps-as t (two either m.0 m.1) h new now input d before after m.2
    (either-steps m.0 m.1 h new now input x y d before after
    (parts m.0 m.1 h (parts-of either m.0 m.1 code levels s c m.3) (omega (arith, fits))
    (countable-first either m.0 m.1 h all) (countable-second either m.0 m.1 h all)
    (held ∙ ap (λ z. held_of z h) m.2)) earlier)

-- a step of `andThenEither`
pub then-node : (t : Schedule) (h : History) (code old new : List ℕ) (levels now input : ℕ)
    (d : Decision) (before after most : ℕ) (n : Form) (s : Sizes) →
    IsCode t code levels → n ≡ node_at code → n ≡ AndThen s → before + weight t ≤ most →
    IsCountable t h → old ≡ held_of t h →
    ((a b : Schedule) (g : History) → IsParts a b s code (levels - 1) →
    before + 1 + weight a + weight b ≤ most → IsCountable a g → IsCountable b g →
    old ≡ held_of (two and_then a b) g →
    StepsThen a b g new now input d (before + 1) after) → StepsCode t h new now input d before after
then-node t h code old new levels now input d before after most n s coded read is room countable
    held parts =
    let m = coded-node t code levels n (AndThen s) coded read is in
    let c = subst (λ z. IsCode z code levels) m.2 coded in
    let fits : before + weight (two and_then m.0 m.1) ≤ most =
    subst (λ z. before + weight z ≤ most) m.2 room in
    let all = subst (λ z. IsCountable z h) m.2 countable in
    steps-as t (two and_then m.0 m.1) h new now input d before after m.2
    (then-steps m.0 m.1 h new now input d before after
    (parts m.0 m.1 h (parts-of and_then m.0 m.1 code levels s c m.3) (omega (arith, fits))
    (countable-first and_then m.0 m.1 h all) (countable-second and_then m.0 m.1 h all)
    (held ∙ ap (λ z. held_of z h) m.2)))

-- the step of a part, by its code
abbrev pub PartSteps : List ℕ → ℕ → ℕ → List ℕ → List ℕ → ℕ → ℕ → Decision → ℕ → ℕ → Type 0
PartSteps code levels most old new now input d before after =
    (s : Schedule) (g : History) → IsCode s code levels → before + weight s ≤ most →
    IsCountable s g → old ≡ held_of s g → StepsCode s g new now input d before after

-- a step of `.whileInput`
pub while_input-node : (t : Schedule) (h : History) (code other old new : List ℕ)
    (levels now input : ℕ) (x d : Decision) (before after most : ℕ) (n : Form) (q : Test)
    (passed : Bool) →
    IsCode t code levels → n ≡ node_at code → n ≡ WhileInput q → other ≡ drop 3 code →
    before + weight t ≤ most → IsCountable t h → old ≡ held_of t h →
    PartSteps other (levels - 1) most old new now input x (before + 1) after →
    passed ≡ passes q input → d ≡ only_if passed x →
    StepsCode t h new now input d before after
while_input-node t h code other old new levels now input x d before after most n q passed coded read
    is at room countable held part tested kept =
    let m = coded-node t code levels n (WhileInput q) coded read is in
    let c = subst (λ z. IsCode z code levels) m.1 coded in
    let fits : before + weight (over m.0 (while_input q)) ≤ most =
    subst (λ z. before + weight z ≤ most) m.1 room in
    let all = subst (λ z. IsCountable z h) m.1 countable in
    let p = part m.0 h (code-at m.0 other (drop 3 code) (levels - 1) at
    (part-code (while_input q) m.0 code levels 3 c refl)) (omega (arith, fits))
    (countable-part (while_input q) m.0 h all) (held ∙ ap (λ z. held_of z h) m.1) in
    steps-as t (over m.0 (while_input q)) h new now input d before after m.1
    (while_input-steps m.0 q h new now input x d before after p
    (kept ∙ ap (λ (z : Bool). only_if z x) tested))

-- a step of `.map`
pub mapped-node : (t : Schedule) (h : History) (code other old new : List ℕ) (levels now input : ℕ)
    (d : Decision) (before after most : ℕ) (n : Form) (f : Func) →
    IsCode t code levels → n ≡ node_at code → n ≡ Map f → other ≡ drop 3 code →
    before + weight t ≤ most → IsCountable t h → old ≡ held_of t h →
    PartSteps other (levels - 1) most old new now input d (before + 1) after →
    StepsCode t h new now input d before after
mapped-node t h code other old new levels now input d before after most n f coded read is at room
    countable held part =
    let m = coded-node t code levels n (Map f) coded read is in
    let c = subst (λ z. IsCode z code levels) m.1 coded in
    let fits : before + weight (over m.0 (mapped f)) ≤ most =
    subst (λ z. before + weight z ≤ most) m.1 room in
    let all = subst (λ z. IsCountable z h) m.1 countable in
    let p = part m.0 h (code-at m.0 other (drop 3 code) (levels - 1) at
    (part-code (mapped f) m.0 code levels 3 c refl)) (omega (arith, fits))
    (countable-part (mapped f) m.0 h all) (held ∙ ap (λ z. held_of z h) m.1) in
    steps-as t (over m.0 (mapped f)) h new now input d before after m.1
    (mapped-steps m.0 f h new now input d before after p)

-- whether the output of a part's step passes a test
abbrev pub IsPassed : Bool → Pick → Test → List ℕ → List ℕ → ℕ → Type 0
IsPassed passed k q code words levels = (o : Output) → Tells code words levels o →
    passed ≡ passes q (picked k o)

-- a step of `.whileOutput`
pub while_output-node : (t : Schedule) (h : History) (code other old new : List ℕ)
    (levels now input : ℕ) (x d : Decision) (before after most : ℕ) (n : Form) (k : Pick) (q : Test)
    (passed : Bool) →
    IsCode t code levels → n ≡ node_at code → n ≡ WhileOutput k q → other ≡ drop 4 code →
    before + weight t ≤ most → IsCountable t h → old ≡ held_of t h →
    PartSteps other (levels - 1) most old new now input x (before + 1) after →
    IsPassed passed k q other new (levels - 1) → d ≡ only_if passed x →
    StepsCode t h new now input d before after
while_output-node t h code other old new levels now input x d before after most n k q passed coded
    read is at room countable held part tested kept =
    let m = coded-node t code levels n (WhileOutput k q) coded read is in
    let c = subst (λ z. IsCode z code levels) m.1 coded in
    let fits : before + weight (over m.0 (while_output k q)) ≤ most =
    subst (λ z. before + weight z ≤ most) m.1 room in
    let all = subst (λ z. IsCountable z h) m.1 countable in
    let there = code-at m.0 other (drop 4 code) (levels - 1) at
    (part-code (while_output k q) m.0 code levels 4 c refl) in
    let p = part m.0 h there (omega (arith, fits)) (countable-part (while_output k q) m.0 h all)
    (held ∙ ap (λ z. held_of z h) m.1) in
    let o = (answer_of m.0 ((now, input) ∷ h)).output in
    let passes_so = tested o (record {
      term = m.0;
      history = (now, input) ∷ h;
      coded = there;
      held = p.held;
      output = refl;
    }) in
    steps-as t (over m.0 (while_output k q)) h new now input d before after m.1
    (while_output-steps m.0 k q h new now input x d before after p
    (kept ∙ ap (λ (z : Bool). only_if z x) passes_so))

-- a step of `.resetWhen` that doesn't reset
pub reset-stays-node : (t : Schedule) (h : History) (code other old new : List ℕ)
    (levels now input : ℕ) (d : Decision) (before after most : ℕ) (n : Form) (k : Pick) (q : Test)
    (passed : Bool) →
    IsCode t code levels → n ≡ node_at code → n ≡ ResetWhen k q → other ≡ drop 4 code →
    before + weight t ≤ most → IsCountable t h → old ≡ held_of t h →
    PartSteps other (levels - 1) most old new now input d (before + 1) after →
    IsPassed passed k q other new (levels - 1) → passed ≡ false →
    StepsCode t h new now input d before after
reset-stays-node t h code other old new levels now input d before after most n k q passed coded read
    is at room countable held part tested stays =
    let m = coded-node t code levels n (ResetWhen k q) coded read is in
    let c = subst (λ z. IsCode z code levels) m.1 coded in
    let fits : before + weight (over m.0 (reset_when k q)) ≤ most =
    subst (λ z. before + weight z ≤ most) m.1 room in
    let all = subst (λ z. IsCountable z h) m.1 countable in
    let there = code-at m.0 other (drop 4 code) (levels - 1) at
    (part-code (reset_when k q) m.0 code levels 4 c refl) in
    let g = since_reset (answer_of m.0) k q h in
    let p = part m.0 g there (omega (arith, fits)) (countable-since k q m.0 h all)
    (held ∙ ap (λ z. held_of z h) m.1) in
    let o = (answer_of m.0 ((now, input) ∷ g)).output in
    let passes_so = tested o (record {
      term = m.0;
      history = (now, input) ∷ g;
      coded = there;
      held = p.held;
      output = refl;
    }) in
    steps-as t (over m.0 (reset_when k q)) h new now input d before after m.1
    (reset-stays m.0 k q h new now input d before after p (sym passes_so ∙ stays))

-- a step of `.resetWhen` that resets
pub reset-begins-node : (t : Schedule) (h : History) (code other old first mid new : List ℕ)
    (levels now input : ℕ) (x d : Decision) (before between after most : ℕ) (n : Form) (k : Pick)
    (q : Test) (passed : Bool) →
    IsCode t code levels → n ≡ node_at code → n ≡ ResetWhen k q → other ≡ drop 4 code →
    before + weight t ≤ most → IsCountable t h → old ≡ held_of t h →
    PartSteps other (levels - 1) most old first now input x (before + 1) between →
    IsPassed passed k q other first (levels - 1) → passed ≡ true →
    ((s : Schedule) → IsCode s other (levels - 1) → Clears s first mid) →
    PartSteps other (levels - 1) most mid new now input d between after →
    StepsCode t h new now input d before after
reset-begins-node t h code other old first mid new levels now input x d before between after most n
    k q passed coded read is at room countable held part tested resets clears again =
    let m = coded-node t code levels n (ResetWhen k q) coded read is in
    let c = subst (λ z. IsCode z code levels) m.1 coded in
    let fits : before + weight (over m.0 (reset_when k q)) ≤ most =
    subst (λ z. before + weight z ≤ most) m.1 room in
    let all = subst (λ z. IsCountable z h) m.1 countable in
    let there = code-at m.0 other (drop 4 code) (levels - 1) at
    (part-code (reset_when k q) m.0 code levels 4 c refl) in
    let g = since_reset (answer_of m.0) k q h in
    let p = part m.0 g there (omega (arith, fits)) (countable-since k q m.0 h all)
    (held ∙ ap (λ z. held_of z h) m.1) in
    let o = (answer_of m.0 ((now, input) ∷ g)).output in
    let passes_so = tested o (record {
      term = m.0;
      history = (now, input) ∷ g;
      coded = there;
      held = p.held;
      output = refl;
    }) in
    let sized = ap length p.held ∙ held-length m.0 ((now, input) ∷ g) [] in
    let left = reset-room m.0 g first now input x before between most p (omega (arith, fits)) in
    let second = again m.0 [] there left (countable-none m.0) (clears m.0 there sized) in
    steps-as t (over m.0 (reset_when k q)) h new now input d before after m.1
    (reset-begins m.0 k q h first new now input x d before between after p
    (sym passes_so ∙ resets) second)

-- a step of `.collectAll`
pub list-node : (t : Schedule) (h : History) (code other old xn : List ℕ) (levels now input : ℕ)
    (d : Decision) (before after most n m : ℕ) (f : Form) →
    IsCode t code levels → f ≡ node_at code → f ≡ CollectAll → other ≡ drop 1 code →
    before + weight t ≤ most → IsCountable t h → old ≡ held_of t h →
    PartSteps other (levels - 1) most (take (length old - 2) (drop 2 old)) xn now input d
    (before + 1) after → n ≡ get_or (put_mid 2 (length old - 2) old xn) 1 0 →
    m ≡ size_after (get_or (slice_set (put_mid 2 (length old - 2) old xn) 0 n) 1 0) d →
    StepsCode t h (slice_set (slice_set (put_mid 2 (length old - 2) old xn) 0 n) 1 m) now input d
    before after
list-node t h code other old xn levels now input d before after most n m f coded read is at room
    countable held part sized grown =
    let node = coded-node t code levels f CollectAll coded read is in
    let s = node.0 in
    let c = subst (λ z. IsCode z code levels) node.1 coded in
    let fits : before + weight (over s collect_all) ≤ most =
    subst (λ z. before + weight z ≤ most) node.1 room in
    let all = subst (λ z. IsCountable z h) node.1 countable in
    let there = code-at s other (drop 1 code) (levels - 1) at
    (part-code collect_all s code levels 1 c refl) in
    let first = count (collected (answer_of s) (earlier h)) in
    let second = count (collected (answer_of s) h) in
    let words : old ≡ first ∷ (second ∷ held_of s h) = held ∙ ap (λ z. held_of z h) node.1 in
    let p = part s h there (omega (arith, fits)) (countable-part collect_all s h all)
    (list-arg old (held_of s h) first second words) in
    let shown : n ≡ second = sized ∙ list-kept old (held_of s h) xn first second words in
    let next : m ≡ count (collected (answer_of s) ((now, input) ∷ h)) =
    grown ∙ count-turn s h (now, input) d _ all
    (list-set old (held_of s h) xn first second n words) p.decides in
    steps-as t (over s collect_all) h _ now input d before after node.1 (record {
      held = list-new old (held_of s h) xn first second n m words ∙ ap (λ k. k ∷ (m ∷ xn)) shown
          ∙ ap (λ k. second ∷ (k ∷ xn)) next
          ∙ ap (λ (z : List ℕ). second
          ∷ (count (collected (answer_of s) ((now, input) ∷ h)) ∷ z)) p.held;
      decides = p.decides;
      visited = omega (arith, p.visited);
    })
