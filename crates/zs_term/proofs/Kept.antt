-- What is stored of a whole term: its sizes, and the term itself if terms are built.
use Rattle.std.proofs.Common.{◌≡◌, ℕ, ◌+◌, ◌*◌, ◌^◌, ◌<◌, ◌≤◌, List, Bool, true, false, Option}
use Rattle.std.proofs.Common.{Some, None, refl, sym, ap, ◌∙◌, arith, max, inl, inr}
use Rattle.std.specs.Prelude.{nat_le, nat_lt, option_map, ◌&&◌}
use Rattle.std.proofs.lemmas.Bool.Decides.{nat_tests}
use Rattle.zs_term.specs.Saturating.{saturated}
use Rattle.zs_term.specs.declared.term.Func.{Func}
use Rattle.zs_term.specs.declared.term.Func.TheVariants.{First, Second, Size, Merge, Const, Add}
use Rattle.zs_term.specs.declared.term.Func.TheVariants.{Mul}
use Rattle.zs_term.specs.Schedule.{Schedule, leaf, two, over, Leaf, plain, counted, exponential}
use Rattle.zs_term.specs.Schedule.{Modifier, while_input, while_output, collect_all, mapped}
use Rattle.zs_term.specs.Schedule.{reset_when, times, depth, weight, is_within_limits}
use Rattle.zs_term.specs.Number.{fit, FuncFits, LeafFits, ModifierFits, HasFittingNumbers}
use Rattle.zs_term.specs.Machine.{infix_pairing, leaf_value, pairing_infix, modifier_value, value}
use Rattle.zs_term.specs.Machine.{apply_func}
use Rattle.zs_term.specs.Parts.{Kept, keep, one_more, with_both}
use Rattle.zs_term.specs.Totals.{ArePast}
use Rattle.zs_term.specs.Reading.{IsWhole}
use Rattle.zs_term.proofs.Fitting.{fits_in}
use Rattle.zs_term.proofs.Runs.{planted_pair}

-- one part under an operator is one level deeper
depth_over : (a d : ℕ) → a ≡ saturated d → saturated (a + 1) ≡ saturated (1 + d)
depth_over a d e = omega arith

-- one part under an operator weighs one more
weight_over : (a w : ℕ) → a ≡ saturated w → one_more a ≡ saturated (1 + w)
weight_over a w e = omega arith

weight_once : (a w : ℕ) → a ≡ saturated w → one_more a ≡ saturated (1 + 1 * w)
weight_once a w e = omega arith

-- a reset counts the weight of its part twice
weight_twice : (a w : ℕ) → a ≡ saturated w → one_more (saturated (a + a)) ≡ saturated (1 + 2 * w)
weight_twice a w e = omega arith

depth_both : (a b d e : ℕ) → a ≡ saturated d → b ≡ saturated e →
    saturated (max a b + 1) ≡ saturated (1 + max d e)
depth_both a b d e h k = omega arith

weight_both : (a b v w : ℕ) → a ≡ saturated v → b ≡ saturated w →
    one_more (saturated (a + b)) ≡ saturated (1 + v + w)
weight_both a b v w h k = omega arith

-- the depth of a function over a part
depth_map : (build : Bool) (f : Func) (a : Kept) (d : ℕ) → a.depth ≡ saturated d →
    (apply_func (keep build) a f).depth ≡ saturated (1 + d)
depth_map build First a d e = depth_over a.depth d e
depth_map build Second a d e = depth_over a.depth d e
depth_map build Size a d e = depth_over a.depth d e
depth_map build Merge a d e = depth_over a.depth d e
depth_map build (Const n) a d e = depth_over a.depth d e
depth_map build (Add n) a d e = depth_over a.depth d e
depth_map build (Mul n) a d e = depth_over a.depth d e

-- the weight of a function over a part
weight_map : (build : Bool) (f : Func) (a : Kept) (w : ℕ) → a.weight ≡ saturated w →
    (apply_func (keep build) a f).weight ≡ saturated (1 + w)
weight_map build First a w e = weight_over a.weight w e
weight_map build Second a w e = weight_over a.weight w e
weight_map build Size a w e = weight_over a.weight w e
weight_map build Merge a w e = weight_over a.weight w e
weight_map build (Const n) a w e = weight_over a.weight w e
weight_map build (Add n) a w e = weight_over a.weight w e
weight_map build (Mul n) a w e = weight_over a.weight w e

-- the sizes of a leaf
leaf_kept : (build : Bool) (l : Leaf) → ((leaf_value (keep build) l).depth ≡ 1)
    × ((leaf_value (keep build) l).weight ≡ 1)
leaf_kept build (plain p) = (refl, refl)
leaf_kept build (counted c n) = (refl, refl)
leaf_kept build (exponential b f) = (refl, refl)

-- the depth of a modifier over a part
depth_modified : (build : Bool) (m : Modifier) (a : Kept) (d : ℕ) → a.depth ≡ saturated d →
    (modifier_value (keep build) a m).depth ≡ saturated (1 + d)
depth_modified build (while_input t) a d e = depth_over a.depth d e
depth_modified build (while_output p t) a d e = depth_over a.depth d e
depth_modified build collect_all a d e = depth_over a.depth d e
depth_modified build (mapped f) a d e = depth_map build f a d e
depth_modified build (reset_when p t) a d e = depth_over a.depth d e

-- the weight of a modifier over a part
weight_modified : (build : Bool) (m : Modifier) (a : Kept) (w : ℕ) → a.weight ≡ saturated w →
    (modifier_value (keep build) a m).weight ≡ saturated (1 + times m * w)
weight_modified build (while_input t) a w e = weight_once a.weight w e
weight_modified build (while_output p t) a w e = weight_once a.weight w e
weight_modified build collect_all a w e = weight_once a.weight w e
weight_modified build (mapped f) a w e = weight_map build f a w e ∙ ap saturated (omega arith)
weight_modified build (reset_when p t) a w e = weight_twice a.weight w e

-- the stored depth is the depth
depth_kept : (build : Bool) (t : Schedule) → (value (keep build) t).depth ≡ saturated (depth t)
depth_kept build (leaf l) = (leaf_kept build l).0
depth_kept build (two p a b) =
    depth_both _ _ (depth a) (depth b) (depth_kept build a) (depth_kept build b)
depth_kept build (over s m) =
    depth_modified build m (value (keep build) s) (depth s) (depth_kept build s)

-- the stored weight is the weight
weight_kept : (build : Bool) (t : Schedule) → (value (keep build) t).weight ≡ saturated (weight t)
weight_kept build (leaf l) = (leaf_kept build l).1
weight_kept build (two p a b) =
    weight_both _ _ (weight a) (weight b) (weight_kept build a) (weight_kept build b)
weight_kept build (over s m) =
    weight_modified build m (value (keep build) s) (weight s) (weight_kept build s)

fits_test : (n : ℕ) → n < 2 ^ 64 → nat_lt n (2 ^ 64) ≡ true
fits_test n h = grind (arith, nat_tests)

-- a number below 2^64 fits
fit_is : (n : ℕ) → n < 2 ^ 64 → fit n ≡ Some n
fit_is n h = let e = fits_test n h in rw e refl

-- two values that are there, composed
two_kept : {X Y Z : Type 0} (f : X → Y → Z) (o : Option X) (q : Option Y) (x : X) (y : Y) →
    o ≡ Some x → q ≡ Some y → with_both f o q ≡ Some (f x y)
two_kept f o q x y h k = ap (λ u. with_both f u q) h ∙ ap (with_both f (Some x)) k

schedule_map : (f : Func) (a : Schedule) → FuncFits f → (value (keep true) a).schedule ≡ Some a →
    (apply_func (keep true) (value (keep true) a) f).schedule ≡ Some (over a (mapped f))
schedule_map First a h p = ap (option_map (λ t. over t (mapped First))) p
schedule_map Second a h p = ap (option_map (λ t. over t (mapped Second))) p
schedule_map Size a h p = ap (option_map (λ t. over t (mapped Size))) p
schedule_map Merge a h p = ap (option_map (λ t. over t (mapped Merge))) p
schedule_map (Const n) a h p =
    two_kept (λ t k. over t (mapped (Const k))) _ (fit n) a n p (fit_is n h)
schedule_map (Add n) a h p = two_kept (λ t k. over t (mapped (Add k))) _ (fit n) a n p (fit_is n h)
schedule_map (Mul n) a h p = two_kept (λ t k. over t (mapped (Mul k))) _ (fit n) a n p (fit_is n h)

-- the leaf that is built
leaf_built : (l : Leaf) → LeafFits l → (leaf_value (keep true) l).schedule ≡ Some (leaf l)
leaf_built (plain p) h = refl
leaf_built (counted c n) h = ap (option_map (λ k. leaf (counted c k))) (fit_is n h)
leaf_built (exponential b f) h =
    two_kept (λ x y. leaf (exponential x y)) (fit b) (fit f) b f (fit_is b h.0) (fit_is f h.1)

-- the modifier that is built
modifier_built : (m : Modifier) (a : Schedule) → ModifierFits m →
    (value (keep true) a).schedule ≡ Some a →
    (modifier_value (keep true) (value (keep true) a) m).schedule ≡ Some (over a m)
modifier_built (while_input t) a h p =
    two_kept (λ x k. over x (while_input (record { cmp = t.cmp; than = k }))) _ (fit t.than) a
    t.than p (fit_is t.than h)
modifier_built (while_output k t) a h p =
    two_kept (λ x n. over x (while_output k (record { cmp = t.cmp; than = n }))) _ (fit t.than) a
    t.than p (fit_is t.than h)
modifier_built collect_all a h p = ap (option_map (λ x. over x collect_all)) p
modifier_built (mapped f) a h p = schedule_map f a h p
modifier_built (reset_when k t) a h p =
    two_kept (λ x n. over x (reset_when k (record { cmp = t.cmp; than = n }))) _ (fit t.than) a
    t.than p (fit_is t.than h)

-- the term that is built, if terms are built and its numbers fit
schedule_kept : (t : Schedule) → HasFittingNumbers t → (value (keep true) t).schedule ≡ Some t
schedule_kept (leaf l) h = leaf_built l h
schedule_kept (two p a b) h =
    two_kept (two (infix_pairing (pairing_infix p))) _ _ a b (schedule_kept a h.0)
    (schedule_kept b h.1) ∙ ap (λ o. Some (two o a b)) (planted_pair p)
schedule_kept (over s m) h = modifier_built m s h.1 (schedule_kept s h.0)

le_test : (m n : ℕ) → m ≤ n → nat_le m n ≡ true
le_test m n h = grind (arith, nat_tests)

gt_test : (m n : ℕ) → n < m → nat_le m n ≡ false
gt_test m n h = grind (arith, nat_tests)

and_true : (a b : Bool) → a ≡ true → b ≡ true → (a && b) ≡ true
and_true true b e h = h
and_true false b e h = cc

and_false : (a b : Bool) → b ≡ false → (a && b) ≡ false
and_false true b h = h
and_false false b h = refl

false_and : (a b : Bool) → a ≡ false → (a && b) ≡ false
false_and true b h = cc
false_and false b h = refl

-- what the stored sizes say of the term
module _ (build : Bool) (t : Schedule) (a : Kept) (e : value (keep build) t ≡ a) where
  sizes : (a.depth ≡ saturated (depth t)) × (a.weight ≡ saturated (weight t))
  sizes = (
    ap (λ k. k.depth) (sym e) ∙ depth_kept build t,
    ap (λ k. k.weight) (sym e) ∙ weight_kept build t,
  )

  pub too_deep : 64 < a.depth → is_within_limits t ≡ false
  too_deep h = let deep : 64 < depth t = omega (arith, sizes.0) in
      false_and (nat_le (depth t) 64) (nat_le (weight t) 1000) (gt_test (depth t) 64 deep)

  pub too_heavy : 1000 < a.weight → is_within_limits t ≡ false
  too_heavy h = let heavy : 1000 < weight t = omega (arith, sizes.1) in
      and_false (nat_le (depth t) 64) (nat_le (weight t) 1000) (gt_test (weight t) 1000 heavy)

  pub small : a.depth ≤ 64 → a.weight ≤ 1000 → is_within_limits t ≡ true
  small d w =
      let low : depth t ≤ 64 = omega (arith, sizes.0) in
      let light : weight t ≤ 1000 = omega (arith, sizes.1) in
      and_true (nat_le (depth t) 64) (nat_le (weight t) 1000) (le_test (depth t) 64 low)
      (le_test (weight t) 1000 light)

-- the term is stored of a text whose numbers fit, if the sizes are within the limits
pub there : (text : List ℕ) (a : Kept) (huge : Option ℕ) (w : IsWhole text a huge) → a.depth ≤ 64 →
    a.weight ≤ 1000 → huge ≡ None → a.schedule ≡ Some w.term
there text a huge w d e n = at_build w.build w.is w.past where
  at_build : (b : Bool) → value (keep b) w.term ≡ a → (b ≡ false → ArePast (a.depth, a.weight)) →
      a.schedule ≡ Some w.term
  at_build true is past =
      ap (λ k. k.schedule) (sym is)
      ∙ schedule_kept w.term (fits_in text w.term w.spelled (sym w.numbers ∙ n))
  at_build false is past = absurd (never (past refl)) where
    never : ArePast (a.depth, a.weight) → ⊥
    never (inl h) = omega arith
    never (inr h) = omega arith
