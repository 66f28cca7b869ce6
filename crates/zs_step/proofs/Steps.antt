-- The steps of leaves, sides of a choice, and lists as outputs.
use Rattle.std.proofs.Common.{◌≡◌, ℕ, ◌-◌, ◌*◌, ◌^◌, ◌≤◌, Bool, true, false, List, [], ◌∷◌, length}
use Rattle.std.proofs.Common.{min, inl, inr, refl, ap, subst, arith}
use Rattle.zs_term.specs.Saturating.{saturated}
use Rattle.zs_term.specs.Schedule.{Schedule, weight, leaf, two, over, Modifier, while_input}
use Rattle.zs_term.specs.Schedule.{while_output, collect_all, mapped, reset_when}
use Rattle.zs_term.specs.Output.{Output, output_of, outputs_of, outs_list, listed, count}
use Rattle.zs_term.specs.declared.outputs.Out.{Out, Items}
use Rattle.zs_term.specs.declared.outputs.Outs.{Outs}
use Rattle.zs_term.proofs.Values.{stored_outputs_are, count-outputs_of}
use Rattle.zs_step.specs.Memory.{is_bare, is_bare_over, keeps_no_list}
use Rattle.zs_step.specs.Numbers.{IsNumbers}
use Rattle.zs_step.specs.State.{side_output}
use Rattle.zs_step.specs.declared.numbers.Numbers.TheVariants.{Side}
use Rattle.zs_step.specs.declared.leaf.Leaf.{Leaf}
use Rattle.zs_step.specs.declared.leaf.Leaf.TheVariants.{Exponential}
use Rattle.zs_step.specs.History.{History, first_moment}
use Rattle.zs_step.specs.LeafState.{LeafRepresents, before_of, past_of, next_count, next_past}
use Rattle.zs_step.proofs.Sats.{power-turn}

-- the number of steps
pub next_count-is : (h : History) → next_count (before_of h) ≡ saturated (length h)
next_count-is [] = omega arith
next_count-is (p ∷ h) = omega arith

-- the past after one more step
pub next_past-is : (h : History) (now input : ℕ) →
    next_past (past_of h) now ≡ record {
      first = first_moment ((now, input) ∷ h);
      before = saturated (length h);
    }
next_past-is [] now input = refl
next_past-is (p ∷ h) now input =
    ap (λ n. record { first = first_moment (p ∷ h); before = n }) (next_count-is (p ∷ h))

-- a step of `exponential`
pub exponential-stands : (s : Leaf) (b f w x y now input : ℕ) → s ≡ Exponential b f w x →
    y ≡ min (x * f) (2 ^ 64 - 1) →
    (h : History) → LeafRepresents s h → LeafRepresents (Exponential b f x y) ((now, input) ∷ h)
exponential-stands s b f w x y now input s_is y_is h stood =
    power-turn b f (length h) x y (subst (λ r. LeafRepresents r h) s_is stood) y_is

-- a side of a choice has no number
pub side_numbers : (done : Bool) (x y : Output) → IsNumbers Side (side_output done x y)
side_numbers false x y = (x, inl refl)
side_numbers true x y = (y, inr refl)

-- the value of a list
pub value_of_items : (o : Outs) → output_of (Items o) ≡ listed (outputs_of (outs_list o))
value_of_items o = ap listed (stored_outputs_are o.storage)

-- a schedule has a node
pub weight_some : (t : Schedule) → 1 ≤ weight t
weight_some (leaf l) = omega arith
weight_some (two p a b) = omega arith
weight_some (over s m) = omega arith

-- the number of outputs of a list
pub count_items : (xs : List Out) → count (outputs_of xs) ≡ length xs
count_items xs = count-outputs_of xs

-- the same under a modifier
over_listless : (m : Modifier) (bare listless : Bool) → (bare ≡ true → listless ≡ true) →
    is_bare_over m bare ≡ true → is_bare_over m listless ≡ true
over_listless (while_input t) bare listless part e = part e
over_listless (while_output k t) bare listless part e = part e
over_listless collect_all bare listless part e = cc
over_listless (mapped f) bare listless part e = part e
over_listless (reset_when k t) bare listless part e = part e

-- a schedule whose outputs are numbers collects none
pub bare_listless : (t : Schedule) → is_bare t ≡ true → keeps_no_list t ≡ true
bare_listless (leaf l) e = refl
bare_listless (two p a b) e = cc
bare_listless (over s m) e =
    over_listless m (is_bare s) (keeps_no_list s) (λ part. bare_listless s part) e
