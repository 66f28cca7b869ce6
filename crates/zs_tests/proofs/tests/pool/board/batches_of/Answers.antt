use Rattle.std.proofs.Common.{◌≡◌, ◌⊎◌, ℕ, zero, suc, List, [], ◌∷◌, ◌++◌, length, Some, refl, sym, ap, ◌∙◌, subst, inl, inr, ⊎_elim, arith, length-append}
use Rattle.std.specs.Prelude.{slice_get}
use Rattle.zs_pool.specs.Batches.{BatchValue, AreNumbered}
use Rattle.zs_tests.proofs.tests.pool.board.batches_of.Goals as goal

get_push : {X : Type 0} (xs : List X) (y : X) (k : ℕ) (x : X) → slice_get (xs ++ y ∷ []) k ≡ Some x → (slice_get xs k ≡ Some x) ⊎ ((k ≡ length xs) × (y ≡ x))
get_push [] y zero x e = inr (refl, (cc))
get_push [] y (suc k) x e = cc
get_push (z ∷ zs) y zero x e = inl e
get_push (z ∷ zs) y (suc k) x e = ⊎_elim (λ h. inl h) (λ h. inr (omega (arith, h.0), h.1)) (get_push zs y k x e)

numbered_push : (bs : List BatchValue) (b : BatchValue) → b.number ≡ length bs → AreNumbered bs → AreNumbered (bs ++ b ∷ [])
numbered_push bs b is before k x at =
    ⊎_elim (λ (h : slice_get bs k ≡ Some x). before k x h) (λ (h : (k ≡ length bs) × (b ≡ x)). ap (λ y. y.number) (sym h.1) ∙ is ∙ sym h.0) (get_push bs b k x at)

pub loop-number-preserved : goal.loop-number-preserved
loop-number-preserved c =
    let was = c.loop-number.invariant in let bs : List BatchValue = c.loop-number.batches.items in let p = c.in_ok-push.ensures in
    let b : BatchValue = record { number = c.loop-number.number; tasks = c.in_ok-tasks.tasks.items } in
    let A : List BatchValue → Type 0 = λ l. AreNumbered l in
    (subst A (sym p.items) (numbered_push bs b (sym was.1) was.0), omega (arith, ap length p.items, length-append bs (b ∷ []), was.1))
