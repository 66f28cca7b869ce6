use Rattle.std.proofs.Common.{◌≡◌, ◌∷◌, [], ◌-◌, ℕ, List, suc, reverse, ap, sym, refl, ◌∙◌, subst}
use Rattle.std.proofs.Common.{arith, tests}
use Rattle.std.proofs.lemmas.List.{reverse-append}
use Rattle.zs_pool.specs.Batches.{BatchValue}
use Rattle.zs_pool.proofs.Cuts.{Cutting, cut_more}
use Rattle.zs_pool.proofs.rounds.cut_into.Goals as goal

pub loop-number-preserved : goal.loop-number-preserved
loop-number-preserved c =
    let before : List BatchValue = c.loop-number.batches.items in
    let number = c.loop-number.number - 1 in
    let own : BatchValue = record { number = number; tasks = c.in_ok-own.own.items } in
    let C : ℕ → Type 0 =
    λ n. Cutting c.args.grain n c.args.tasks.items c.loop-number.tasks.items (reverse before) in
    let D : List BatchValue → Type 0 =
    λ bs. Cutting c.args.grain number c.args.tasks.items c.split_off.new.self.items bs in
    let later : c.loop-number.number ≡ suc number = omega (arith, tests, c.loop-number-test.true) in
    let turned : own ∷ reverse before ≡ reverse c.push.new.self.items =
    sym (reverse-append before (own ∷ []))
    ∙ ap (λ bs. reverse bs) (sym c.in_ok-push.ensures.items) in
    subst D turned (cut_more c.args.grain number c.args.tasks.items c.loop-number.tasks.items
    c.split_off.new.self.items (reverse before) own c.in_ok-own.ensures.items
    c.in_ok-own.ensures.tail refl (subst C later c.loop-number.invariant))
