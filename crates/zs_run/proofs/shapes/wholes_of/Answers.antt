use Rattle.std.proofs.Common.{◌≡◌, ◌++◌, ◌∷◌, [], sym, None, rules}
use Rattle.zs_run.specs.declared.plan_fault.PlanFault.TheVariants as faults
use Rattle.zs_run.specs.Tree.{as_whole}
use Rattle.zs_run.proofs.ListLemmas.{one_more, not_all, all_found}
use Rattle.zs_run.proofs.shapes.wholes_of.Goals as goal

-- another type
pub returns-in_default : goal.returns-in_default
returns-in_default c = record {
  value = λ other. not_all as_whole _ _ _ c.item-item.result (faults.Shape None)
      c.loop-item-test.true (sym c.item-item.is) (search rules) c.loop-item.invariant;
}

-- one more
pub loop-item-preserved : goal.loop-item-preserved
loop-item-preserved c =
    let items : c.push.new.self.items ≡ c.loop-item.numbers.items ++ c.in-Some.number ∷ [] =
    search rules in
    rw items (one_more as_whole _ _ _ c.item-item.result c.in-Some.number c.loop-item-test.true
    (sym c.item-item.is) (search rules) c.loop-item.invariant)

-- none remains
pub returns : goal.returns
returns c =
    record {
      value = all_found as_whole _ _ _ (faults.Shape None) c.loop-item-test.false
          c.loop-item.invariant;
    }
