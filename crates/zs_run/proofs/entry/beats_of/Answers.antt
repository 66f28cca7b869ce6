use Rattle.std.proofs.Common.{◌≡◌, ◌++◌, ◌∷◌, [], sym, Some, rules}
use Rattle.zs_run.specs.declared.plan_fault.PlanFault.TheVariants as faults
use Rattle.zs_run.specs.Shapes.{beat_of}
use Rattle.zs_run.proofs.ListLemmas.{one_more, not_all, all_found}
use Rattle.zs_run.proofs.entry.beats_of.Goals as goal

-- another type
pub returns-in_default : goal.returns-in_default
returns-in_default c = record {
  value = λ other. not_all beat_of _ _ _ c.entry-item.result (faults.Shape (Some c.args.number))
      c.loop-entry-test.true (sym c.entry-item.is) (search rules) c.loop-entry.invariant;
}

-- one more
pub loop-entry-preserved : goal.loop-entry-preserved
loop-entry-preserved c =
    let items : c.push.new.self.items ≡ c.loop-entry.beats.items ++ c.in-Some.beat ∷ [] =
    search rules in
    rw items (one_more beat_of _ _ _ c.entry-item.result c.in-Some.beat c.loop-entry-test.true
    (sym c.entry-item.is) (search rules) c.loop-entry.invariant)

-- none remains
pub returns : goal.returns
returns c =
    record {
      value = all_found beat_of _ _ _ (faults.Shape (Some c.args.number))
          c.loop-entry-test.false c.loop-entry.invariant;
    }
