use Rattle.std.proofs.Common.{◌≡◌, ◌==◌, ℕ, None, take, cond, nat_cmp}
use Rattle.std.specs.List.{list_any}
use Rattle.std.specs.BTreeMap as tree
use Rattle.zs_agenda.proofs.index.forget.Given as goal

abbrev pub invariant-loop-job : goal.invariant-loop-job
invariant-loop-job l =
    (q : ℕ) → tree.get nat_cmp l.by_job q ≡ cond (list_any (λ j. j == q) (take l.job-index l.jobs))
    None (tree.get nat_cmp l.initial.by_job q)
