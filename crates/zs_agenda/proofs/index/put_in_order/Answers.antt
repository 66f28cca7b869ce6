use Rattle.std.proofs.Common.{◌≤◌, length, arith, ℕ, List, ap, ◌∙◌, insert, nat_lt}
use Rattle.std.specs.List.{prefix_len}
use Rattle.zs_agenda.proofs.IndexLemmas.{insert-is-placed, prefix_len-le}
use Rattle.zs_agenda.proofs.index.put_in_order.Goals as goal

pub returns-clause-ok : goal.returns-clause-ok
returns-clause-ok c =
    c.in_ok-insert.ensures.items ∙ ap (λ (n : ℕ). insert c.args.jobs.now.items n c.args.job)
    (c.place_of-place.ensures.value
    ∙ ap (λ (l : List ℕ). prefix_len (λ j. nat_lt j c.args.job) l) c.deref.ensures.value)
    ∙ insert-is-placed c.args.job _

pub insert-requires : goal.insert-requires
insert-requires c =
    let within : prefix_len (λ j. nat_lt j c.args.job) c.deref.result.now
    ≤ length c.deref.result.now = prefix_len-le _ _ in
    omega arith
