use Rattle.std.proofs.Common.{sym, arith, rules, nat_lt}
use Rattle.std.proofs.lemmas.Fn.{always_returns_same}
use Rattle.std.proofs.lemmas.List.Sums.{prefix_len_is}
use Rattle.zs_agenda.proofs.IndexLemmas.{IsStrictlyIncreasing-rising, all-less}
use Rattle.zs_agenda.proofs.TickLemmas.{parts}
use Rattle.zs_agenda.proofs.index.place_of.Goals as goal

pub returns : goal.returns
returns c = record {
  value = (all-less c.args.job c.in-Some.last.now c.args.jobs.now c.requires.rising
      (sym c.in-Some.ensures.value) c.if-last-job.true).0;
}

pub returns-2 : goal.returns-2
returns-2 c = record {
  value =
      let point = c.partition_point.ensures.partitioned (λ j. nat_lt j c.args.job)
      (always_returns_same _ _ _ (λ a r f k. search rules))
      (parts c.args.jobs.now c.args.job (IsStrictlyIncreasing-rising _ c.requires.rising)) in
      sym (prefix_len_is (λ j. nat_lt j c.args.job) c.args.jobs.now c.partition_point.result 0
      c.partition_point.ensures.bound (λ k l. point.0 k 0 (omega arith) l)
      (λ l. point.1 _ 0 (omega arith) l));
}
