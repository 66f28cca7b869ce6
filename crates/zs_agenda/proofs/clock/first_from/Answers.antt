use Rattle.std.proofs.Common.{arith, rules, ◌∙◌, nat_lt}
use Rattle.std.proofs.lemmas.Fn.{always_returns_same}
use Rattle.zs_agenda.proofs.TickLemmas.{parts, find-at_point}
use Rattle.zs_agenda.proofs.clock.first_from.Goals as goal

pub returns : goal.returns
returns c = record {
  value =
      let point = c.partition_point-place.ensures.partitioned (λ t. nat_lt t c.args.due)
      (always_returns_same _ _ _ (λ a r f k. search rules))
      (parts c.args.ticks.now c.args.due c.requires.rising) in
      c.tick_at.ensures.value
      ∙ find-at_point c.args.due c.args.ticks.now c.partition_point-place.result
      (λ k d l m. point.0 k d (omega arith) l) (λ k d l m. point.1 k d l m);
}
