use Rattle.std.proofs.Common.{sym, ap, ◌∙◌}
use Rattle.zs_step.specs.Answer.{answer_of, since_reset}
use Rattle.zs_step.proofs.LastReset.{since_reset-last, since_reset-none}
use Rattle.zs_step.proofs.laws.a_part_counts_from_its_last_reset.Goals as goal

pub returns : goal.returns
returns c = record {
  reset = λ s k t h part r.
      ap (since_reset (answer_of s) k t) r.whole ∙ since_reset-last (answer_of s) k t r.later
      r.before r.first r.resets r.none ∙ sym r.is;
  none = λ s k t. since_reset-none (answer_of s) k t;
}
