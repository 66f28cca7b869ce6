use Rattle.zs_step.proofs.Sequels.{collect-push}
use Rattle.zs_step.proofs.evaluation.collect.Goals as goal

pub returns-in_ok-push : goal.returns-in_ok-push
returns-in_ok-push c =
    record {
      value = collect-push _ _ _ _ _ c.in_ok-push.ensures.items c.is_next.ensures.value
          c.if-is_next.true;
    }
