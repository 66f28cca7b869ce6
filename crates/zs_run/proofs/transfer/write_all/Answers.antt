use Rattle.std.proofs.Common.{rules}
use Rattle.zs_run.proofs.Flow.{Appends_more}
use Rattle.zs_run.proofs.transfer.write_all.Goals as goal

pub loop-sent-preserved : goal.loop-sent-preserved
loop-sent-preserved g c = (
  search rules,
  search rules,
  Appends_more _ _ _ _ _ _ c.loop-sent.invariant.2 c.in-Ok.ensures.bytes,
)
