use Rattle.zs_c.proofs.PlannedRuns.{turn-ends}
use Rattle.zs_c.proofs.program.laws.attempts_end_in_time.Goals as goal

pub returns : goal.returns
returns c = record { law = turn-ends }
