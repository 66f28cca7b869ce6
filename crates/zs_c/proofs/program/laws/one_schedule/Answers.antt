use Rattle.zs_c.proofs.Uniqueness.{program-once}
use Rattle.zs_c.proofs.program.laws.one_schedule.Goals as goal

pub returns : goal.returns
returns c = record { law = program-once }
