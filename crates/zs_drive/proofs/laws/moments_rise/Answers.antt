use Rattle.zs_drive.proofs.Polling.{on-clock}
use Rattle.zs_drive.proofs.laws.moments_rise.Goals as goal

pub returns-clause-ticks : goal.returns-clause-ticks
returns-clause-ticks c job ticks script clock = (on-clock job script ticks clock).among

pub returns-clause-rise : goal.returns-clause-rise
returns-clause-rise c job ticks script clock = (on-clock job script ticks clock).on.clock
