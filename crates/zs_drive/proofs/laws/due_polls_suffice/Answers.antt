use Rattle.std.proofs.Common.{sym}
use Rattle.zs_drive.proofs.Polling.{on-clock}
use Rattle.zs_drive.proofs.laws.due_polls_suffice.Goals as goal

pub returns-clause-whole : goal.returns-clause-whole
returns-clause-whole c job ticks script clock = sym (on-clock job script ticks clock).on.same

pub returns-clause-first : goal.returns-clause-first
returns-clause-first c job ticks script clock = (on-clock job script ticks clock).reached
