use Rattle.std.proofs.Common.{◌+◌, arith}
use Rattle.zs_drive.specs.Clocks.{max_tick}
use Rattle.zs_drive.proofs.Records.{timeline_of-settled}
use Rattle.zs_drive.proofs.laws.timelines_are_whole.Goals as goal

pub returns-clause-waits : goal.returns-clause-waits
returns-clause-waits c job ticks script clock =
    (timeline_of-settled job ticks script (max_tick + 1) (omega arith) clock.bounded).0

pub returns-clause-ended : goal.returns-clause-ended
returns-clause-ended c job ticks script clock =
    (timeline_of-settled job ticks script (max_tick + 1) (omega arith) clock.bounded).1
