use Rattle.std.proofs.Common.{◌+◌, arith}
use Rattle.zs_drive.specs.Clocks.{max_tick}
use Rattle.zs_drive.proofs.Ruling.{timeline_of-rules, timeline_of-only, timeline_of-bound}
use Rattle.zs_drive.proofs.laws.one_timeline.Goals as goal

pub returns-clause-one : goal.returns-clause-one
returns-clause-one c job ticks script clock = (
  timeline_of-rules job ticks script (max_tick + 1) (omega arith) clock.bounded,
  timeline_of-only job ticks script (max_tick + 1) (omega arith) clock.bounded,
)

pub returns-clause-bound : goal.returns-clause-bound
returns-clause-bound c job ticks script clock =
    timeline_of-bound job ticks script (max_tick + 1) (omega arith) clock.bounded
