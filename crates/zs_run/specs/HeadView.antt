-- What contracts see of a head.
use Rattle.std.specs.Prelude.{List}
use Rattle.zs_drive.specs.Values.{JobRecord}
use Rattle.zs_run.specs.declared.head.Head.{Head}
use Rattle.zs_run.specs.Plan.{PlanRecord}
use Rattle.zs_run.specs.Head.{HeadRecord}

-- a head by what its parts represent
abbrev pub head_record : Head → HeadRecord
head_record head = record { clock = head.clock; workers = head.cut.workers; grain = head.cut.grain }

-- the plan of these jobs that run as a head says
abbrev pub plan_with : HeadRecord → List JobRecord → PlanRecord
plan_with head jobs =
    record { clock = head.clock; workers = head.workers; grain = head.grain; jobs = jobs }
