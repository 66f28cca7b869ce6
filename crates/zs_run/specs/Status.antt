-- The exit status for each result of a run.
use Rattle.std.specs.Prelude.{ℕ, Result, Ok, Err}
use Rattle.zs_run.specs.declared.plan_fault.PlanFault.{PlanFault}
use Rattle.zs_run.specs.declared.plan_fault.PlanFault.TheVariants.{TooLong, Json, Shape, UnknownKey}
use Rattle.zs_run.specs.declared.plan_fault.PlanFault.TheVariants.{Range, Name, SameName, Schedule}
use Rattle.zs_run.specs.declared.plan_fault.PlanFault.TheVariants.{Script, Memory}
use Rattle.zs_run.specs.declared.run_fault.RunFault.{RunFault}
use Rattle.zs_run.specs.declared.run_fault.RunFault.TheVariants.{Read, Plan, Engine, Write}

-- 2 for an invalid plan, 4 if memory ran out
abbrev pub plan_status_of : PlanFault → ℕ
plan_status_of TooLong = 2
plan_status_of Json = 2
plan_status_of (Shape job) = 2
plan_status_of (UnknownKey job) = 2
plan_status_of (Range job) = 2
plan_status_of (Name job) = 2
plan_status_of (SameName job) = 2
plan_status_of (Schedule job fault) = 2
plan_status_of (Script job fault) = 2
plan_status_of Memory = 4

-- 3 if reading or writing failed, 4 if memory ran out or a thread couldn't start
abbrev pub status_of : RunFault → ℕ
status_of Read = 3
status_of (Plan fault) = plan_status_of fault
status_of (Engine fault) = 4
status_of (Write sent) = 3

-- 0 if the report was written
abbrev pub exit_status_of : Result (Unit {0}) RunFault → ℕ
exit_status_of (Ok done) = 0
exit_status_of (Err fault) = status_of fault
