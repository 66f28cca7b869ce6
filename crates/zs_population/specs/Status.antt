-- The exit status for each ending: those of a run.
use Rattle.std.specs.Prelude.{ℕ, Result, Ok, Err}
use Rattle.zs_run.specs.Status.{plan_status_of}
use Rattle.zs_population.specs.declared.fault.PopulationFault.{PopulationFault}
use Rattle.zs_population.specs.declared.fault.PopulationFault.TheVariants.{Read, Line, Engine}
use Rattle.zs_population.specs.declared.fault.PopulationFault.TheVariants.{Write, Report}
use Rattle.zs_population.specs.declared.fault.PopulationFault.TheVariants.{Missing, Words}
use Rattle.zs_population.specs.declared.fault.ReportFault.{ReportFault}
use Rattle.zs_population.specs.declared.fault.ReportFault.TheVariants as reports

-- 3 if a report can't be read, 4 without memory, 2 if it isn't the one that is expected
abbrev pub report_status_of : ReportFault → ℕ
report_status_of reports.Read = 3
report_status_of reports.Memory = 4
report_status_of reports.Incomplete = 2
report_status_of reports.Population = 2
report_status_of (reports.Order first next) = 2
report_status_of reports.Changed = 2

-- 2 for a rejected line, a report that isn't the one expected, or wrong words, 3 if reading or
-- writing failed, 4 without memory or a thread
abbrev pub status_of : PopulationFault → ℕ
status_of Read = 3
status_of (Line line fault) = plan_status_of fault
status_of (Engine fault) = 4
status_of (Write sent) = 3
status_of (Report number fault) = report_status_of fault
status_of (Missing next) = 2
status_of (Words fault) = 2

-- 0 if the whole report was written
abbrev pub exit_status_of : Result (Unit {0}) PopulationFault → ℕ
exit_status_of (Ok done) = 0
exit_status_of (Err fault) = status_of fault
