use Rattle.std.proofs.Common.{◌≡◌, ◌++◌, map, drop, string_bytes}
use Rattle.std.specs.List.{flat_map}
use Rattle.zs_run.specs.Report.{job_lines}
use Rattle.zs_run.specs.ReportView.{task_report}
use Rattle.zs_run.proofs.reporting.push_jobs.Given as goal

abbrev pub invariant-loop-task : goal.invariant-loop-task
invariant-loop-task l =
    string_bytes l.text ++ flat_map (job_lines l.horizon)
    (map task_report (drop l.task-index l.tasks))
    ≡ string_bytes l.fn.text ++ flat_map (job_lines l.horizon) (map task_report l.tasks)
