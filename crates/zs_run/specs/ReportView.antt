-- The data of a task in a report.
use Rattle.std.specs.Prelude.{ℕ, List, length}
use Rattle.zs_drive.specs.Tasks.{TaskValue, current_timeline}
use Rattle.zs_run.specs.Report.{JobReport, end_line}

-- the data of a task's job, up to now
abbrev pub task_report : TaskValue → JobReport
task_report task = record {
  name = task.job.name;
  mode = task.job.mode;
  attempts = (current_timeline task).attempts;
  ending = (current_timeline task).ending;
  polls = length task.moments;
}

-- the last line of a task's job
abbrev pub task_end : ℕ → TaskValue → List ℕ
task_end horizon task = end_line horizon (current_timeline task).attempts
    (current_timeline task).ending (length task.moments)
