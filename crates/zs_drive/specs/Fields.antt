-- The fields of a task, and what contracts know about them.
use Rattle.std.specs.Prelude.{◌≡◌, false, true, None}
use Rattle.zs_effect.specs.Scripts.{IsScript}
use Rattle.zs_drive.specs.declared.task.Task.TheInside.{Inside}
use Rattle.zs_drive.specs.Tasks.{TaskValue}
use Rattle.zs_drive.specs.Progress.{moments_in, job_in, ending_of, IsProgress, HasState}

-- the task as contracts know it
abbrev pub task_of : Inside → TaskValue
task_of t = record {
  number = t.number;
  job = job_in t.progress.value;
  moments = moments_in t.progress.value;
  seen = t.progress.value.seen;
  broken = t.broken;
}

-- the invariant of a task; a broken one may lack its schedule's state, and has no ending
pub record IsTask (t : Inside) : Type 0 where
  pub progress : IsProgress t.progress.value
  pub state : t.broken ≡ false → HasState t.progress.value
  pub script : IsScript t.progress.value.script
  pub unended : t.broken ≡ true → ending_of t.progress.value.phase ≡ None
