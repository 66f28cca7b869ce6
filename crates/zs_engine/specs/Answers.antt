-- The result of a run. Each task has the timeline that its job alone has on the whole clock.
-- Workers, batches, gates and timers have no influence on it. Readers of `run_jobs` trust this file
-- and what it names of zs_drive.
use Rattle.std.specs.Prelude.{◌≡◌, ℕ, ◌+◌, false, List, [], ◌∷◌, All, length, map}
use Rattle.zs_drive.specs.Values.{JobRecord}
use Rattle.zs_drive.specs.Timeline.{timeline_of, poll_moments}
use Rattle.zs_drive.specs.Tasks.{TaskValue, current_timeline}
use Rattle.zs_agenda.specs.Ticks.{Ticks, horizon}
use Rattle.zs_engine.specs.declared.answer.Answer.{Answer}
use Rattle.zs_engine.specs.Times.{moments_from, ticks_of}

-- the moments at which a poll of the job alone is due
abbrev pub poll_moments_of : List ℕ → JobRecord → List ℕ
poll_moments_of ticks job = poll_moments (timeline_of job ticks).attempts

-- the number of due polls of all jobs
abbrev pub poll_count_of : List ℕ → List JobRecord → ℕ
poll_count_of ticks [] = 0
poll_count_of ticks (job ∷ jobs) = length (poll_moments_of ticks job) + poll_count_of ticks jobs

-- The tasks are those of the jobs, in order and numbered by their places. None is broken, and each
-- has the timeline of its job alone on the whole clock. Every due poll was counted once.
pub record IsAnswer (clock : Ticks) (jobs : List JobRecord) (answer : Answer) : Type 0 where
  pub numbered : map (λ task. task.number) answer.tasks.items ≡ moments_from 0 (length jobs)
  pub same_jobs : map (λ task. task.job) answer.tasks.items ≡ jobs
  pub whole : All (λ (task : TaskValue). task.broken ≡ false) answer.tasks.items
  pub timelines : map current_timeline answer.tasks.items
      ≡ map (λ job. timeline_of job (ticks_of clock)) jobs
  pub moments : map (λ task. task.moments) answer.tasks.items
      ≡ map (poll_moments_of (ticks_of clock)) jobs
  pub polls : answer.polls ≡ poll_count_of (ticks_of clock) jobs
  pub last : answer.horizon ≡ horizon clock
