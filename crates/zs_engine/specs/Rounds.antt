-- The invariant of the rounds of a run. Between two rounds each task has the timeline of its job
-- alone on the ticks so far. It has a timer exactly if there is a tick at or after its due moment.
-- During a round this is true of all tasks but those that are still to be polled.
use Rattle.std.specs.Prelude.{◌≡◌, ◌≤◌, ◌+◌, ◌++◌, ℕ, true, false, if◌then◌else◌, List, Option}
use Rattle.std.specs.Prelude.{Some, None, length, slice_get, map, flat_map, option_to_list}
use Rattle.std.specs.Prelude.{option_map, option_and_then}
use Rattle.std.specs.FinMap.{get, insert}
use Rattle.std.specs.List.{sum_by}
use Rattle.zs_agenda.specs.Ticks.{Ticks}
use Rattle.zs_agenda.specs.Timers.{Timers}
use Rattle.zs_effect.specs.Scripts.{IsScript}
use Rattle.zs_drive.specs.Clocks.{RisesFrom, AllBefore, max_tick}
use Rattle.zs_drive.specs.Values.{JobRecord}
use Rattle.zs_drive.specs.Timeline.{timeline_of, poll_moments}
use Rattle.zs_drive.specs.Tasks.{TaskValue, current_timeline}
use Rattle.zs_engine.specs.Times.{ticks_of, next_of}
use Rattle.zs_engine.specs.Slots.{Slots, has}

-- The task is up to date after the ticks `past`: it has the timeline of its job alone on them, and
-- was polled exactly when an attempt began or ended. The ticks `rest` are still to come.
pub record KeepsUp (ticks : List ℕ) (task : TaskValue) : Type 0 where
  pub past : List ℕ
  pub rest : List ℕ
  pub low : ℕ
  pub split : ticks ≡ past ++ rest
  pub before : AllBefore past low
  pub small : low ≤ max_tick + 1
  pub rises : RisesFrom low rest
  pub bounded : AllBefore rest (max_tick + 1)
  pub polled : AllBefore task.moments low
  pub seen : task.seen ≤ low
  pub few : length task.moments ≤ length past
  pub same : timeline_of task.job task.moments ≡ timeline_of task.job past
  pub kept : task.moments ≡ poll_moments (current_timeline task).attempts
  pub whole : task.broken ≡ false
  pub script : IsScript task.job.script

-- the tick at which the task is due, if there is one
abbrev pub next_tick_of : Ticks → TaskValue → Option ℕ
next_tick_of clock task = next_of (ticks_of clock) (current_timeline task).due

-- the tick at which the task in a slot is due, if there is one
abbrev pub next_in : List ℕ → Option (Option TaskValue) → Option ℕ
next_in ticks slot =
    option_and_then (option_and_then (λ task. next_of ticks (current_timeline task).due)) slot

-- the number of due polls of a slot's task
abbrev pub polls_of : Option TaskValue → ℕ
polls_of None = 0
polls_of (Some task) = length task.moments

-- the number of due polls that were done
abbrev pub polls_in : Slots → ℕ
polls_in slots = sum_by polls_of slots

-- Each task is in its slot and up to date, and `count` polls were done. All tasks but those in
-- `left` wait for their next due polls. There are no timers but theirs.
pub record Waits (ticks : List ℕ) (slots : Slots)
    (timers : Timers) (count : ℕ) (left : List ℕ) : Type 0 where
  pub filled : (tasks : List TaskValue) × (slots ≡ map (λ task. Some task) tasks)
  pub each : (i : ℕ) (task : TaskValue) → slice_get slots i ≡ Some (Some task)
      → KeepsUp ticks task × (task.number ≡ i)
  pub timer : (i : ℕ)
      → get timers.moments i ≡ (if has i left then None else next_in ticks (slice_get slots i))
  pub counted : count ≡ polls_in slots

-- in the round at `now` these tasks are due, and are still to be polled
pub record Begins (ticks : List ℕ) (slots : Slots)
    (timers : Timers) (count now : ℕ) (left : List ℕ) : Type 0 where
  pub waits : Waits ticks slots timers count left
  pub is_taken : timers.last_taken ≡ Some now
  pub due : (i : ℕ) → has i left ≡ true → next_in ticks (slice_get slots i) ≡ Some now

-- the job of a task
abbrev pub job_of : TaskValue → JobRecord
job_of task = task.job

-- the jobs of the tasks in the slots
abbrev pub jobs_in : Slots → List JobRecord
jobs_in slots = flat_map (λ slot. option_to_list (option_map job_of slot)) slots

-- the timers after a job's is armed for a tick, if there is one
abbrev pub set_next : Timers → ℕ → Option ℕ → Timers
set_next timers number None = timers
set_next timers number (Some tick) = record timers { moments = insert timers.moments number tick }
