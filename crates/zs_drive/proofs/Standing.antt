-- The timeline of a task, by its fields.
use Rattle.std.proofs.Common.{◌≡◌, ◌+◌, ◌≤◌, length, sym, ◌∙◌, ap, arith}
use Rattle.std.proofs.lemmas.List.{length-map}
use Rattle.zs_drive.specs.declared.task.Task.TheInside.{Inside}
use Rattle.zs_drive.specs.Clocks.{AreTicks, max_tick}
use Rattle.zs_drive.specs.Timeline.{Timeline, poll_moments}
use Rattle.zs_drive.specs.Tasks.{TaskValue, current_timeline}
use Rattle.zs_drive.specs.Fields.{task_of, IsTask}
use Rattle.zs_drive.specs.Progress.{attempts_of, timeline_in}
use Rattle.zs_drive.specs.Values.{attempted_of}
use Rattle.zs_drive.proofs.Moments.{length-clock}

module _ (t : Inside) (is : IsTask t) (task : TaskValue) (view : task_of t ≡ task) where
  pub stands : current_timeline task ≡ timeline_in t.progress.value
  stands = rw (← view) (sym is.progress.on_timeline.same)

  -- it was polled when its attempts began and ended
  pub polled-moments : task.moments ≡ poll_moments (current_timeline task).attempts
  polled-moments = ap (λ (v : TaskValue). v.moments) (sym view)
      ∙ ap (λ (l : Timeline). poll_moments l.attempts) (sym stands)

  pub polled-clock : AreTicks task.moments
  polled-clock = rw (polled-moments, stands) is.progress.on_timeline.clock

  pub polls-counted : t.progress.value.polls ≡ length task.moments
  polls-counted = is.progress.on_timeline.counted ∙ ap (λ (v : TaskValue). length v.moments) view

  pub records-few : length t.progress.value.records.items ≤ max_tick + 1
  records-few =
      let few = is.progress.on_timeline.few in
      let counted = is.progress.on_timeline.counted in
      let clock = length-clock (poll_moments (attempts_of t.progress.value))
      is.progress.on_timeline.clock in
      omega (arith, few, counted, clock, length-map t.progress.value.records.items attempted_of)

pub ruleset standing = (stands, polled-moments, polls-counted)
