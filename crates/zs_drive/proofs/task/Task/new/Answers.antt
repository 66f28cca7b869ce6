use Rattle.std.proofs.Common.{refl}
use Rattle.zs_drive.proofs.Beginning.{IsTask-new, moments-none}
use Rattle.zs_drive.proofs.task.Task.new.Goals as goal

pub invariant_of-result : goal.invariant_of-result
invariant_of-result c =
    IsTask-new _ _ c.in_ok-progress.ensures.ok refl refl refl c.new-2.ensures.items
    c.in_ok-schedule.ensures.stands (rw (← c.script.view_is) c.script.invariant) refl

pub returns-clause-made : goal.returns-clause-made
returns-clause-made c = rw (
  c.in_ok-progress.ensures.ok,
  c.new-2.ensures.items,
  moments-none,
  c.in_ok-schedule.ensures.term,
) refl
