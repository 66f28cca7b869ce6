-- A new task.
use Rattle.std.proofs.Common.{◌≡◌, [], false, true, refl, sym, ◌∙◌, arith}
use Rattle.std.specs.Prelude.{Some, None}
use Rattle.zs_step.specs.Compiled.{StandsFor}
use Rattle.zs_drive.specs.Clocks.{RisesFrom, AllBefore}
use Rattle.zs_drive.specs.Values.{JobRecord}
use Rattle.zs_drive.specs.declared.progress.Phase.TheVariants.{Waiting}
use Rattle.zs_drive.specs.Timeline.{timeline_of, from, poll_moments}
use Rattle.zs_drive.specs.Recorded.{AllContinued, IsOnTimeline}
use Rattle.zs_drive.specs.declared.progress.Progress.{Progress}
use Rattle.zs_drive.specs.Progress.{IsProgress, HasState, job_in}
use Rattle.zs_effect.specs.Scripts.{IsScript}
use Rattle.zs_drive.specs.declared.task.Task.TheInside.{Inside}
use Rattle.zs_drive.specs.Fields.{IsTask}

-- no poll was done yet
pub IsOnTimeline-new : (job : JobRecord) →
    IsOnTimeline job (record { attempts = []; due = Some job.start; ending = None }) 0
unfolding timeline_of from poll_moments RisesFrom AllBefore
IsOnTimeline-new job = record {
  same = refl;
  clock = record { rises = tt; bounded = tt };
  counted = refl;
  few = omega arith;
}

-- a new task has no moments
pub moments-none : poll_moments [] ≡ []
unfolding poll_moments
moments-none = refl

pub IsTask-new : (t : Inside) (p : Progress) → t.progress.value ≡ p → p.phase ≡ Waiting p.start
    → p.polls ≡ 0 → p.seen ≡ 0
    → p.records.items ≡ [] → StandsFor p.schedule [] → IsScript p.script
    → t.broken ≡ false → IsTask t
unfolding AllContinued
IsTask-new t p is phase polls seen none stands script whole =
    let progress : IsProgress p = record {
      on_timeline = rw (none, phase, polls) (IsOnTimeline-new (job_in p));
      phase = rw (none, phase) tt;
      bounded = rw seen (omega arith);
    } in
    let state : HasState p =
    rw (none, phase)
    (record { stands = stands; past = let last = stands.last in omega arith }) in
    record {
      progress = rw is progress;
      state = λ _. rw is state;
      script = rw is script;
      unended = λ broken. let clash : false ≡ true = sym whole ∙ broken in cc;
    }
