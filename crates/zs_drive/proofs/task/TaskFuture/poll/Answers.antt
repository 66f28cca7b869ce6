use Rattle.std.proofs.Common.{◌≡◌, ◌∙◌, false, true, Ok, Err, sym, ap, subst, List}
use Rattle.std.specs.Prelude.{OnErr}
use Rattle.futures.specs.Poll.{IfReady}
use Rattle.zs_effect.specs.declared.script.Beat.{Beat}
use Rattle.zs_effect.specs.Scripts.{IsScript}
use Rattle.zs_drive.specs.Values.{JobRecord}
use Rattle.zs_drive.specs.Turns.{TakesMemory}
use Rattle.futures.specs.declared.task.Poll.TheVariants.{Ready}
use Rattle.zs_drive.specs.Tasks.{EndsByOutcome}
use Rattle.zs_drive.specs.Fields.{task_of}
use Rattle.zs_drive.proofs.Refusing.{refused-EndsByOutcome, done-whole}
use Rattle.zs_drive.proofs.task.TaskFuture.poll.Goals as goal

-- a turn that was done doesn't break the task
pub invariant_of-self-in-Ok : goal.invariant_of-self-in-Ok
invariant_of-self-in-Ok c =
    let done : c.advance.result ≡ Ready (Ok c.in-Ok.field-0) = cc in
    let held : c.deref_mut.result.now ≡ c.self.inside.progress.value = cc in
    let whole = done-whole c.self.inside.progress.value c.advance.new.self c.advance.result
    c.in-Ok.field-0 done
    (rw held at c.advance.ensures.over) (rw held at c.advance.ensures.early)
    (rw held at c.advance.ensures.due) in
    record {
      progress = whole.0;
      state = λ _. whole.1;
      script = subst (λ (beats : List Beat). IsScript beats)
          (sym (ap (λ (job : JobRecord). job.script) whole.2)) c.self.invariant.script;
      unended = λ broken. let unbroken : c.self.inside.broken ≡ false = cc in
          let clash : false ≡ true = sym unbroken ∙ broken in cc;
    }

pub returns-in-Err-clause-outcome : goal.returns-in-Err-clause-outcome
returns-in-Err-clause-outcome c = λ _ ending ends.
    let refused : c.advance.result ≡ Ready (Err c.in-Err.fault) = cc in
    let by : EndsByOutcome (task_of c.self.inside) ending = rw c.self.view_is ends in
    let held : c.deref_mut.result.now ≡ c.self.inside.progress.value = cc in
    let takes : IfReady c.advance.result
    (λ answer. OnErr answer
    (TakesMemory c.self.inside.progress.value.mode c.self.inside.progress.value.phase)) =
    rw held at c.advance.ensures.refused in
    absurd (refused-EndsByOutcome c.self.inside c.advance.result c.in-Err.fault tt
    c.self.invariant refused
    (λ e. (c.advance.ensures.early (rw held e)).0) (λ o. (c.advance.ensures.over (rw held o)).0)
    takes ending by)
