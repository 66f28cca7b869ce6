use Rattle.std.proofs.Common.{◌∙◌, refl}
use Rattle.zs_drive.specs.Values.{job_record}
use Rattle.zs_engine.proofs.EngineLemmas.{IsNew-add, jobs-add}
use Rattle.zs_engine.proofs.engine.Engine.add.Goals as goal

pub returns : goal.returns
returns c = record {
  new =
      IsNew-add c.args.self.now _ (job_record c.args.job) c.in_ok-task.task c.len.result
      c.requires.new c.requires.few c.in_ok-task.ensures.made c.in_ok-push.ensures.items
      (c.len.ensures ∙ c.args.self.now.slots.ok.0) c.in_ok-task.ensures.script refl
      c.in_ok-set_timer.ensures.ok;
  clock = refl;
  jobs = jobs-add c.args.self.now.slots.items _ (job_record c.args.job) c.in_ok-task.task
      c.len.result c.in_ok-task.ensures.made c.in_ok-push.ensures.items;
}
