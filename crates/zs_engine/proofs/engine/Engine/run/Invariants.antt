use Rattle.std.proofs.Common.{◌≡◌, ◌++◌, map}
use Rattle.std.specs.Vec.Iter.{into_iter_items}
use Rattle.zs_drive.specs.Values.{job_record}
use Rattle.zs_engine.specs.Rounds.{jobs_in}
use Rattle.zs_engine.specs.Engine.{IsNew}
use Rattle.zs_engine.proofs.engine.Engine.run.Given as goal

abbrev pub invariant-loop-job : goal.invariant-loop-job
invariant-loop-job g l = record {
  new : IsNew l.self;
  clock : l.self.clock ≡ l.fn.self.clock;
  jobs : jobs_in l.self.slots.items ++ map job_record (into_iter_items l.job-iterator)
      ≡ map job_record l.fn.jobs.items;
}
