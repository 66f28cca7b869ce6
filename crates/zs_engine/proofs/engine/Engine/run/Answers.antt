use Rattle.std.proofs.Common.{◌≡◌, ◌∙◌, [], ap, refl, List, length, arith, append_assoc, append-nil}
use Rattle.std.proofs.Common.{length-append}
use Rattle.std.specs.Vec.Iter.{into_iter_items}
use Rattle.std.proofs.lemmas.List.{length-map, nil_from_length}
use Rattle.std.proofs.lemmas.Result.{on_ok_weaker}
use Rattle.zs_drive.specs.Values.{JobRecord}
use Rattle.zs_engine.specs.Engine.{IsSameRun}
use Rattle.zs_engine.proofs.engine.Engine.run.Goals as goal

pub loop-job-init : goal.loop-job-init
loop-job-init g c = record {
  new = c.requires.new;
  clock = refl;
  jobs = rw (c.requires.empty, c.into_iter-job-iterator.ensures.into_iter_gives.0) refl;
}

pub add-requires-clause-few : goal.add-requires-clause-few
add-requires-clause-few g c =
    let jobs = rw c.in-Some.ensures.steps.0 at c.loop-job.invariant.jobs in
    omega (
      arith,
      simp (length-append, length-map) at
          (ap (λ (js : List JobRecord). length js) jobs),
      c.requires.few,
    )

pub loop-job-preserved : goal.loop-job-preserved
loop-job-preserved g c = record {
  new = c.in_ok-add.ensures.new;
  clock = c.in_ok-add.ensures.clock ∙ c.loop-job.invariant.clock;
  jobs = rw (c.in_ok-add.ensures.jobs, append_assoc)
      (rw c.in-Some.ensures.steps.0 at c.loop-job.invariant.jobs);
}

pub run_all-requires-clause-rests : goal.run_all-requires-clause-rests
run_all-requires-clause-rests g c = λ _ _. c.loop-job.invariant.new.rests

pub returns : goal.returns
returns g c =
    let it = c.loop-job.job-iterator in
    let none : into_iter_items it ≡ [] =
    nil_from_length (into_iter_items it)
    (omega (arith, it.rest.ok.0, c.in-None.ensures.steps.0)) in
    let jobs = rw (none, append-nil) at c.loop-job.invariant.jobs in
    record {
      rests = c.run_all.ensures.rests;
      clock = on_ok_weaker c.run_all.result
          (λ (same : IsSameRun c.loop-job.self c.run_all.new.self). same.clock
          ∙ c.loop-job.invariant.clock) c.run_all.ensures.same;
      jobs = on_ok_weaker c.run_all.result (λ (same : IsSameRun c.loop-job.self c.run_all.new.self).
          same.jobs ∙ jobs) c.run_all.ensures.same;
      over = c.run_all.ensures.over;
    }
