use Rattle.zs_engine.proofs.jobs.run_jobs.Goals as goal

pub run-requires-clause-new : goal.run-requires-clause-new
run-requires-clause-new g c = λ _ _. c.in_ok-engine.ensures.new

pub run-requires-clause-empty : goal.run-requires-clause-empty
run-requires-clause-empty g c = λ _ _. c.in_ok-engine.ensures.empty.1

pub returns : goal.returns
returns g c = record {
  answer = rw (
    c.in_ok-run.ensures.jobs,
    c.in_ok-run.ensures.clock,
    c.in_ok-engine.ensures.empty.0,
  ) at c.finish.ensures.answer;
}
