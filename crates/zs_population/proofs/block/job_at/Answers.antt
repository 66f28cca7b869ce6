use Rattle.std.proofs.lemmas.Result.{err_from_is_err_and}
use Rattle.zs_drive.specs.Values.{job_record}
use Rattle.zs_population.proofs.JobsLemmas.{job-at-fault, job-at-ok, job-at-range}
use Rattle.zs_population.proofs.block.job_at.Goals as goal

-- the line is no job
pub returns-in_err-job-clause-fault : goal.returns-in_err-job-clause-fault
returns-in_err-job-clause-fault c =
    let p = err_from_is_err_and c.from_residual.result c.from_residual.ensures.1 in
    rw (p.1, p.2) (λ other earlier knows. job-at-fault c.args.number earlier c.args.line.now
    c.in_err-job.field-0.0 (c.in_err-job.ensures.job earlier knows other))

-- there are too many
pub returns-then-number-ge-MAX_POPULATION-clause-fault :
    goal.returns-then-number-ge-MAX_POPULATION-clause-fault
returns-then-number-ge-MAX_POPULATION-clause-fault c = λ other earlier knows.
    job-at-range c.args.number earlier c.args.line.now (job_record c.in_ok-job.job)
    (c.in_ok-job.ensures.job earlier knows) c.if-number-ge-MAX_POPULATION.true

-- it is a job
pub returns-clause-job : goal.returns-clause-job
returns-clause-job c = λ earlier knows.
    job-at-ok c.args.number earlier c.args.line.now (job_record c.in_ok-job.job)
    (c.in_ok-job.ensures.job earlier knows) c.if-number-ge-MAX_POPULATION.false
