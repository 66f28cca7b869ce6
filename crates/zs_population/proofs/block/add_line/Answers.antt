use Rattle.std.proofs.Common.{◌∷◌, [], List, map, ap, ◌∙◌}
use Rattle.std.proofs.lemmas.List.{map-append}
use Rattle.zs_drive.specs.Values.{job_record}
use Rattle.zs_drive.specs.declared.job.Job.{Job}
use Rattle.zs_population.proofs.block.add_line.Goals as goal

-- the job and its name were appended to those before
pub returns-clause-job : goal.returns-clause-job
returns-clause-job c = λ earlier knows. (
  job_record c.in_ok-job.job,
  c.in_ok-job.ensures.job earlier knows,
  ap (λ (jobs : List Job). map job_record jobs) c.in_ok-add_job.ensures.jobs
      ∙ map-append job_record c.args.jobs.now.items (c.in_ok-job.job ∷ []),
  c.in_ok-add_job.ensures.names earlier knows,
)
