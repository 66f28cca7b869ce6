use Rattle.zs_bounds.specs.BoundsOf.{bounds_of}
use Rattle.zs_bounds.proofs.Promising.{bounds_of-promises}
use Rattle.zs_job_bounds.proofs.Within.{within-bounds}
use Rattle.zs_job_bounds.proofs.laws.jobs_are_within_bounds.Goals as goal

pub returns-clause-promised : goal.returns-clause-promised
returns-clause-promised c job ticks script inputs clock d takes b promises = within-bounds d job b takes.waits promises script inputs ticks clock takes

pub returns-clause-computed : goal.returns-clause-computed
returns-clause-computed c job ticks script inputs clock d takes steps factors =
    within-bounds d job (bounds_of job.schedule d steps) takes.waits (bounds_of-promises job.schedule d steps factors) script inputs ticks clock takes
