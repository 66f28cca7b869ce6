use Rattle.zs_run.proofs.ReportsApart.{equal_jobs, equal_totals, equal_horizons, equal_reports}
use Rattle.zs_run.proofs.laws.reports_tell_apart.Goals as goal

pub returns : goal.returns
returns c = record {
  jobs = equal_jobs;
  totals = equal_totals;
  horizons = equal_horizons;
  plans = equal_reports;
}
