use Rattle.zs_job_bounds.proofs.Plans.{every_ms-ticks, promised-run-in_report, computed-run-in_report}
use Rattle.zs_job_bounds.proofs.laws.plans_end_in_time.Goals as goal

pub returns-clause-each_ms : goal.returns-clause-each_ms
returns-clause-each_ms c = every_ms-ticks

pub returns-clause-promised : goal.returns-clause-promised
returns-clause-promised c = promised-run-in_report

pub returns-clause-computed : goal.returns-clause-computed
returns-clause-computed c = computed-run-in_report
