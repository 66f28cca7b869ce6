use Rattle.zs_job_bounds.proofs.Plans.{scripts-have_inputs, takes-any-in_plan, promised-in_report, computed-in_report}
use Rattle.zs_job_bounds.proofs.laws.plans_are_within_bounds.Goals as goal

pub returns-clause-inputs : goal.returns-clause-inputs
returns-clause-inputs c = scripts-have_inputs

pub returns-clause-any : goal.returns-clause-any
returns-clause-any c = takes-any-in_plan

pub returns-clause-promised : goal.returns-clause-promised
returns-clause-promised c = promised-in_report

pub returns-clause-computed : goal.returns-clause-computed
returns-clause-computed c = computed-in_report
