use Rattle.zs_bounds.specs.Driven.{exact_driver}
use Rattle.zs_job_bounds.proofs.Histories.{takes-any, each_ms-takes, apart-within, steps-on-histories, histories-driven}
use Rattle.zs_job_bounds.proofs.laws.histories_are_driven.Goals as goal

pub returns-clause-stepped : goal.returns-clause-stepped
returns-clause-stepped c job ticks script inputs clock =
    steps-on-histories exact_driver job script inputs ticks clock (takes-any job ticks script)

pub returns-clause-driven : goal.returns-clause-driven
returns-clause-driven c job ticks script inputs clock d takes = histories-driven d job script inputs ticks clock takes

pub returns-clause-any : goal.returns-clause-any
returns-clause-any c job ticks script inputs clock = takes-any job ticks script

pub returns-clause-each_ms : goal.returns-clause-each_ms
returns-clause-each_ms c job ticks script inputs clock = each_ms-takes job ticks

pub returns-clause-apart : goal.returns-clause-apart
returns-clause-apart c = apart-within
