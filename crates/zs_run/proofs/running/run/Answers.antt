use Rattle.std.proofs.Common.{◌≡◌, ◌∙◌}
use Rattle.zs_run.specs.PlanReport.{report_of}
use Rattle.zs_run.specs.PlanView.{plan_record}
use Rattle.zs_run.proofs.running.run.Goals as goal

-- the report of the plan was written
pub returns-in-Ok-write_all : goal.returns-in-Ok-write_all
returns-in-Ok-write_all g c =
    let told : c.as_bytes.result.now ≡ report_of (plan_record c.in_ok-plan.plan) =
    c.as_bytes.ensures.value ∙ c.in-Ok.ensures.text in
    record {
      ends = (
        c.in_ok-plan.ensures.reads.0,
        c.in-Ok-write_all.ensures.marks,
        (
          plan_record c.in_ok-plan.plan,
          c.in_ok-plan.ensures.reads.1,
          rw told at c.in-Ok-write_all.ensures.ok,
        ),
        c.in-Ok-write_all.ensures.flushed,
      );
      pulls = c.in_ok-plan.ensures.pulls;
    }

-- a part of it was written
pub returns : goal.returns
returns g c =
    let told : c.as_bytes.result.now ≡ report_of (plan_record c.in_ok-plan.plan) =
    c.as_bytes.ensures.value ∙ c.in-Ok.ensures.text in
    record {
      ends = (
        c.in_ok-plan.ensures.reads.0,
        c.in-Err-write_all.ensures.marks,
        (
          plan_record c.in_ok-plan.plan,
          c.in_ok-plan.ensures.reads.1,
          (
            rw told at c.in-Err-write_all.ensures.within,
            rw told at c.in-Err-write_all.ensures.err,
          ),
        ),
      );
      pulls = c.in_ok-plan.ensures.pulls;
    }
