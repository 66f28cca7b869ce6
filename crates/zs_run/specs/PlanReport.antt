-- The report of a plan: each job separately on the clock, as if there were no other, and the number
-- of all due polls.
use Rattle.std.specs.Prelude.{ℕ, List, length, map, sum_by, codes, ◌++◌}
use Rattle.std.specs.List.{flat_map}
use Rattle.std.specs.Fmt.{decimal}
use Rattle.zs_agenda.specs.Ticks.{Ticks, horizon}
use Rattle.zs_drive.specs.Values.{JobRecord}
use Rattle.zs_drive.specs.Timeline.{timeline_of, poll_moments}
use Rattle.zs_engine.specs.Times.{ticks_of}
use Rattle.zs_run.specs.Plan.{PlanRecord}
use Rattle.zs_run.specs.Report.{JobReport, job_lines, report_text}

-- the report of a job on these ticks
abbrev pub job_report : List ℕ → JobRecord → JobReport
job_report ticks job =
    let timeline = timeline_of job ticks in
    record {
      name = job.name;
      mode = job.mode;
      attempts = timeline.attempts;
      ending = timeline.ending;
      polls = length (poll_moments timeline.attempts);
    }

-- the report of a plan
abbrev pub report_of : PlanRecord → List ℕ
report_of plan = let jobs = map (job_report (ticks_of plan.clock)) plan.jobs in
    report_text (horizon plan.clock) jobs (sum_by (λ job. job.polls) jobs)

-- the lines of jobs on a clock
abbrev pub jobs_text : Ticks → List JobRecord → List ℕ
jobs_text clock jobs = flat_map (job_lines (horizon clock)) (map (job_report (ticks_of clock)) jobs)

-- the number of due polls of all jobs together
abbrev pub polls_of : Ticks → List JobRecord → ℕ
polls_of clock jobs = sum_by (λ job. job.polls) (map (job_report (ticks_of clock)) jobs)

-- the lines of jobs, followed by the line with the number of due polls
abbrev pub with_total : List ℕ → ℕ → List ℕ
with_total text polls = text ++ codes "polls " ++ decimal polls ++ codes "\n"
