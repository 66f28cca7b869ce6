-- The engine's result is what the report of the plan says.
use Rattle.std.proofs.Common.{◌≡◌, ◌+◌, ℕ, List, [], ◌∷◌, length, map, refl, sym, ap, ◌∙◌, sum_by}
use Rattle.std.specs.List.{flat_map}
use Rattle.std.proofs.lemmas.List.Sums.{sum_by-cons}
use Rattle.zs_agenda.specs.Ticks.{Ticks, horizon}
use Rattle.zs_drive.specs.Values.{JobRecord, job_record}
use Rattle.zs_drive.specs.Timeline.{Timeline, timeline_of}
use Rattle.zs_drive.specs.Tasks.{TaskValue, current_timeline}
use Rattle.zs_drive.specs.declared.job.Job.{Job}
use Rattle.zs_engine.specs.Times.{ticks_of}
use Rattle.zs_engine.specs.Answers.{IsAnswer, poll_count_of, poll_moments_of}
use Rattle.zs_engine.specs.declared.answer.Answer.{Answer}
use Rattle.zs_run.specs.Report.{JobReport, job_lines, report_text}
use Rattle.zs_run.specs.ReportView.{task_report}
use Rattle.zs_run.specs.PlanReport.{job_report, jobs_text, polls_of, with_total}

abbrev first : {A : Type 0} → A → List A → A
first d [] = d
first d (x ∷ xs) = x

abbrev others : {A : Type 0} → List A → List A
others [] = []
others (x ∷ xs) = xs

-- what a report says of a job with this timeline and these due polls
abbrev told : JobRecord → Timeline → List ℕ → JobReport
told job timeline moments = record {
  name = job.name;
  mode = job.mode;
  attempts = timeline.attempts;
  ending = timeline.ending;
  polls = length moments;
}

report_at : (ticks : List ℕ) (task : TaskValue)
    → current_timeline task ≡ timeline_of task.job ticks
    → task.moments ≡ poll_moments_of ticks task.job
    → task_report task ≡ job_report ticks task.job
report_at ticks task timeline moments =
    ap (λ t. told task.job t task.moments) timeline
    ∙ ap (told task.job (timeline_of task.job ticks)) moments

-- the lines of each task are those of its job alone
each_report : (ticks : List ℕ) (tasks : List TaskValue)
    → map current_timeline tasks ≡ map (λ job. timeline_of job ticks) (map (λ task. task.job) tasks)
    → map (λ task. task.moments) tasks ≡ map (poll_moments_of ticks) (map (λ task. task.job) tasks)
    → map task_report tasks ≡ map (job_report ticks) (map (λ task. task.job) tasks)
each_report ticks [] timelines moments = refl
each_report ticks (task ∷ tasks) timelines moments =
    let here : task_report task ≡ job_report ticks task.job =
    report_at ticks task (ap (first (current_timeline task)) timelines)
    (ap (first task.moments) moments) in
    let rest : map task_report tasks ≡ map (job_report ticks) (map (λ task. task.job) tasks) =
    each_report ticks tasks (ap others timelines) (ap others moments) in
    rw (here, rest) refl

-- the due polls of all jobs are the sum of those of each
count_told : (ticks : List ℕ) (jobs : List JobRecord) →
    poll_count_of ticks jobs ≡ sum_by (λ job. job.polls) (map (job_report ticks) jobs)
count_told ticks [] = refl
count_told ticks (job ∷ jobs) =
    ap (λ n. length (poll_moments_of ticks job) + n) (count_told ticks jobs)
    ∙ sym (sum_by-cons (λ (job : JobReport). job.polls) (job_report ticks job)
    (map (job_report ticks) jobs))

-- the lines of a result's tasks are those of the jobs
pub lines_of_answer : (clock : Ticks) (jobs : List Job) (answer : Answer)
    → IsAnswer clock (map job_record jobs) answer
    → flat_map (job_lines answer.horizon) (map task_report answer.tasks.items)
    ≡ jobs_text clock (map job_record jobs)
lines_of_answer clock jobs answer is =
    let ticks : List ℕ = ticks_of clock in
    let tasks : List TaskValue = answer.tasks.items in
    let values : map (λ task. task.job) tasks ≡ map job_record jobs = is.same_jobs in
    let timelines : map current_timeline tasks
    ≡ map (λ job. timeline_of job ticks) (map (λ task. task.job) tasks) =
    is.timelines ∙ ap (map (λ job. timeline_of job ticks)) (sym values) in
    let moments : map (λ task. task.moments) tasks
    ≡ map (poll_moments_of ticks) (map (λ task. task.job) tasks) =
    is.moments ∙ ap (map (poll_moments_of ticks)) (sym values) in
    let reports : map task_report tasks ≡ map (job_report ticks) (map job_record jobs) =
    each_report ticks tasks timelines moments ∙ ap (map (job_report ticks)) values in
    ap (λ h. flat_map (job_lines h) (map task_report tasks)) is.last
    ∙ ap (λ rs. flat_map (job_lines (horizon clock)) rs) reports

-- the polls of a result are those of the jobs
pub polls_of_answer : (clock : Ticks) (jobs : List Job) (answer : Answer)
    → IsAnswer clock (map job_record jobs) answer
    → answer.polls ≡ polls_of clock (map job_record jobs)
polls_of_answer clock jobs answer is =
    let ticks : List ℕ = ticks_of clock in
    is.polls ∙ count_told ticks (map job_record jobs)

-- the report of a result is that of the jobs
pub report_of_answer : (clock : Ticks) (jobs : List Job) (answer : Answer)
    → IsAnswer clock (map job_record jobs) answer
    → report_text answer.horizon (map task_report answer.tasks.items) answer.polls
    ≡ with_total (jobs_text clock (map job_record jobs)) (polls_of clock (map job_record jobs))
report_of_answer clock jobs answer is =
    ap (λ text. with_total text answer.polls) (lines_of_answer clock jobs answer is)
    ∙ ap (with_total (jobs_text clock (map job_record jobs))) (polls_of_answer clock jobs answer is)
