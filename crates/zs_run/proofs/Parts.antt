-- A report of parts of a plan's jobs.
use Rattle.std.proofs.Common.{◌≡◌, ℕ, ◌+◌, List, [], ◌∷◌, ◌++◌, map, sym, ap, ◌∙◌, refl}
use Rattle.std.specs.Prelude.{sum_by}
use Rattle.std.specs.List.{flat_map}
use Rattle.std.proofs.lemmas.Grind.{flat_map-append}
use Rattle.std.proofs.lemmas.List.{map-append}
use Rattle.std.proofs.lemmas.List.Sums.{sum_by-append, sum_by-cons}
use Rattle.zs_agenda.specs.Ticks.{Ticks, horizon}
use Rattle.zs_drive.specs.Values.{JobRecord}
use Rattle.zs_engine.specs.Times.{ticks_of}
use Rattle.zs_run.specs.Plan.{PlanRecord}
use Rattle.zs_run.specs.Report.{JobReport, job_lines}
use Rattle.zs_run.specs.PlanReport.{job_report, jobs_text, polls_of, report_of, with_total}

-- the lines of two parts
pub text_of_two : (clock : Ticks) (xs ys : List JobRecord) →
    jobs_text clock (xs ++ ys) ≡ jobs_text clock xs ++ jobs_text clock ys
text_of_two clock xs ys =
    let f : JobReport → List ℕ = job_lines (horizon clock) in
    let g : JobRecord → JobReport = job_report (ticks_of clock) in
    ap (flat_map f) (map-append g xs ys) ∙ flat_map-append f (map g xs) (map g ys)

-- the polls of two parts
pub polls_of_two : (clock : Ticks) (xs ys : List JobRecord) →
    polls_of clock (xs ++ ys) ≡ polls_of clock xs + polls_of clock ys
polls_of_two clock xs ys =
    let p : JobReport → ℕ = λ job. job.polls in
    let g : JobRecord → JobReport = job_report (ticks_of clock) in
    ap (sum_by p) (map-append g xs ys) ∙ sum_by-append p (map g xs) (map g ys)

-- the lines of parts
text_of_parts : (clock : Ticks) (parts : List (List JobRecord)) →
    jobs_text clock (flat_map (λ part. part) parts) ≡ flat_map (jobs_text clock) parts
text_of_parts clock [] = refl
text_of_parts clock (part ∷ parts) =
    text_of_two clock part (flat_map (λ part. part) parts)
    ∙ ap (λ more. jobs_text clock part ++ more) (text_of_parts clock parts)

-- the polls of parts
polls_of_parts : (clock : Ticks) (parts : List (List JobRecord)) →
    polls_of clock (flat_map (λ part. part) parts) ≡ sum_by (polls_of clock) parts
polls_of_parts clock [] = refl
polls_of_parts clock (part ∷ parts) =
    polls_of_two clock part (flat_map (λ part. part) parts)
    ∙ ap (λ more. polls_of clock part + more) (polls_of_parts clock parts)
    ∙ sym (sum_by-cons (polls_of clock) part parts)

-- a report in the words of its parts
pub report_of_part : (p : PlanRecord) →
    report_of p ≡ with_total (jobs_text p.clock p.jobs) (polls_of p.clock p.jobs)
report_of_part p = refl

-- the report of two parts' jobs
pub report_of_two : (p : PlanRecord) (xs ys : List JobRecord) → p.jobs ≡ xs ++ ys →
    report_of p ≡ with_total (jobs_text p.clock xs ++ jobs_text p.clock ys)
    (polls_of p.clock xs + polls_of p.clock ys)
report_of_two p xs ys is =
    ap (λ jobs. with_total (jobs_text p.clock jobs) (polls_of p.clock jobs)) is
    ∙ ap (λ text. with_total text (polls_of p.clock (xs ++ ys))) (text_of_two p.clock xs ys)
    ∙ ap (λ polls. with_total (jobs_text p.clock xs ++ jobs_text p.clock ys) polls)
    (polls_of_two p.clock xs ys)

-- the report of all parts' jobs
pub report_of_parts : (p : PlanRecord) (parts : List (List JobRecord)) →
    p.jobs ≡ flat_map (λ part. part) parts →
    report_of p ≡ with_total (flat_map (jobs_text p.clock) parts) (sum_by (polls_of p.clock) parts)
report_of_parts p parts is =
    ap (λ jobs. with_total (jobs_text p.clock jobs) (polls_of p.clock jobs)) is
    ∙ ap (λ text. with_total text (polls_of p.clock (flat_map (λ part. part) parts)))
    (text_of_parts p.clock parts)
    ∙ ap (λ polls. with_total (flat_map (jobs_text p.clock) parts) polls)
    (polls_of_parts p.clock parts)

-- a report depends on the clock and the jobs alone
pub report_of_same : (p q : PlanRecord) → p.clock ≡ q.clock → p.jobs ≡ q.jobs →
    report_of p ≡ report_of q
report_of_same p q clocks jobs =
    ap (λ clock. with_total (jobs_text clock p.jobs) (polls_of clock p.jobs)) clocks
    ∙ ap (λ jobs. with_total (jobs_text q.clock jobs) (polls_of q.clock jobs)) jobs
