use Rattle.std.proofs.Common.{◌≡◌, ◌++◌, ◌∷◌, [], ◌∙◌, ℕ, List, sym, ap, refl, length}
use Rattle.std.proofs.Common.{length-append, Ok, Err, rules, arith}
use Rattle.std.specs.Vec.Iter.{into_iter_items}
use Rattle.std.proofs.lemmas.List.{map-append, nil_from_length}
use Rattle.std.proofs.lemmas.Result.{err_from_is_err_and}
use Rattle.serde_json.specs.declared.value.Value.{Value}
use Rattle.zs_drive.specs.Values.{job_record}
use Rattle.zs_drive.specs.declared.job.Job.{Job}
use Rattle.zs_run.specs.Names.{KnowsNames}
use Rattle.zs_run.specs.Jobs.{job_of}
use Rattle.serde_json.specs.View.{view}
use Rattle.zs_run.proofs.JobLemmas.{names_of, after_none, after_step, after_fault, after_all}
use Rattle.zs_run.proofs.job_reading.jobs_of.Goals as goal

-- no job yet, and all values
pub loop-value-init : goal.loop-value-init
loop-value-init c =
    let all : into_iter_items c.into_iter-value-iterator.result ≡ c.args.values.items =
    c.into_iter-value-iterator.ensures.into_iter_gives.0 in
    let none : c.new-jobs.result.items ≡ [] = search rules in
    record {
      number = rw none refl;
      count = rw all (omega arith);
      names = rw none (search rules);
      jobs = rw (none, all) (after_none _);
    }

-- the jobs so far are fewer than the values
pub overflow_add-number : goal.overflow_add-number
overflow_add-number c =
    let step : into_iter_items c.loop-value.value-iterator
    ≡ c.in-Some.value ∷ into_iter_items c.next.new.self = c.in-Some.ensures.steps.0 in
    omega (
      arith,
      ap (λ (vs : List Value). length vs) step,
      c.loop-value.invariant.count,
      c.requires.room,
    )

-- a job has a fault, which is the first of all jobs
pub returns-in_err-job-clause-jobs : goal.returns-in_err-job-clause-jobs
returns-in_err-job-clause-jobs c =
    let p = err_from_is_err_and c.from_residual.result c.from_residual.ensures.1 in
    let rest : List Value = into_iter_items c.next.new.self in
    let step : into_iter_items c.loop-value.value-iterator ≡ c.in-Some.value ∷ rest =
    c.in-Some.ensures.steps.0 in
    rw (p.1, p.2) (λ other.
    let fault : job_of c.loop-value.number (names_of c.loop-value.jobs.items) (view c.in-Some.value)
    ≡ Err c.in_err-job.field-0.0 =
    c.in_err-job.ensures.value (names_of c.loop-value.jobs.items)
    c.loop-value.invariant.names other in
    sym c.loop-value.invariant.jobs ∙ rw step (after_fault _ _ _ c.in-Some.value rest _ fault))

-- one more job and its name
pub loop-value-preserved : goal.loop-value-preserved
loop-value-preserved c =
    let rest : List Value = into_iter_items c.next.new.self in
    let step : into_iter_items c.loop-value.value-iterator ≡ c.in-Some.value ∷ rest =
    c.in-Some.ensures.steps.0 in
    let before : List Job = c.loop-value.jobs.items in
    let items : c.add_job.new.jobs.items ≡ before ++ c.in_ok-job.job ∷ [] = search rules in
    let known : (earlier : List (List ℕ)) → KnowsNames c.loop-value.names earlier
    → KnowsNames c.add_job.new.names (earlier ++ (job_record c.in_ok-job.job).name ∷ []) =
    search rules in
    let given : job_of c.loop-value.number (names_of before) (view c.in-Some.value)
    ≡ Ok (job_record c.in_ok-job.job) =
    c.in_ok-job.ensures.value (names_of before) c.loop-value.invariant.names in
    record {
      number = rw items
          (omega (
            arith,
            length-append before (c.in_ok-job.job ∷ []),
            c.loop-value.invariant.number,
          ));
      count = omega (arith, ap (λ (vs : List Value). length vs) step, c.loop-value.invariant.count);
      names = rw (items, map-append (λ (job : Job). (job_record job).name))
          (known (names_of before) c.loop-value.invariant.names);
      jobs = rw (items, map-append job_record, map-append (λ (job : Job). (job_record job).name))
          (sym (after_step _ _ _ c.in-Some.value rest _ given)
          ∙ rw step at c.loop-value.invariant.jobs);
    }

-- no job remains
pub returns-clause-jobs : goal.returns-clause-jobs
returns-clause-jobs c =
    let it = c.loop-value.value-iterator in
    let none : into_iter_items it ≡ [] =
    nil_from_length (into_iter_items it)
    (omega (arith, it.rest.ok.0, c.in-None.ensures.steps.0)) in
    sym c.loop-value.invariant.jobs ∙ rw none (after_all _ _ _)

pub returns-clause-count : goal.returns-clause-count
returns-clause-count c =
    let it = c.loop-value.value-iterator in
    let none : into_iter_items it ≡ [] =
    nil_from_length (into_iter_items it)
    (omega (arith, it.rest.ok.0, c.in-None.ensures.steps.0)) in
    omega (
      arith,
      ap (λ (vs : List Value). length vs) none,
      c.loop-value.invariant.number,
      c.loop-value.invariant.count,
    )
