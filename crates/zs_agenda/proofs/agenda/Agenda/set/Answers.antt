use Rattle.std.proofs.Common.{◌≡◌, None, Result, Ok, Err, OnErr, refl, sym, ap, ◌∙◌, subst, nat_cmp}
use Rattle.std.specs.FinMap as map
use Rattle.std.specs.BTreeMap as tree
use Rattle.zs_agenda.specs.Indexes.{ByJob, HasSameMoments, jobs_at, moments_of}
use Rattle.zs_agenda.specs.Timers.{Timers, IsAfter}
use Rattle.zs_agenda.proofs.IndexLemmas.{added-Agrees, same-Agrees, same_moments, moments_of-put}
use Rattle.zs_agenda.proofs.IndexLemmas.{get-moments_of, put_and_forgotten}
use Rattle.zs_agenda.proofs.agenda.Agenda.set.Goals as goal

pub invariant_of-self-in-Ok : goal.invariant_of-self-in-Ok
invariant_of-self-in-Ok c =
    let n : ByJob = c.self.inside.by_job in
    let unset : tree.get nat_cmp n c.args.job ≡ None =
    sym (get-moments_of n c.args.job) ∙ ap (λ (t : Timers). map.get t.moments c.args.job)
    c.self.view_is ∙ c.requires.absent in
    let later : IsAfter c.self.inside.last_taken c.args.moment =
    subst (λ (t : Timers). IsAfter t.last_taken c.args.moment) (sym c.self.view_is)
    c.requires.ahead in
    added-Agrees (jobs_at c.self.inside.by_moment) (jobs_at c.add.new.by_moment)
    (tree.get nat_cmp n) (tree.get nat_cmp c.put.new.by_job) c.self.inside.last_taken c.args.job
    c.args.moment
    c.in-Ok.ensures.ok c.in_ok-put.ensures.ok c.self.invariant unset later

pub returns-in-Ok-clause-ok : goal.returns-in-Ok-clause-ok
returns-in-Ok-clause-ok c =
    let moments : moments_of c.put.new.by_job
    ≡ map.insert c.args.self.now.moments c.args.job c.args.moment =
    moments_of-put c.self.inside.by_job c.put.new.by_job c.args.job c.args.moment
    c.in_ok-put.ensures.ok
    ∙ ap (λ (t : Timers). map.insert t.moments c.args.job c.args.moment) c.self.view_is in
    let taken : c.self.inside.last_taken ≡ c.args.self.now.last_taken =
    ap (λ (t : Timers). t.last_taken) c.self.view_is in
    rw (moments, taken) refl

pub invariant_of-self-in-Err : goal.invariant_of-self-in-Err
invariant_of-self-in-Err c =
    let n : ByJob = c.self.inside.by_job in
    let unset : tree.get nat_cmp n c.args.job ≡ None =
    sym (get-moments_of n c.args.job) ∙ ap (λ (t : Timers). map.get t.moments c.args.job)
    c.self.view_is ∙ c.requires.absent in
    let same : HasSameMoments n c.forget.new.by_job =
    put_and_forgotten n c.put.new.by_job c.forget.new.by_job c.args.job c.args.moment unset
    c.in_ok-put.ensures.ok c.forget.ensures.forgets in
    same-Agrees (jobs_at c.self.inside.by_moment) (jobs_at c.add.new.by_moment) (tree.get nat_cmp n)
    (tree.get nat_cmp c.forget.new.by_job) c.self.inside.last_taken
    c.in-Err.ensures.err same c.self.invariant

pub returns-in-Err-clause-err : goal.returns-in-Err-clause-err
returns-in-Err-clause-err c =
    let n : ByJob = c.self.inside.by_job in
    let unset : tree.get nat_cmp n c.args.job ≡ None =
    sym (get-moments_of n c.args.job) ∙ ap (λ (t : Timers). map.get t.moments c.args.job)
    c.self.view_is ∙ c.requires.absent in
    let same : HasSameMoments n c.forget.new.by_job =
    put_and_forgotten n c.put.new.by_job c.forget.new.by_job c.args.job c.args.moment unset
    c.in_ok-put.ensures.ok c.forget.ensures.forgets in
    rw (same_moments n c.forget.new.by_job same) c.self.view_is

on_err : {A B : Type 0} (r : Result A B) (P : Type 0) → P → OnErr r P
on_err (Ok a) P p = tt
on_err (Err e) P p = p

pub returns-in_err-put-clause-err : goal.returns-in_err-put-clause-err
returns-in_err-put-clause-err c =
    on_err c.from_residual.result _
    (rw (same_moments c.self.inside.by_job c.put.new.by_job c.in_err-put.ensures.err)
    c.self.view_is)
