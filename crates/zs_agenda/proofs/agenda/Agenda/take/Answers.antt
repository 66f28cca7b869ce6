use Rattle.std.proofs.Common.{◌≡◌, Some, true, false, refl, subst}
use Rattle.zs_agenda.specs.Timers.{Timers, Takes}
use Rattle.zs_agenda.specs.Indexes.{moments_of}
use Rattle.zs_agenda.proofs.IndexLemmas.{first-of, some-moment, no-moment, take-IsAgenda}
use Rattle.zs_agenda.proofs.IndexLemmas.{take-Takes, taken-all}
use Rattle.zs_agenda.proofs.agenda.Agenda.take.Goals as goal

pub returns-in_default-clause-none : goal.returns-in_default-clause-none
returns-in_default-clause-none c = (
  (λ _. rw (← c.self.view_is) (no-moment c.self.inside.by_moment c.self.inside.by_job _
      c.self.invariant (λ l. let clash : false ≡ true = c.in_default.ensures.variant.1 l in cc))),
  (λ _. refl),
)

pub invariant_of-self-2 : goal.invariant_of-self-2
invariant_of-self-2 c =
    take-IsAgenda c.self.inside.by_moment c.pop_first.new.self c.self.inside.by_job
    c.forget_first.new.by_job c.self.inside.last_taken c.in-Some.moment c.in-Some.jobs
    c.deref.result.now
    c.self.invariant c.in-Some.ensures.value c.in-Some.ensures.least c.in-Some.ensures.updates.0
    c.deref.ensures.value c.forget_first.ensures.forgets

pub returns-clause-none : goal.returns-clause-none
returns-clause-none c = (
  (λ no. let clash : true ≡ false = no in cc),
  rw (← c.self.view_is)
      (λ e. absurd (some-moment c.self.inside.by_moment c.self.inside.by_job _ c.self.invariant
      c.in-Some.moment c.in-Some.jobs.items
      (first-of c.self.inside.by_moment _ _ c.in-Some.ensures.value c.in-Some.ensures.least) e)),
)

pub returns-clause-some : goal.returns-clause-some
returns-clause-some c =
    let new : Timers = record {
      moments = moments_of c.forget_first.new.by_job;
      last_taken = Some c.in-Some.moment;
    } in
    subst (λ (old : Timers). Takes old new c.in-Some.moment c.in-Some.jobs.items) c.self.view_is
    (take-Takes c.self.inside.by_moment c.pop_first.new.self c.self.inside.by_job
    c.forget_first.new.by_job c.self.inside.last_taken c.in-Some.moment c.in-Some.jobs
    c.deref.result.now
    c.self.invariant c.in-Some.ensures.value c.in-Some.ensures.least c.in-Some.ensures.updates.0
    c.deref.ensures.value c.forget_first.ensures.forgets)

pub forget_first-requires : goal.forget_first-requires
forget_first-requires c = record {
  all = taken-all c.self.inside.by_moment c.pop_first.new.self c.self.inside.by_job
      c.self.inside.last_taken c.in-Some.moment c.in-Some.jobs c.deref.result.now
      c.self.invariant c.in-Some.ensures.value c.in-Some.ensures.updates.0 c.deref.ensures.value;
}
