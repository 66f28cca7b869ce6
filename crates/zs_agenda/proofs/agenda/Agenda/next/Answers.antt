use Rattle.std.proofs.Common.{◌≡◌, true, false, refl}
use Rattle.zs_agenda.specs.Indexes.{jobs_at}
use Rattle.zs_agenda.proofs.IndexLemmas.{IsFirst, first-of, first-after, least-moment, some-moment}
use Rattle.zs_agenda.proofs.IndexLemmas.{no-moment}
use Rattle.zs_agenda.proofs.agenda.Agenda.next.Goals as goal

pub returns-in-Some-clause-none : goal.returns-in-Some-clause-none
returns-in-Some-clause-none c =
    let first : IsFirst (jobs_at c.self.inside.by_moment) c.in-Some.moment.now
    c.in-Some.field-0-1.now.items =
    first-of c.self.inside.by_moment _ _ c.in-Some.ensures.value c.in-Some.ensures.least in (
      (λ no. let clash : true ≡ false = no in cc),
      rw (← c.self.view_is)
          (λ e. absurd (some-moment c.self.inside.by_moment c.self.inside.by_job _ c.self.invariant
          _ _ first e)),
    )

pub returns-in-Some-clause-least : goal.returns-in-Some-clause-least
returns-in-Some-clause-least c =
    let first : IsFirst (jobs_at c.self.inside.by_moment) c.in-Some.moment.now
    c.in-Some.field-0-1.now.items =
    first-of c.self.inside.by_moment _ _ c.in-Some.ensures.value c.in-Some.ensures.least in
    rw (← c.self.view_is) (least-moment c.self.inside.by_moment c.self.inside.by_job _
    c.self.invariant _ _ first)

pub returns-in-Some-clause-later : goal.returns-in-Some-clause-later
returns-in-Some-clause-later c =
    let first : IsFirst (jobs_at c.self.inside.by_moment) c.in-Some.moment.now
    c.in-Some.field-0-1.now.items =
    first-of c.self.inside.by_moment _ _ c.in-Some.ensures.value c.in-Some.ensures.least in
    rw (← c.self.view_is) (first-after _ _ _ _ _ c.self.invariant first)

pub returns-in-None-clause-none : goal.returns-in-None-clause-none
returns-in-None-clause-none c = (
  (λ _. rw (← c.self.view_is) (no-moment c.self.inside.by_moment c.self.inside.by_job _
      c.self.invariant (λ l. let clash : false ≡ true = c.in-None.ensures.variant.1 l in cc))),
  (λ _. refl),
)
