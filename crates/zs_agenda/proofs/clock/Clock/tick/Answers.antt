use Rattle.zs_agenda.specs.Ticks.{IsTickList}
use Rattle.zs_agenda.proofs.TickLemmas.{first-of_list, first-within}
use Rattle.zs_agenda.proofs.clock.Clock.tick.Goals as goal

pub returns-in-Listed-clause-first : goal.returns-in-Listed-clause-first
returns-in-Listed-clause-first c =
    let fit : IsTickList c.in-Listed.ticks.items = rw c.in-Listed.is at c.self.invariant in
    rw (← c.self.view_is, c.in-Listed.is, c.first_from.ensures.value, c.deref.ensures.value)
    (first-of_list c.in-Listed.ticks.items c.args.due fit.rising)

pub returns-in-Listed-clause-within : goal.returns-in-Listed-clause-within
returns-in-Listed-clause-within c =
    let fit : IsTickList c.in-Listed.ticks.items = rw c.in-Listed.is at c.self.invariant in
    rw (← c.self.view_is, c.in-Listed.is, c.first_from.ensures.value, c.deref.ensures.value)
    (first-within c.in-Listed.ticks.items c.args.due fit.rising)
