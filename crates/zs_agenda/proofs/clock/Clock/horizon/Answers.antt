use Rattle.zs_agenda.specs.Ticks.{IsTickList}
use Rattle.zs_agenda.proofs.TickLemmas.{last-tick}
use Rattle.zs_agenda.proofs.clock.Clock.horizon.Goals as goal

pub returns-in-Listed-clause-last : goal.returns-in-Listed-clause-last
returns-in-Listed-clause-last c =
    let fit : IsTickList c.in-Listed.ticks.items = rw c.in-Listed.is at c.self.invariant in
    rw (← c.self.view_is, c.in-Listed.is, c.last_of.ensures.value, c.deref.ensures.value)
    (last-tick c.in-Listed.ticks.items fit.rising)
