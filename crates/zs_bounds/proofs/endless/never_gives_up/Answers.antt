use Rattle.std.proofs.Common.{sym, ap, ◌∙◌}
use Rattle.zs_term.specs.Schedule.{schedule_of}
use Rattle.zs_bounds.specs.BoundsOf.{never_stops}
use Rattle.zs_bounds.proofs.GoingOn.{goes-on}
use Rattle.zs_bounds.proofs.endless.never_gives_up.Goals as goal

pub returns-clause-forever : goal.returns-clause-forever
returns-clause-forever c = λ yes.
    goes-on (schedule_of c.args.checked.now)
    (sym (ap (λ t. never_stops (schedule_of t)) c.term.ensures.term)
    ∙ sym c.never_stops.ensures.value ∙ yes)
