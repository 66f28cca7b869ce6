use Rattle.std.proofs.Common.{sym, ap, ◌∙◌, is_some}
use Rattle.std.specs.FinMap as map
use Rattle.zs_agenda.specs.Timers.{Timers}
use Rattle.zs_agenda.proofs.IndexLemmas.{get-moments_of}
use Rattle.zs_agenda.proofs.agenda.Agenda.is_set.Goals as goal

pub returns : goal.returns
returns c = record {
  value =
      c.contains_key.ensures
      ∙ sym (ap is_some (get-moments_of c.self.inside.by_job c.args.job))
      ∙ ap (λ (t : Timers). map.contains_key t.moments c.args.job) c.self.view_is;
}
