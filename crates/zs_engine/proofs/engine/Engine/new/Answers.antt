use Rattle.std.proofs.Common.{refl}
use Rattle.zs_engine.proofs.EngineLemmas.{IsNew-none}
use Rattle.zs_engine.proofs.engine.Engine.new.Goals as goal

pub returns : goal.returns
returns c = record {
  new = IsNew-none _ c.horizon-horizon.ensures.lawful c.horizon-horizon.ensures.value
      c.new-2.ensures.items c.in_ok-agenda.ensures.empty c.in_ok-tally.ensures.ok;
  empty = (refl, c.new-2.ensures.items);
}
