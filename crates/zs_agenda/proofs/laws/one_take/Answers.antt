use Rattle.zs_agenda.proofs.TakeLemmas.{takes-one-way}
use Rattle.zs_agenda.proofs.laws.one_take.Goals as goal

pub returns : goal.returns
returns c = record { one = takes-one-way }
