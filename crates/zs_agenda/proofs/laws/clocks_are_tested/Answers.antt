use Rattle.zs_agenda.proofs.TestLemmas.{tick_list_passes, tick_list_passed, clock_passes}
use Rattle.zs_agenda.proofs.TestLemmas.{clock_passed}
use Rattle.zs_agenda.proofs.laws.clocks_are_tested.Goals as goal

pub returns : goal.returns
returns c = record {
  tick_lists = λ ticks. (tick_list_passed ticks, tick_list_passes ticks);
  clocks = λ clock. (clock_passed clock, clock_passes clock);
}
