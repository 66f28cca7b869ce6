use Rattle.zs_engine.proofs.ClockTicks.{first_tick-is, ticks-rising}
use Rattle.zs_engine.proofs.laws.listed_ticks.Goals as goal

pub returns-clause-tick : goal.returns-clause-tick
returns-clause-tick c clock due = first_tick-is clock due

pub returns-clause-rising : goal.returns-clause-rising
returns-clause-rising c clock lawful = ticks-rising clock lawful
