use Rattle.std.proofs.Common.{◌≡◌, List}
use Rattle.std.specs.Vec.Iter.{drain_items}
use Rattle.zs_drive.specs.Tasks.{TaskValue}
use Rattle.zs_engine.specs.Times.{ticks_of}
use Rattle.zs_engine.specs.Rounds.{jobs_in}
use Rattle.zs_engine.specs.Engine.{Runs}
use Rattle.zs_engine.proofs.Settling.{Settling}
use Rattle.zs_engine.proofs.engine.Engine.run_round.Given as goal

abbrev pub invariant-loop-task : goal.invariant-loop-task
invariant-loop-task g l = record {
  settling : (waits : List TaskValue)
      × Settling (ticks_of l.fn.self.clock) l.now (jobs_in l.fn.self.slots.items) l.self.slots.items
      l.self.agenda waits (drain_items l.task-iterator) l.self.seat.count;
  runs : Runs l.self.clock l.self.horizon (jobs_in l.fn.self.slots.items) l.self.tally l.self.seat;
  clock : l.self.clock ≡ l.fn.self.clock;
}
