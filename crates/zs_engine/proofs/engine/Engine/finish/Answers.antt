use Rattle.std.proofs.Common.{◌≡◌}
use Rattle.zs_engine.proofs.Finishing.{answered}
use Rattle.zs_engine.proofs.engine.Engine.finish.Goals as goal

pub returns : goal.returns
returns c =
    let whole : c.close.result ≡ c.args.self.seat.count =
    c.close.ensures.whole c.requires.rests.runs.sum in
    let rests = rw (c.in_ok-tasks.ensures.same, ← whole) at c.requires.rests.rests in
    record {
      answer = rw c.in_ok-tasks.ensures.same (answered c.args.self.clock _ c.args.self.agenda
          rests c.requires.over c.requires.rests.runs.is_horizon);
    }
