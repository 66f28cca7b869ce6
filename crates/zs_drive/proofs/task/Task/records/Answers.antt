use Rattle.zs_drive.proofs.Standing.{polled-clock, records-few}
use Rattle.zs_drive.proofs.task.Task.records.Goals as goal

pub returns-clause-clock : goal.returns-clause-clock
returns-clause-clock c = polled-clock c.self.inside c.self.invariant c.args.self.now c.self.view_is

pub returns-clause-few : goal.returns-clause-few
returns-clause-few c = rw (c.as_slice.ensures.value, c.deref.ensures) (records-few c.self.inside
    c.self.invariant c.args.self.now c.self.view_is)
