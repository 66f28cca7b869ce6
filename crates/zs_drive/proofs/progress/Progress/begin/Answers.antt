use Rattle.std.proofs.Common.{◌+◌, refl}
use Rattle.zs_drive.specs.declared.progress.Phase.TheVariants.{Running}
use Rattle.zs_drive.proofs.Advancing.{begin-advances}
use Rattle.zs_drive.proofs.progress.Progress.begin.Goals as goal

pub returns-clause-ok : goal.returns-clause-ok
returns-clause-ok c =
    let p = c.args.self.now in
    begin-advances p (record p {
      records = c.add.new.records;
      phase = Running c.start.result;
      polls = p.polls + 1;
    }) c.next_beat-beat.result c.start.result p.phase refl
    c.requires.progress c.requires.state c.requires.waits c.next_beat-beat.ensures.value
    c.requires.script refl c.in_ok-add.ensures.begun c.start.ensures.value
