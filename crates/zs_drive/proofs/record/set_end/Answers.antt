use Rattle.std.proofs.Common.{refl}
use Rattle.zs_drive.proofs.Ends.{set-end}
use Rattle.zs_drive.proofs.record.set_end.Goals as goal

pub returns : goal.returns
returns c =
    record {
      ended = set-end c.args.records.now.items _ c.args.index c.index_mut-record.result.now
          c.args.ended c.index_mut-record.ensures.value refl;
    }
