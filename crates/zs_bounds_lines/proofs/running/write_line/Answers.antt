use Rattle.std.proofs.Common.{◌≡◌, refl}
use Rattle.std.proofs.lemmas.Result.{err_from_is_err_and}
use Rattle.zs_bounds_lines.proofs.Endings.{refused}
use Rattle.zs_bounds_lines.proofs.running.write_line.Goals as goal

-- the line is rejected
pub returns-in_err-policy : goal.returns-in_err-policy
returns-in_err-policy g c =
    let p = err_from_is_err_and c.from_residual.result c.from_residual.ensures.1 in record {
      ends = rw (p.1, p.2)
          (refused c.args.options c.args.number c.args.line.now c.in_err-policy.field-0.0 (g.W.Drain.contents c.args.writer.now) (g.W.Drain.mark c.args.writer.now)
          (g.W.Drain.flushed c.args.writer.now) (c.args.writer.now ≡ c.args.writer.now) c.in_err-policy.ensures.fault c.requires.clear refl);
    }
