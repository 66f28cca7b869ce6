use Rattle.std.proofs.Common.{refl}
use Rattle.std.proofs.lemmas.Result.{err_from_is_err_and}
use Rattle.zs_population.specs.Parts.{part_record}
use Rattle.zs_population.proofs.AddLemmas.{known-part}
use Rattle.zs_population.proofs.joining.add_report.Goals as goal

-- its lines went out in part
pub returns-in_err-joined-clause-fault : goal.returns-in_err-joined-clause-fault
returns-in_err-joined-clause-fault g c =
    let p = err_from_is_err_and c.from_residual.result c.from_residual.ensures.1 in
    let part = c.in_err-joined.ensures.err in
    rw (p.1, p.2, part.1) (
      c.in_err-joined.ensures.marks,
      (
        part_record c.in-Ok-next_part.part,
        (
          known-part c.args.sums.now (g.F.Files.contents c.args.files.now c.args.path.now)
              c.in-Ok.report.items (part_record c.in-Ok-next_part.part) c.in-Ok.ensures.bytes
              (rw c.as_slice.ensures.value at c.in-Ok-next_part.ensures.part),
          c.in-Ok-next_part.ensures.next,
        ),
        (part.0, refl, part.2, part.3),
      ),
    )

-- they were written
pub returns-clause-added : goal.returns-clause-added
returns-clause-added g c = (
  part_record c.in-Ok-next_part.part,
  (
    known-part c.args.sums.now (g.F.Files.contents c.args.files.now c.args.path.now)
        c.in-Ok.report.items (part_record c.in-Ok-next_part.part) c.in-Ok.ensures.bytes
        (rw c.as_slice.ensures.value at c.in-Ok-next_part.ensures.part),
    c.in-Ok-next_part.ensures.next,
  ),
  refl,
  refl,
  c.in_ok-joined.ensures.ok,
  c.in_ok-joined.ensures.written,
)
