use Rattle.std.proofs.Common.{sym, ◌∙◌, arith}
use Rattle.zs_c.proofs.Codes.{program-checked, program-fits, program-some}
use Rattle.zs_c.proofs.program.opening.open.Goals as goal
use Rattle.zs_c.proofs.program.opening.open.Goals.{then-size-eq0-via-then-size-eq0}
use Rattle.zs_c.proofs.program.opening.open.Goals.{then-size-eq0-via-else-size-eq0+then-program-size}

-- it has no code, or fewer words than its code
pub returns-then-size-eq0-clause-none : goal.returns-then-size-eq0-clause-none
returns-then-size-eq0-clause-none c t is =
    let program = c.args.program.now in
    let some = program-some program t is in
    let fits = program-fits program t is in
    absurd (elim c.then-size-eq0.branch [
      | then-size-eq0-via-then-size-eq0 w ↦ omega (arith, some, w.if-size-eq0.true)
      | then-size-eq0-via-else-size-eq0+then-program-size w ↦
          omega (arith, fits, w.if-program-size.true)
    ])

-- it has another check word
pub returns-then-check_word-program-clause-none : goal.returns-then-check_word-program-clause-none
returns-then-check_word-program-clause-none c t is =
    let same = c.check_word.ensures.value ∙ sym (program-checked c.args.program.now t is) in
    absurd (omega (arith, same, c.if-check_word-program.true))
