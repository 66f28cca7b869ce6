use Rattle.std.proofs.Common.{◌∷◌, [], List, ℕ, Option, refl}
use Rattle.std.specs.Io.KnownBytes.{prepend_known}
use Rattle.zs_population.proofs.BlockLemmas.{head-unread}
use Rattle.zs_population.proofs.RangeLemmas.{head-refused, nothing-refused}
use Rattle.zs_lines.proofs.LineLemmas.{begins}
use Rattle.zs_population.proofs.block.read_first.Goals as goal

-- there is no line
pub returns-in-Ok-false-clause-fault : goal.returns-in-Ok-false-clause-fault
returns-in-Ok-false-clause-fault g c =
    let read = rw c.in-Ok-false.field-0-test at c.in-Ok-false.ensures.line in
    (refl, λ other range. nothing-refused range _ _ read.0 read.1)

-- it can't be read
pub returns-in-Err-clause-fault : goal.returns-in-Err-clause-fault
returns-in-Err-clause-fault g c =
    rw c.line_fault.ensures.value (head-unread _ _ _ c.in-Err.fault c.in-Err.ensures.line)

-- it is no head
pub returns-clause-fault : goal.returns-clause-fault
returns-clause-fault g c =
    let old : Option (List ℕ) =
    prepend_known c.args.lines.now.buffer (g.R.Source.remaining c.args.reader.now) in
    let now : Option (List ℕ) =
    prepend_known c.next_line.new.self.buffer (g.R.Source.remaining c.next_line.new.reader) in
    let line : List ℕ = c.next_line.new.line.items in
    let read = rw c.in-Ok-true.field-0-test at c.in-Ok-true.ensures.line in (
      refl,
      λ other range. head-refused range old line c.in-Err-read_head.fault
          (rw c.as_slice.ensures.value at (c.in-Err-read_head.ensures.head other))
          (begins old now (line ∷ []) read),
    )
