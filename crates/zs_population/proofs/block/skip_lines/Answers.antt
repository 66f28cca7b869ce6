use Rattle.std.proofs.Common.{◌∷◌, [], Option, List, ℕ, arith}
use Rattle.std.specs.Io.KnownBytes.{prepend_known}
use Rattle.zs_lines.specs.Buffers.{Took}
use Rattle.zs_lines.proofs.LineLemmas.{clear-at-ok}
use Rattle.zs_population.proofs.RangeLemmas.{skipped-all, skipped-more, skipped-nothing}
use Rattle.zs_population.proofs.block.skip_lines.Goals as goal

-- no line was skipped
pub loop-number-init : goal.loop-number-init
loop-number-init g c = (omega arith, c.requires.clear, skipped-nothing _, λ all is. is)

-- no line remains
pub returns-in-Ok-false-clause-skipped : goal.returns-in-Ok-false-clause-skipped
returns-in-Ok-false-clause-skipped g c =
    let old : Option (List ℕ) =
    prepend_known c.args.lines.now.buffer (g.R.Source.remaining c.args.reader.now) in
    let mid : Option (List ℕ) =
    prepend_known c.loop-number.lines.buffer (g.R.Source.remaining c.loop-number.reader) in
    let now : Option (List ℕ) =
    prepend_known c.next_line.new.self.buffer (g.R.Source.remaining c.next_line.new.reader) in
    let read = rw c.in-Ok-false.field-0-test at c.in-Ok-false.ensures.line in
    skipped-all c.loop-number.number c.args.count old mid now c.loop-number.invariant.0
    c.loop-number.invariant.2 read.0 read.1

-- one line more
pub loop-number-preserved : goal.loop-number-preserved
loop-number-preserved g c =
    let old : Option (List ℕ) =
    prepend_known c.args.lines.now.buffer (g.R.Source.remaining c.args.reader.now) in
    let mid : Option (List ℕ) =
    prepend_known c.loop-number.lines.buffer (g.R.Source.remaining c.loop-number.reader) in
    let now : Option (List ℕ) =
    prepend_known c.next_line.new.self.buffer (g.R.Source.remaining c.next_line.new.reader) in
    let line : List ℕ = c.next_line.new.line.items in
    let took : Took mid now (line ∷ []) =
    rw c.in-Ok-true.field-0-test at c.in-Ok-true.ensures.line in (
      omega (arith, c.loop-number-test.true),
      clear-at-ok _ _ _ c.in-Ok-true.ensures.marks.0,
      skipped-more c.loop-number.number old mid now line c.loop-number.invariant.2 took,
      λ all is. c.in-Ok-true.ensures.sums all (c.loop-number.invariant.3 all is),
    )

pub returns-in-Ok-false-clause-sums : goal.returns-in-Ok-false-clause-sums
returns-in-Ok-false-clause-sums g c =
    λ all is. c.in-Ok-false.ensures.sums all (c.loop-number.invariant.3 all is)
