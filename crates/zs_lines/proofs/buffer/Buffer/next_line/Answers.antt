use Rattle.std.proofs.Common.{◌≡◌, ◌<◌, ◌++◌, ℕ, List, Option, Ok, length, arith, rules, ap, ◌∙◌}
use Rattle.std.proofs.Common.{◌==◌, vec_len}
use Rattle.std.specs.Io.KnownBytes.{Consumes, prepend_known}
use Rattle.zs_lines.proofs.LineLemmas.{clear-at-ok, ended, filled, one_line-append, opened}
use Rattle.zs_lines.proofs.LineLemmas.{too-long, took-ended}
use Rattle.zs_lines.proofs.buffer.Buffer.next_line.Goals as goal

-- the line is whole
pub returns-in-Ok-true-clause-line : goal.returns-in-Ok-true-clause-line
returns-in-Ok-true-clause-line g c =
    let w = c.in-Ok-true.ensures.ended (ap Ok c.in-Ok-true.field-0-test) in
    let old : Option (List ℕ) =
    prepend_known c.args.self.now (g.R.Source.remaining c.args.reader.now) in
    let left : Option (List ℕ) = g.R.Source.remaining c.loop-line.reader in
    rw w.2 (took-ended old left c.loop-line.line.items w.0 c.take_piece.new.self
    c.loop-line.invariant.1 w.1 (rw w.3 at c.loop-line.invariant.3))

-- it is too long
pub returns-then-len-limit-clause-line : goal.returns-then-len-limit-clause-line
returns-then-len-limit-clause-line g c =
    let w = c.in-Ok-false.ensures.open (ap Ok c.in-Ok-false.field-0-test) in
    let old : Option (List ℕ) =
    prepend_known c.args.self.now (g.R.Source.remaining c.args.reader.now) in
    let left : Option (List ℕ) = g.R.Source.remaining c.loop-line.reader in
    let line : List ℕ = c.loop-line.line.items ++ c.loop-line.self in
    let count : length c.take_piece.new.line.items ≡ length line =
    ap (λ (bs : List ℕ). length bs) w.1 in
    let above : c.args.limit < length line =
    omega (arith, count, c.len.ensures, c.if-len-limit.true, c.take_piece.new.line.ok.0) in
    too-long c.args.limit old left line (one_line-append c.loop-line.line.items c.loop-line.self
    c.loop-line.invariant.1 w.0) above
    (opened old left c.loop-line.line.items c.loop-line.self c.loop-line.invariant.3)

-- the input has ended
pub returns-then-not-branch-clause-line : goal.returns-then-not-branch-clause-line
returns-then-not-branch-clause-line g c =
    let w = c.in-Ok-false.ensures.open (ap Ok c.in-Ok-false.field-0-test) in
    let none = c.in_ok-fill.ensures.none (search rules) in
    let end = c.in_ok-fill.ensures.end (search rules) in
    let old : Option (List ℕ) =
    prepend_known c.args.self.now (g.R.Source.remaining c.args.reader.now) in
    let mid : Option (List ℕ) = g.R.Source.remaining c.loop-line.reader in
    let left : Option (List ℕ) = g.R.Source.remaining c.fill.new.reader in
    let before : List ℕ = c.loop-line.line.items in
    let read : Consumes old mid (before ++ c.loop-line.self) =
    opened old mid before c.loop-line.self c.loop-line.invariant.3 in
    let count : vec_len c.take_piece.new.line ≡ length c.take_piece.new.line.items =
    omega (arith, c.take_piece.new.line.ok.0) in
    let empty : c.is_empty.result ≡ (length (before ++ c.loop-line.self) == 0) =
    rw w.1 at (c.is_empty.ensures ∙ ap (λ n. n == 0) count) in
    rw (none, w.1) (ended c.args.limit old mid left (before ++ c.loop-line.self)
    c.is_empty.result empty
    (one_line-append before c.loop-line.self c.loop-line.invariant.1 w.0) read end.1 end.0)

-- more bytes were read
pub loop-line-preserved : goal.loop-line-preserved
loop-line-preserved g c =
    let w = c.in-Ok-false.ensures.open (ap Ok c.in-Ok-false.field-0-test) in
    let some = c.in_ok-fill.ensures.some (search rules) in
    let old : Option (List ℕ) =
    prepend_known c.args.self.now (g.R.Source.remaining c.args.reader.now) in
    let mid : Option (List ℕ) = g.R.Source.remaining c.loop-line.reader in
    let left : Option (List ℕ) = g.R.Source.remaining c.fill.new.reader in
    let line : List ℕ = c.loop-line.line.items ++ c.loop-line.self in
    let read : Consumes old mid line =
    opened old mid c.loop-line.line.items c.loop-line.self c.loop-line.invariant.3 in (
      search rules,
      rw w.1 (one_line-append c.loop-line.line.items c.loop-line.self c.loop-line.invariant.1 w.0),
      clear-at-ok _ _ _ c.in_ok-fill.ensures.marks.0,
      rw w.1 (filled old mid left line c.fill.new.self read some.1),
    )
