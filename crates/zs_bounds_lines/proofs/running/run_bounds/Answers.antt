use Rattle.std.proofs.Common.{◌≡◌, ◌+◌, ◌∷◌, [], ℕ, List, Ok, Err, Option, refl, sym, ap, ◌∙◌, subst}
use Rattle.std.specs.Io.KnownBytes.{IsAtEnd, prepend_known}
use Rattle.std.proofs.KnownBytes.{prepend_known-nil}
use Rattle.std.proofs.lemmas.Result.{err_from_is_err_and}
use Rattle.zs_run.specs.Headline.{Writing}
use Rattle.zs_lines.specs.Buffers.{Took}
use Rattle.zs_lines.proofs.LineLemmas.{clear-at-ok}
use Rattle.zs_bounds_lines.specs.Steps.{IsDone, LineEnds}
use Rattle.zs_bounds_lines.proofs.Endings.{done-more, done-nothing, ends-at, ends-well, writing}
use Rattle.zs_bounds_lines.proofs.running.run_bounds.Goals as goal

-- no line yet
pub loop-count-init : goal.loop-count-init
loop-count-init g c =
    let ahead : Option (List ℕ) = g.R.Source.remaining c.args.reader.now in
    let none : ahead ≡ prepend_known c.new-buffer.result ahead =
    sym (ap (λ (bs : List ℕ). prepend_known bs ahead) c.new-buffer.ensures.empty ∙ prepend_known-nil ahead) in
    let before : Option (List ℕ) = g.W.Drain.contents c.args.writer.now in
    let w : Writing = writing before before (g.W.Drain.mark c.args.writer.now) (g.W.Drain.flushed c.args.writer.now) in
    let P : Option (List ℕ) → Type 0 = λ mid. IsDone c.args.options ahead mid 0 w (c.args.writer.now ≡ c.args.writer.now) in
    record {
      reader = c.requires.reader_clear;
      writer = c.requires.writer_clear;
      done = subst P none (done-nothing c.args.options ahead before _ _ (c.args.writer.now ≡ c.args.writer.now) refl);
    }

-- no line remains
pub returns-in-Ok-false : goal.returns-in-Ok-false
returns-in-Ok-false g c =
    let at = c.loop-count.invariant in
    let mid : Option (List ℕ) = prepend_known c.loop-count.buffer (g.R.Source.remaining c.loop-count.reader) in
    let left : Option (List ℕ) = g.R.Source.remaining c.next_line.new.reader in
    let now : Option (List ℕ) = prepend_known c.next_line.new.self left in
    let read : Took mid now [] × IsAtEnd now = rw c.in-Ok-false.field-0-test at c.in-Ok-false.ensures.line in record {
      ends = ends-well c.args.options (g.R.Source.remaining c.args.reader.now) mid c.loop-count.count (g.W.Drain.contents c.args.writer.now) (g.W.Drain.contents c.loop-count.writer)
          (g.W.Drain.mark c.loop-count.writer) (g.W.Drain.flushed c.loop-count.writer) (c.loop-count.writer ≡ c.args.writer.now) at.done
          left c.next_line.new.self (g.R.Source.mark c.next_line.new.reader) (clear-at-ok _ _ _ c.in-Ok-false.ensures.marks.0) at.writer read.0 read.1;
    }

-- one line more
pub loop-count-preserved : goal.loop-count-preserved
loop-count-preserved g c =
    let at = c.loop-count.invariant in
    let mid : Option (List ℕ) = prepend_known c.loop-count.buffer (g.R.Source.remaining c.loop-count.reader) in
    let now : Option (List ℕ) = prepend_known c.next_line.new.self (g.R.Source.remaining c.next_line.new.reader) in
    let line : List ℕ = c.next_line.new.line.items in
    let took : Took mid now (line ∷ []) = rw c.in-Ok-true.field-0-test at c.in-Ok-true.ensures.line in
    let taken : Option (List ℕ) = g.W.Drain.contents c.loop-count.writer in
    let w : Writing = writing taken (g.W.Drain.contents c.write_line.new.writer) (g.W.Drain.mark c.write_line.new.writer) (g.W.Drain.flushed c.write_line.new.writer) in
    let V : Type 0 = c.write_line.new.writer ≡ c.loop-count.writer in
    let ends : LineEnds c.args.options (c.loop-count.count + 1) line (Ok tt) w V = rw c.as_slice.ensures.value at c.in_ok-write_line.ensures.ends in record {
      reader = clear-at-ok _ _ _ c.in-Ok-true.ensures.marks.0;
      writer = ends.0;
      done = done-more c.args.options (g.R.Source.remaining c.args.reader.now) mid c.loop-count.count (g.W.Drain.contents c.args.writer.now) taken
          (g.W.Drain.mark c.loop-count.writer) (g.W.Drain.flushed c.loop-count.writer) (c.loop-count.writer ≡ c.args.writer.now) at.done
          now line took w.taken w.failed w.flushed V (c.write_line.new.writer ≡ c.args.writer.now)
          (λ v. (ap g.W.Drain.contents v, ap g.W.Drain.flushed v)) (λ v u. v ∙ u) ends;
    }

-- the run ends at the line
pub returns-in_err-write_line : goal.returns-in_err-write_line
returns-in_err-write_line g c =
    let at = c.loop-count.invariant in
    let p = err_from_is_err_and c.from_residual.result c.from_residual.ensures.1 in
    let mid : Option (List ℕ) = prepend_known c.loop-count.buffer (g.R.Source.remaining c.loop-count.reader) in
    let left : Option (List ℕ) = g.R.Source.remaining c.next_line.new.reader in
    let now : Option (List ℕ) = prepend_known c.next_line.new.self left in
    let line : List ℕ = c.next_line.new.line.items in
    let took : Took mid now (line ∷ []) = rw c.in-Ok-true.field-0-test at c.in-Ok-true.ensures.line in
    let taken : Option (List ℕ) = g.W.Drain.contents c.loop-count.writer in
    let w : Writing = writing taken (g.W.Drain.contents c.write_line.new.writer) (g.W.Drain.mark c.write_line.new.writer) (g.W.Drain.flushed c.write_line.new.writer) in
    let V : Type 0 = c.write_line.new.writer ≡ c.loop-count.writer in
    let P : List ℕ → Type 0 = λ bs. LineEnds c.args.options (c.loop-count.count + 1) bs (Err c.in_err-write_line.field-0.0) w V in
    let ends : P line = subst P c.as_slice.ensures.value c.in_err-write_line.ensures.ends in record {
      ends = rw (p.1, p.2)
          (ends-at c.args.options (g.R.Source.remaining c.args.reader.now) mid c.loop-count.count (g.W.Drain.contents c.args.writer.now) taken
          (g.W.Drain.mark c.loop-count.writer) (g.W.Drain.flushed c.loop-count.writer) (c.loop-count.writer ≡ c.args.writer.now) at.done
          now line took w.taken w.failed w.flushed V (c.write_line.new.writer ≡ c.args.writer.now)
          (λ v. (ap g.W.Drain.contents v, ap g.W.Drain.flushed v)) (λ v u. v ∙ u)
          c.in_err-write_line.field-0.0 left (g.R.Source.mark c.next_line.new.reader) (clear-at-ok _ _ _ c.in-Ok-true.ensures.marks.0) ends);
    }
