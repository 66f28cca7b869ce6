use Rattle.std.proofs.Common.{◌≡◌, ℕ, List, Option, refl}
use Rattle.std.specs.Io.KnownBytes.{prepend_known}
use Rattle.std.proofs.lemmas.Result.{err_from_is_err_and}
use Rattle.zs_run.specs.HeadView.{head_record}
use Rattle.zs_population.specs.Reads.{HeadFault, HeadReads}
use Rattle.zs_population.proofs.Endings.{as-fault, ends-headless, ends-unskipped, prepend-none}
use Rattle.zs_population.proofs.SumLemmas.{summed-first, summed-on}
use Rattle.zs_population.proofs.running.run_population.Goals as goal

-- the head can't be read
pub returns-in_err-head : goal.returns-in_err-head
returns-in_err-head g c =
    let p = err_from_is_err_and c.from_residual.result c.from_residual.ensures.1 in
    let start : Option (List ℕ) = g.R.Source.remaining c.args.reader.now in
    let stopped : HeadFault start c.in_err-head.field-0.0 =
    rw (prepend-none start) at (rw c.new-lines.ensures.empty at c.in_err-head.ensures.fault) in
    record {
      ends = rw (p.1, p.2, c.requires.writer_clear)
          (ends-headless c.args.range start (g.R.Source.remaining c.read_first.new.reader)
          (g.W.Drain.contents c.args.writer.now)
          (g.R.Source.mark c.read_first.new.reader) (g.W.Drain.flushed c.args.writer.now)
          (c.args.writer.now ≡ c.args.writer.now) c.in_err-head.field-0.0
          stopped (as-fault _ _ c.in_err-head.ensures.marks) refl);
    }

-- the lines before the range can't be skipped
pub returns-in_err-skip_lines : goal.returns-in_err-skip_lines
returns-in_err-skip_lines g c =
    let p = err_from_is_err_and c.from_residual-in_err-skip_lines.result
    c.from_residual-in_err-skip_lines.ensures.1 in
    record {
      ends = rw (p.1, p.2, c.requires.writer_clear)
          (ends-unskipped c.args.range (g.R.Source.remaining c.args.reader.now)
          (g.R.Source.remaining c.skip_lines.new.reader) (g.W.Drain.contents c.args.writer.now)
          (g.R.Source.mark c.skip_lines.new.reader) (g.W.Drain.flushed c.args.writer.now)
          (c.args.writer.now ≡ c.args.writer.now) c.in_err-skip_lines.field-0.0
          c.in_err-skip_lines.ensures.fault (as-fault _ _ c.in_err-skip_lines.ensures.marks) refl);
    }

-- the blocks were run
pub returns : goal.returns
returns g c =
    let start : Option (List ℕ) = g.R.Source.remaining c.args.reader.now in
    let after : Option (List ℕ) =
    prepend_known c.read_first.new.lines.buffer
    (g.R.Source.remaining c.read_first.new.reader) in
    let ahead : Option (List ℕ) =
    prepend_known c.skip_lines.new.lines.buffer
    (g.R.Source.remaining c.skip_lines.new.reader) in
    let old : Option (List ℕ) = prepend_known c.new-lines.result.buffer start in
    let reads : HeadReads start after (head_record c.in_ok-head.head) =
    rw (prepend-none start) at (rw c.new-lines.ensures.empty at c.in_ok-head.ensures.head) in
    let summed = summed-on start c.new-lines.result c.skip_lines.new.lines old ahead
    (λ all is. c.in_ok-skip_lines.ensures.sums all (c.in_ok-head.ensures.sums all is))
    (summed-first start c.new-lines.result c.new-lines.ensures.empty c.new-lines.ensures.sums) in
    record {
      ends = c.run_blocks.ensures.ends start after reads.0 reads.2
          c.in_ok-skip_lines.ensures.skipped summed reads.1;
    }
