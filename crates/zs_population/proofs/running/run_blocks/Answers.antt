use Rattle.std.proofs.Common.{◌≡◌, ◌<◌, ◌+◌, ◌*◌, [], ℕ, List, Option, map, length, refl, ap, sym}
use Rattle.std.proofs.Common.{◌∙◌, arith, rules, ◌++◌, add-one}
use Rattle.std.specs.Io.KnownBytes.{prepend_known}
use Rattle.std.proofs.lemmas.List.{length-map}
use Rattle.std.proofs.lemmas.Result.{err_from_is_err_and}
use Rattle.zs_drive.specs.Values.{JobRecord, job_record}
use Rattle.zs_run.specs.Head.{HeadRecord}
use Rattle.zs_run.specs.HeadView.{head_record}
use Rattle.zs_run.specs.Names.{KnowsNames}
use Rattle.zs_run.specs.PlanReport.{jobs_text, polls_of, with_total}
use Rattle.zs_population.specs.Population.{block_jobs}
use Rattle.zs_population.specs.Sums.{KeepsSums}
use Rattle.zs_population.proofs.Done.{done-nothing, more-done, total-of}
use Rattle.zs_population.proofs.Endings.{LastText, NextBlock, as-fault, begun-by, ends-early}
use Rattle.zs_population.proofs.Endings.{ends-unended, ends-unread, ends-unrun, ends-unwritten}
use Rattle.zs_population.proofs.Endings.{ends-unwritten-last, ends-well}
use Rattle.zs_population.proofs.SumLemmas.{summed-on}
use Rattle.zs_lines.proofs.LineLemmas.{clear-at-ok}
use Rattle.zs_population.proofs.running.run_blocks.Goals as goal

-- no block yet
pub loop-names-init : goal.loop-names-init
loop-names-init g c =
    let known : KnowsNames c.new-names.result [] = search rules in
    record {
      reader = c.requires.reader_clear;
      writer = c.requires.writer_clear;
      few = omega (arith, c.requires.few.0);
      within = omega arith;
      polled = omega arith;
      told = omega arith;
      done = done-nothing (head_record c.args.part.now.head).clock c.args.part.now.range.first
          (prepend_known c.args.lines.now.buffer (g.R.Source.remaining c.args.reader.now))
          c.new-names.result (g.W.Drain.contents c.args.writer.now) c.new-digest.result known
          c.new-digest.ensures.empty;
      summed = λ all is. is;
      on = c.new-digest.ensures.on;
      whole = refl;
    }

-- the next block can't be read
pub returns-in_err-jobs : goal.returns-in_err-jobs
returns-in_err-jobs g c =
    let p = err_from_is_err_and c.from_residual.result c.from_residual.ensures.1 in
    let at = c.loop-names.invariant in
    let head : HeadRecord = head_record c.args.part.now.head in
    let ahead : Option (List ℕ) =
    prepend_known c.args.lines.now.buffer (g.R.Source.remaining c.args.reader.now) in
    record {
      ends = λ before after first took skips summed is.
          let begun =
          begun-by c.args.part.now.range ahead head before after first took skips is in
          rw (p.1, p.2, at.writer)
          (ends-unread begun at.done c.block_size-size.result c.block_size-size.ensures.within
          c.block_size-size.ensures.block
          (g.R.Source.remaining c.read_block.new.reader) (g.R.Source.mark c.read_block.new.reader)
          (g.W.Drain.flushed c.loop-names.writer) (c.loop-names.writer ≡ c.args.writer.now)
          c.in_err-jobs.field-0.0 at.whole c.in_err-jobs.ensures.fault
          (as-fault _ _ c.in_err-jobs.ensures.marks));
    }

-- it did not run
pub returns-in-Err : goal.returns-in-Err
returns-in-Err g c =
    let at = c.loop-names.invariant in
    let head : HeadRecord = head_record c.args.part.now.head in
    let ahead : Option (List ℕ) =
    prepend_known c.args.lines.now.buffer (g.R.Source.remaining c.args.reader.now) in
    record {
      ends = λ before after first took skips summed is.
          let begun =
          begun-by c.args.part.now.range ahead head before after first took skips is in
          rw at.writer
          (ends-unrun begun at.done at.within (g.R.Source.remaining c.read_block.new.reader)
          (g.R.Source.mark c.read_block.new.reader) (g.W.Drain.flushed c.loop-names.writer)
          (c.loop-names.writer ≡ c.args.writer.now)
          c.in-Err.fault at.whole (clear-at-ok _ _ _ c.in_ok-jobs.ensures.marks.0));
    }

-- it was the last one, and its report can't be ended
pub returns-in_err-end_report : goal.returns-in_err-end_report
returns-in_err-end_report g c =
    let p = err_from_is_err_and c.from_residual-in_err-end_report.result
    c.from_residual-in_err-end_report.ensures.1 in
    let at = c.loop-names.invariant in
    let head : HeadRecord = head_record c.args.part.now.head in
    let ahead : Option (List ℕ) =
    prepend_known c.args.lines.now.buffer (g.R.Source.remaining c.args.reader.now) in
    record {
      ends = λ before after first took skips summed is.
          let begun =
          begun-by c.args.part.now.range ahead head before after first took skips is in
          rw (p.1, p.2, at.writer)
          (ends-unended begun at.done at.within (g.R.Source.remaining c.end_report.new.reader)
          (g.R.Source.mark c.end_report.new.reader) (g.W.Drain.flushed c.loop-names.writer)
          (c.loop-names.writer ≡ c.args.writer.now)
          c.in_err-end_report.field-0.0 at.whole c.in_err-end_report.ensures.fault
          (as-fault _ _ c.in_err-end_report.ensures.marks));
    }

-- it was the last one, and went out in part
pub returns-in_err-write_block : goal.returns-in_err-write_block
returns-in_err-write_block g c =
    let p = err_from_is_err_and c.from_residual-in_err-write_block.result
    c.from_residual-in_err-write_block.ensures.1 in
    let part = c.in_err-write_block.ensures.err in
    let at = c.loop-names.invariant in
    let head : HeadRecord = head_record c.args.part.now.head in
    let ahead : Option (List ℕ) =
    prepend_known c.args.lines.now.buffer (g.R.Source.remaining c.args.reader.now) in
    let mid : Option (List ℕ) =
    prepend_known c.loop-names.lines.buffer (g.R.Source.remaining c.loop-names.reader) in
    let now : Option (List ℕ) =
    prepend_known c.read_block.new.lines.buffer
    (g.R.Source.remaining c.read_block.new.reader) in
    let left : Option (List ℕ) = g.R.Source.remaining c.end_report.new.reader in
    let jobs : List JobRecord = map job_record c.in_ok-jobs.jobs.items in
    let many : length jobs ≡ length c.in_ok-jobs.jobs.items =
    length-map c.in_ok-jobs.jobs.items job_record in
    let short : length c.in_ok-jobs.jobs.items < block_jobs =
    omega (arith, c.if-is_last.true, c.len-is_last.ensures, c.in_ok-jobs.jobs.ok.0) in
    let total : c.run_block.new.polls ≡ polls_of head.clock (at.done.jobs ++ jobs) =
    total-of head.clock at.done.jobs jobs c.loop-names.polls c.run_block.new.polls at.done.counted
    c.in-Ok.ensures.polls in
    let tells : c.as_str.result.now
    ≡ with_total (jobs_text head.clock jobs) (polls_of head.clock (at.done.jobs ++ jobs)) =
    c.as_str.ensures.value ∙ c.in-Ok.ensures.last short
    ∙ ap (with_total (jobs_text head.clock jobs)) total in
    let tail = c.in_ok-end_report.ensures.text in
    let adds : c.as_bytes.result.now ≡ c.as_str.result.now ++ tail.0 =
    c.as_bytes.ensures.value ∙ tail.1 ∙ ap (λ (bs : List ℕ). bs ++ tail.0)
    (sym c.as_str.ensures.value) in
    let keeps : KeepsSums c.args.lines.now ahead c.read_block.new.lines now =
    λ all is. c.in_ok-jobs.ensures.sums all (at.summed all is) in
    let next : NextBlock c.args.part.now.range c.loop-names.blocks mid c.loop-names.names = record {
      now = now;
      known = c.read_block.new.names;
      jobs = jobs;
      reads = c.in_ok-jobs.ensures.jobs;
      within = omega (arith, many, c.in_ok-jobs.ensures.size, c.block_size-size.ensures.within);
    } in
    record {
      ends = λ before after first took skips summed is.
          let begun =
          begun-by c.args.part.now.range ahead head before after first took skips is in
          let last : LastText c.args.part.now.range before head.clock at.done.jobs jobs
          c.loop-names.digest = record {
            block = c.as_str.result.now;
            tail = tail.0;
            text = c.as_bytes.result.now;
            hasher = c.add.new.self;
            tells = tells;
            adds = adds;
            takes = c.add.ensures.added;
            follows = λ report holds.
                tail.2 before report (summed-on before c.args.lines.now c.read_block.new.lines ahead
                now keeps summed) holds;
          } in
          rw (p.1, p.2, part.1, c.in_err-write_block.ensures.marks)
          (ends-unwritten-last begun at.done next last left
          (g.W.Drain.contents c.write_block.new.writer) part.0
          (g.R.Source.mark c.end_report.new.reader) (g.W.Drain.flushed c.write_block.new.writer)
          (c.write_block.new.writer ≡ c.args.writer.now)
          part.2 part.3 (clear-at-ok _ _ _ c.in_ok-end_report.ensures.marks.0));
    }

-- it was the last one
pub returns-then-is_last : goal.returns-then-is_last
returns-then-is_last g c =
    let at = c.loop-names.invariant in
    let head : HeadRecord = head_record c.args.part.now.head in
    let ahead : Option (List ℕ) =
    prepend_known c.args.lines.now.buffer (g.R.Source.remaining c.args.reader.now) in
    let mid : Option (List ℕ) =
    prepend_known c.loop-names.lines.buffer (g.R.Source.remaining c.loop-names.reader) in
    let now : Option (List ℕ) =
    prepend_known c.read_block.new.lines.buffer
    (g.R.Source.remaining c.read_block.new.reader) in
    let left : Option (List ℕ) = g.R.Source.remaining c.end_report.new.reader in
    let jobs : List JobRecord = map job_record c.in_ok-jobs.jobs.items in
    let many : length jobs ≡ length c.in_ok-jobs.jobs.items =
    length-map c.in_ok-jobs.jobs.items job_record in
    let short : length c.in_ok-jobs.jobs.items < block_jobs =
    omega (arith, c.if-is_last.true, c.len-is_last.ensures, c.in_ok-jobs.jobs.ok.0) in
    let total : c.run_block.new.polls ≡ polls_of head.clock (at.done.jobs ++ jobs) =
    total-of head.clock at.done.jobs jobs c.loop-names.polls c.run_block.new.polls at.done.counted
    c.in-Ok.ensures.polls in
    let tells : c.as_str.result.now
    ≡ with_total (jobs_text head.clock jobs) (polls_of head.clock (at.done.jobs ++ jobs)) =
    c.as_str.ensures.value ∙ c.in-Ok.ensures.last short
    ∙ ap (with_total (jobs_text head.clock jobs)) total in
    let tail = c.in_ok-end_report.ensures.text in
    let adds : c.as_bytes.result.now ≡ c.as_str.result.now ++ tail.0 =
    c.as_bytes.ensures.value ∙ tail.1 ∙ ap (λ (bs : List ℕ). bs ++ tail.0)
    (sym c.as_str.ensures.value) in
    let keeps : KeepsSums c.args.lines.now ahead c.read_block.new.lines now =
    λ all is. c.in_ok-jobs.ensures.sums all (at.summed all is) in
    let ended : c.loop-names.blocks * block_jobs + length jobs < c.args.part.now.range.count →
    length c.in_ok-jobs.jobs.items < c.block_size-size.result =
    ends-early (c.loop-names.blocks * block_jobs) (length jobs) (length c.in_ok-jobs.jobs.items)
    c.block_size-size.result c.args.part.now.range.count many c.in_ok-jobs.ensures.size short
    c.block_size-size.ensures.last in
    let next : NextBlock c.args.part.now.range c.loop-names.blocks mid c.loop-names.names = record {
      now = now;
      known = c.read_block.new.names;
      jobs = jobs;
      reads = c.in_ok-jobs.ensures.jobs;
      within = omega (arith, many, c.in_ok-jobs.ensures.size, c.block_size-size.ensures.within);
    } in
    record {
      ends = λ before after first took skips summed is.
          let begun =
          begun-by c.args.part.now.range ahead head before after first took skips is in
          let last : LastText c.args.part.now.range before head.clock at.done.jobs jobs
          c.loop-names.digest = record {
            block = c.as_str.result.now;
            tail = tail.0;
            text = c.as_bytes.result.now;
            hasher = c.add.new.self;
            tells = tells;
            adds = adds;
            takes = c.add.ensures.added;
            follows = λ report holds.
                tail.2 before report (summed-on before c.args.lines.now c.read_block.new.lines ahead
                now keeps summed) holds;
          } in
          rw c.in_ok-write_block.ensures.marks
          (ends-well begun at.done next last left (g.W.Drain.contents c.write_block.new.writer)
          (g.R.Source.mark c.end_report.new.reader) (g.W.Drain.flushed c.write_block.new.writer)
          (c.write_block.new.writer ≡ c.args.writer.now) tt
          (λ less. c.in_ok-jobs.ensures.last (ended less)) c.in_ok-end_report.ensures.end
          c.in_ok-write_block.ensures.written (clear-at-ok _ _ _ c.in_ok-end_report.ensures.marks.0)
          c.in_ok-write_block.ensures.flushed);
    }

-- it was whole, and went out in part
pub returns-in_err-sent : goal.returns-in_err-sent
returns-in_err-sent g c =
    let p = err_from_is_err_and c.from_residual-in_err-sent.result
    c.from_residual-in_err-sent.ensures.1 in
    let part = c.in_err-sent.ensures.err in
    let at = c.loop-names.invariant in
    let head : HeadRecord = head_record c.args.part.now.head in
    let ahead : Option (List ℕ) =
    prepend_known c.args.lines.now.buffer (g.R.Source.remaining c.args.reader.now) in
    let mid : Option (List ℕ) =
    prepend_known c.loop-names.lines.buffer (g.R.Source.remaining c.loop-names.reader) in
    let now : Option (List ℕ) =
    prepend_known c.read_block.new.lines.buffer
    (g.R.Source.remaining c.read_block.new.reader) in
    let jobs : List JobRecord = map job_record c.in_ok-jobs.jobs.items in
    let many : length jobs ≡ length c.in_ok-jobs.jobs.items =
    length-map c.in_ok-jobs.jobs.items job_record in
    let full : length c.in_ok-jobs.jobs.items ≡ block_jobs = omega (
      arith,
      c.if-is_last.false,
      c.len-is_last.ensures,
      c.in_ok-jobs.jobs.ok.0,
      c.in_ok-jobs.ensures.size,
      c.block_size-size.ensures.block,
    ) in
    let block : c.as_str.result.now ≡ jobs_text head.clock jobs =
    rw c.as_str.ensures.value (c.in-Ok.ensures.lines full) in
    let text : c.as_bytes-in-loop-names.result.now ≡ jobs_text head.clock jobs =
    rw c.as_bytes-in-loop-names.ensures.value (c.in-Ok.ensures.lines full) in
    let next : NextBlock c.args.part.now.range c.loop-names.blocks mid c.loop-names.names = record {
      now = now;
      known = c.read_block.new.names;
      jobs = jobs;
      reads = c.in_ok-jobs.ensures.jobs;
      within = omega (arith, many, c.in_ok-jobs.ensures.size, c.block_size-size.ensures.within);
    } in
    record {
      ends = λ before after first took skips summed is.
          let begun =
          begun-by c.args.part.now.range ahead head before after first took skips is in
          rw (p.1, p.2, part.1, c.in_err-sent.ensures.marks)
          (ends-unwritten begun at.done next (g.R.Source.remaining c.read_block.new.reader)
          (g.W.Drain.contents c.write_block-in-loop-names.new.writer)
          c.as_bytes-in-loop-names.result.now part.0
          (g.R.Source.mark c.read_block.new.reader)
          (g.W.Drain.flushed c.write_block-in-loop-names.new.writer)
          (c.write_block-in-loop-names.new.writer ≡ c.args.writer.now)
          text part.2 part.3 (clear-at-ok _ _ _ c.in_ok-jobs.ensures.marks.0));
    }

-- it was whole
pub loop-names-preserved : goal.loop-names-preserved
loop-names-preserved g c =
    let at = c.loop-names.invariant in
    let head : HeadRecord = head_record c.args.part.now.head in
    let jobs : List JobRecord = map job_record c.in_ok-jobs.jobs.items in
    let many : length jobs ≡ length c.in_ok-jobs.jobs.items =
    length-map c.in_ok-jobs.jobs.items job_record in
    let full : length c.in_ok-jobs.jobs.items ≡ block_jobs = omega (
      arith,
      c.if-is_last.false,
      c.len-is_last.ensures,
      c.in_ok-jobs.jobs.ok.0,
      c.in_ok-jobs.ensures.size,
      c.block_size-size.ensures.block,
    ) in
    let block : c.as_str.result.now ≡ jobs_text head.clock jobs =
    rw c.as_str.ensures.value (c.in-Ok.ensures.lines full) in
    let text : c.as_bytes-in-loop-names.result.now ≡ jobs_text head.clock jobs =
    rw c.as_bytes-in-loop-names.ensures.value (c.in-Ok.ensures.lines full) in
    record {
      reader = clear-at-ok _ _ _ c.in_ok-jobs.ensures.marks.0;
      writer = c.in_ok-sent.ensures.marks;
      few = omega (arith, full, c.in_ok-jobs.ensures.few);
      within = omega (arith, full, c.in_ok-jobs.ensures.size, c.block_size-size.ensures.within);
      polled = omega (arith, at.polled, c.in-Ok.ensures.room);
      told = omega (arith, at.told, c.in_ok-sent.ensures.room);
      done = more-done at.done jobs (g.W.Drain.contents c.write_block-in-loop-names.new.writer)
          c.run_block.new.polls c.in_ok-sent.sent c.add.new.self
          c.in_ok-jobs.ensures.jobs (many ∙ full) c.in-Ok.ensures.polls
          (rw text at c.in_ok-sent.ensures.ok) (rw text at c.in_ok-sent.ensures.written)
          (rw block at c.add.ensures.added);
      summed = λ all is. c.in_ok-jobs.ensures.sums all (at.summed all is);
      on = c.add.ensures.on ∙ at.on;
      whole = rw (add-one c.loop-names.blocks) c.in_ok-sent.ensures.flushed;
    }
