use Rattle.std.proofs.Common.{◌≡◌, ◌<◌, ◌+◌, [], ℕ, List, Option, length, map}
use Rattle.std.proofs.Common.{refl, ap, ◌∙◌, arith, add-one, string_bytes}
use Rattle.std.proofs.lemmas.Result.{err_from_is_err_and}
use Rattle.zs_lines.specs.Streams.{reading}
use Rattle.zs_lines.proofs.LineLemmas.{clear-at-ok}
use Rattle.zs_engine.specs.declared.fault.EngineFault.TheVariants.{Memory}
use Rattle.zs_run.specs.Headline.{Reading}
use Rattle.zs_run.specs.PlanReport.{with_total}
use Rattle.zs_population.proofs.Endings.{as-fault}
use Rattle.zs_population.proofs.JoinLemmas.{join-missing, join-unadded, join-unread, join-untold}
use Rattle.zs_population.proofs.JoinLemmas.{join-unwritten, join-well, joined-more, joined-none}
use Rattle.zs_population.proofs.JoinLemmas.{report-dropped, report-taken, reports-many}
use Rattle.zs_population.proofs.joining.join_reports.Goals as goal

-- the population can't be read
pub returns-in_err-count : goal.returns-in_err-count
returns-in_err-count g c =
    let p = err_from_is_err_and c.from_residual.result c.from_residual.ensures.1 in
    record {
      ends = rw (p.1, p.2, c.requires.writer_clear)
          (join-unread (map (g.F.Files.contents c.args.files.now)
          (map string_bytes c.args.paths.now)) (g.R.Source.remaining c.args.reader.now)
          (g.R.Source.remaining c.read_jobs.new.reader)
          (g.W.Drain.contents c.args.writer.now) (g.R.Source.mark c.read_jobs.new.reader)
          (g.W.Drain.flushed c.args.writer.now) (c.args.writer.now ≡ c.args.writer.now)
          c.in_err-count.field-0.0
          c.in_err-count.ensures.fault (as-fault _ _ c.in_err-count.ensures.marks) refl);
    }

-- no report yet
pub loop-path-init : goal.loop-path-init
loop-path-init g c = record {
  writer = c.requires.writer_clear;
  count = refl;
  room = omega arith;
  parts = joined-none c.in_ok-count.sums (map (g.F.Files.contents c.args.files.now)
      (map string_bytes c.args.paths.now)) (g.W.Drain.contents c.args.writer.now);
  whole = refl;
}

-- the next report can't be added
pub returns-in_err-add_report : goal.returns-in_err-add_report
returns-in_err-add_report g c =
    let p = err_from_is_err_and c.from_residual-in_err-add_report.result
    c.from_residual-in_err-add_report.ensures.1 in
    let at = c.loop-path.invariant in
    let contents : List ℕ → Option (List ℕ) = g.F.Files.contents c.args.files.now in
    let reports : List (Option (List ℕ)) = map contents (map string_bytes c.args.paths.now) in
    let r : Reading = reading g.R.Source.remaining g.R.Source.mark c.args.reader.now
    c.read_jobs.new.reader in
    let n : ℕ = c.loop-path.path-index in
    let within : n < length c.args.paths.now = c.loop-path-test.true in
    record {
      ends = rw (p.1, p.2)
          (join-unadded reports r c.in_ok-count.count c.in_ok-count.sums
          (clear-at-ok _ _ _ c.in_ok-count.ensures.marks.0) c.in_ok-count.ensures.read
          g.W.Drain.contents g.W.Drain.mark g.W.Drain.flushed c.args.writer.now c.loop-path.writer
          c.add_report.new.writer n (contents (string_bytes c.path-item.result))
          c.loop-path.joined
          c.in_err-add_report.field-0.0 (report-taken contents c.args.paths.now n c.path-item.result
          within c.path-item.is) (report-dropped contents c.args.paths.now n c.path-item.result
          within c.path-item.is)
          (omega (arith, within, reports-many contents c.args.paths.now)) at.count at.parts at.whole
          (rw c.as_str.ensures.value at c.in_err-add_report.ensures.fault));
    }

-- one more report
pub loop-path-preserved : goal.loop-path-preserved
loop-path-preserved g c =
    let at = c.loop-path.invariant in
    let contents : List ℕ → Option (List ℕ) = g.F.Files.contents c.args.files.now in
    let reports : List (Option (List ℕ)) = map contents (map string_bytes c.args.paths.now) in
    let n : ℕ = c.loop-path.path-index in
    record {
      writer = c.in_ok-add_report.ensures.clear;
      count = c.in_ok-add_report.ensures.count ∙ ap (λ k. k + 1) at.count;
      room = c.in_ok-add_report.ensures.room;
      parts = joined-more c.in_ok-count.sums reports n (contents (string_bytes c.path-item.result))
          c.loop-path.joined c.add_report.new.joined
          (g.W.Drain.contents c.args.writer.now) (g.W.Drain.contents c.loop-path.writer)
          (g.W.Drain.contents c.add_report.new.writer)
          (report-taken contents c.args.paths.now n c.path-item.result c.loop-path-test.true
          c.path-item.is) at.parts
          (rw c.as_str.ensures.value at c.in_ok-add_report.ensures.added);
      whole = rw (add-one n) c.in_ok-add_report.ensures.flushed;
    }

-- the reports end before the last job
pub returns-then-joined-count : goal.returns-then-joined-count
returns-then-joined-count g c =
    let at = c.loop-path.invariant in
    let contents : List ℕ → Option (List ℕ) = g.F.Files.contents c.args.files.now in
    let reports : List (Option (List ℕ)) = map contents (map string_bytes c.args.paths.now) in
    let r : Reading = reading g.R.Source.remaining g.R.Source.mark c.args.reader.now
    c.read_jobs.new.reader in
    let all : c.loop-path.path-index ≡ length reports = omega (
      arith,
      c.loop-path-test.false,
      c.loop-path.auto.path-index-end,
      reports-many contents c.args.paths.now,
    ) in
    record {
      ends = rw at.writer
          (join-missing reports r c.in_ok-count.count c.in_ok-count.sums
          (clear-at-ok _ _ _ c.in_ok-count.ensures.marks.0) c.in_ok-count.ensures.read
          c.loop-path.path-index c.loop-path.joined
          (g.W.Drain.contents c.args.writer.now) (g.W.Drain.contents c.loop-path.writer) all
          at.parts (g.W.Drain.flushed c.loop-path.writer)
          (c.loop-path.writer ≡ c.args.writer.now) at.whole c.if-joined-count.true);
    }

-- memory ran out for the total
pub returns-in_err-append_total : goal.returns-in_err-append_total
returns-in_err-append_total g c =
    let p = err_from_is_err_and c.from_residual-in_err-append_total.result
    c.from_residual-in_err-append_total.ensures.1 in
    let at = c.loop-path.invariant in
    let contents : List ℕ → Option (List ℕ) = g.F.Files.contents c.args.files.now in
    let reports : List (Option (List ℕ)) = map contents (map string_bytes c.args.paths.now) in
    let r : Reading = reading g.R.Source.remaining g.R.Source.mark c.args.reader.now
    c.read_jobs.new.reader in
    let all : c.loop-path.path-index ≡ length reports = omega (
      arith,
      c.loop-path-test.false,
      c.loop-path.auto.path-index-end,
      reports-many contents c.args.paths.now,
    ) in
    record {
      ends = rw (p.1, p.2, at.writer)
          (join-untold reports r c.in_ok-count.count c.in_ok-count.sums
          (clear-at-ok _ _ _ c.in_ok-count.ensures.marks.0) c.in_ok-count.ensures.read
          c.loop-path.path-index c.loop-path.joined
          (g.W.Drain.contents c.args.writer.now) (g.W.Drain.contents c.loop-path.writer) all
          at.parts (g.W.Drain.flushed c.loop-path.writer)
          (c.loop-path.writer ≡ c.args.writer.now) Memory at.whole);
    }

-- the total went out in part
pub returns-in_err-write_block : goal.returns-in_err-write_block
returns-in_err-write_block g c =
    let p = err_from_is_err_and c.from_residual-in_err-write_block.result
    c.from_residual-in_err-write_block.ensures.1 in
    let at = c.loop-path.invariant in
    let contents : List ℕ → Option (List ℕ) = g.F.Files.contents c.args.files.now in
    let reports : List (Option (List ℕ)) = map contents (map string_bytes c.args.paths.now) in
    let r : Reading = reading g.R.Source.remaining g.R.Source.mark c.args.reader.now
    c.read_jobs.new.reader in
    let all : c.loop-path.path-index ≡ length reports = omega (
      arith,
      c.loop-path-test.false,
      c.loop-path.auto.path-index-end,
      reports-many contents c.args.paths.now,
    ) in
    let part = c.in_err-write_block.ensures.err in
    let text : c.as_bytes.result.now ≡ with_total [] c.loop-path.joined.polls =
    c.as_bytes.ensures.value
    ∙ (rw c.new-total.ensures.bytes at c.in_ok-append_total.ensures.text) in
    record {
      ends = rw (p.1, p.2, part.1, c.in_err-write_block.ensures.marks)
          (join-unwritten reports r c.in_ok-count.count c.in_ok-count.sums
          (clear-at-ok _ _ _ c.in_ok-count.ensures.marks.0) c.in_ok-count.ensures.read
          c.loop-path.path-index c.loop-path.joined
          (g.W.Drain.contents c.args.writer.now) (g.W.Drain.contents c.loop-path.writer) all
          at.parts (g.W.Drain.contents c.write_block.new.writer)
          (g.W.Drain.flushed c.write_block.new.writer)
          (c.write_block.new.writer ≡ c.args.writer.now) c.as_bytes.result.now part.0 text
          part.2 part.3);
    }

-- all was written
pub returns : goal.returns
returns g c =
    let at = c.loop-path.invariant in
    let contents : List ℕ → Option (List ℕ) = g.F.Files.contents c.args.files.now in
    let reports : List (Option (List ℕ)) = map contents (map string_bytes c.args.paths.now) in
    let r : Reading = reading g.R.Source.remaining g.R.Source.mark c.args.reader.now
    c.read_jobs.new.reader in
    let all : c.loop-path.path-index ≡ length reports = omega (
      arith,
      c.loop-path-test.false,
      c.loop-path.auto.path-index-end,
      reports-many contents c.args.paths.now,
    ) in
    let text : c.as_bytes.result.now ≡ with_total [] c.loop-path.joined.polls =
    c.as_bytes.ensures.value
    ∙ (rw c.new-total.ensures.bytes at c.in_ok-append_total.ensures.text) in
    record {
      ends = rw c.in_ok-write_block.ensures.marks
          (join-well reports r c.in_ok-count.count c.in_ok-count.sums
          (clear-at-ok _ _ _ c.in_ok-count.ensures.marks.0) c.in_ok-count.ensures.read
          c.loop-path.path-index c.loop-path.joined
          (g.W.Drain.contents c.args.writer.now) (g.W.Drain.contents c.loop-path.writer) all
          at.parts (g.W.Drain.contents c.write_block.new.writer)
          (g.W.Drain.flushed c.write_block.new.writer)
          (c.write_block.new.writer ≡ c.args.writer.now) c.as_bytes.result.now tt text
          c.if-joined-count.false c.in_ok-write_block.ensures.written
          c.in_ok-write_block.ensures.flushed);
    }
