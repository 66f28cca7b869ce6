use Rattle.std.proofs.Common.{◌≡◌, ◌+◌, [], ℕ, List, Option, length, map, arith, rules}
use Rattle.std.specs.Io.KnownBytes.{prepend_known}
use Rattle.std.proofs.lemmas.List.{length-map}
use Rattle.std.proofs.lemmas.Result.{err_from_is_err_and}
use Rattle.zs_drive.specs.Values.{JobRecord, job_record}
use Rattle.zs_run.specs.HeadView.{head_record}
use Rattle.zs_run.specs.Names.{KnowsNames}
use Rattle.zs_lines.proofs.LineLemmas.{clear-at-ok}
use Rattle.zs_population.specs.Reads.{HeadFault, HeadReads}
use Rattle.zs_population.proofs.Endings.{prepend-none}
use Rattle.zs_population.proofs.ReadLemmas.{all-read, block-fails, block-read, head-fails}
use Rattle.zs_population.proofs.ReadLemmas.{head-read}
use Rattle.zs_population.proofs.SumLemmas.{summed-first, summed-on}
use Rattle.zs_population.proofs.joining.read_jobs.Goals as goal

-- the head can't be read
pub returns-in_err-read_first-clause-fault : goal.returns-in_err-read_first-clause-fault
returns-in_err-read_first-clause-fault g c =
    let p = err_from_is_err_and c.from_residual.result c.from_residual.ensures.1 in
    let start : Option (List ℕ) = g.R.Source.remaining c.args.reader.now in
    let stopped : HeadFault start c.in_err-read_first.field-0.0 =
    rw (prepend-none start) at
    (rw c.new-lines.ensures.empty at c.in_err-read_first.ensures.fault) in
    rw (p.1, p.2) (head-fails start c.in_err-read_first.field-0.0 stopped)

-- no job was read yet
pub loop-names-init : goal.loop-names-init
loop-names-init g c =
    let start : Option (List ℕ) = g.R.Source.remaining c.args.reader.now in
    let after : Option (List ℕ) =
    prepend_known c.read_first.new.lines.buffer
    (g.R.Source.remaining c.read_first.new.reader) in
    let old : Option (List ℕ) = prepend_known c.new-lines.result.buffer start in
    let reads : HeadReads start after (head_record c.in_ok-read_first.field-0) =
    rw (prepend-none start) at
    (rw c.new-lines.ensures.empty at c.in_ok-read_first.ensures.head) in
    let known : KnowsNames c.new-names.result [] = search rules in
    record {
      reader = clear-at-ok _ _ _ c.in_ok-read_first.ensures.marks.0;
      few = omega arith;
      read = head-read start after c.new-names.result (head_record c.in_ok-read_first.field-0)
          reads known;
      sums = summed-on start c.new-lines.result c.read_first.new.lines old after
          c.in_ok-read_first.ensures.sums
          (summed-first start c.new-lines.result c.new-lines.ensures.empty
          c.new-lines.ensures.sums);
    }

-- the next block can't be read
pub returns-in_err-jobs-clause-fault : goal.returns-in_err-jobs-clause-fault
returns-in_err-jobs-clause-fault g c =
    let p = err_from_is_err_and c.from_residual-in_err-jobs.result
    c.from_residual-in_err-jobs.ensures.1 in
    let at = c.loop-names.invariant in
    rw (p.1, p.2) (block-fails (g.R.Source.remaining c.args.reader.now)
    (prepend_known c.loop-names.lines.buffer (g.R.Source.remaining c.loop-names.reader))
    c.loop-names.names
    c.loop-names.count c.in_err-jobs.field-0.0 at.read at.few c.in_err-jobs.ensures.fault)

-- it was the last one
pub returns-then-len-lt-BLOCK-clause-read : goal.returns-then-len-lt-BLOCK-clause-read
returns-then-len-lt-BLOCK-clause-read g c =
    let at = c.loop-names.invariant in
    let start : Option (List ℕ) = g.R.Source.remaining c.args.reader.now in
    let mid : Option (List ℕ) =
    prepend_known c.loop-names.lines.buffer (g.R.Source.remaining c.loop-names.reader) in
    let left : Option (List ℕ) = g.R.Source.remaining c.read_block.new.reader in
    let now : Option (List ℕ) = prepend_known c.read_block.new.lines.buffer left in
    let jobs : List JobRecord = map job_record c.in_ok-jobs.jobs.items in
    let many : length jobs ≡ length c.in_ok-jobs.jobs.items =
    length-map c.in_ok-jobs.jobs.items job_record in
    let count : c.loop-names.count + c.len.result ≡ c.loop-names.count + length jobs =
    omega (arith, c.len.ensures, c.in_ok-jobs.jobs.ok.0, many) in
    all-read start left c.read_block.new.lines.buffer (g.R.Source.mark c.read_block.new.reader)
    c.read_block.new.names (c.loop-names.count + c.len.result) c.read_block.new.lines
    c.sums.result
    (block-read start mid now c.loop-names.names c.read_block.new.names c.loop-names.count
    (c.loop-names.count + c.len.result) jobs at.read c.in_ok-jobs.ensures.jobs count)
    (omega (arith, count, many, c.in_ok-jobs.ensures.few))
    (c.in_ok-jobs.ensures.last
    (omega (
      arith,
      c.if-len-lt-BLOCK.true,
      c.len-in-loop-names.ensures,
      c.in_ok-jobs.jobs.ok.0,
    )))
    (summed-on start c.loop-names.lines c.read_block.new.lines mid now c.in_ok-jobs.ensures.sums
    at.sums) c.sums.ensures.sums

-- another one comes
pub loop-names-preserved : goal.loop-names-preserved
loop-names-preserved g c =
    let at = c.loop-names.invariant in
    let start : Option (List ℕ) = g.R.Source.remaining c.args.reader.now in
    let mid : Option (List ℕ) =
    prepend_known c.loop-names.lines.buffer (g.R.Source.remaining c.loop-names.reader) in
    let now : Option (List ℕ) =
    prepend_known c.read_block.new.lines.buffer
    (g.R.Source.remaining c.read_block.new.reader) in
    let jobs : List JobRecord = map job_record c.in_ok-jobs.jobs.items in
    let many : length jobs ≡ length c.in_ok-jobs.jobs.items =
    length-map c.in_ok-jobs.jobs.items job_record in
    let count : c.loop-names.count + c.len.result ≡ c.loop-names.count + length jobs =
    omega (arith, c.len.ensures, c.in_ok-jobs.jobs.ok.0, many) in
    record {
      reader = clear-at-ok _ _ _ c.in_ok-jobs.ensures.marks.0;
      few = omega (arith, count, many, c.in_ok-jobs.ensures.few);
      read = block-read start mid now c.loop-names.names c.read_block.new.names c.loop-names.count
          (c.loop-names.count + c.len.result) jobs at.read c.in_ok-jobs.ensures.jobs count;
      sums = summed-on start c.loop-names.lines c.read_block.new.lines mid now
          c.in_ok-jobs.ensures.sums at.sums;
    }
