use Rattle.std.proofs.Common.{◌≡◌, ◌<◌, ◌+◌, ◌∷◌, [], ℕ, List, Option, map, length, refl, arith}
use Rattle.std.proofs.Common.{rules}
use Rattle.std.specs.Io.KnownBytes.{prepend_known}
use Rattle.std.proofs.lemmas.List.{length-map}
use Rattle.zs_drive.specs.Values.{JobRecord, job_record}
use Rattle.zs_lines.specs.Buffers.{Took}
use Rattle.zs_population.specs.Reads.{AddsJob}
use Rattle.zs_population.proofs.BlockLemmas.{block-refused, block-unread, reads-more, reads-nothing}
use Rattle.zs_lines.proofs.LineLemmas.{clear-at-ok}
use Rattle.zs_population.proofs.block.read_block.Goals as goal

-- no line was taken
pub loop-alloc-init : goal.loop-alloc-init
loop-alloc-init g c =
    let none : c.new-jobs.result.items ≡ [] = c.new-jobs.ensures.items in
    rw none (
      omega arith,
      c.requires.clear,
      omega (arith, c.requires.few),
      reads-nothing c.args.first _ c.args.names.now,
      λ all is. is,
    )

-- the next line can't be read
pub returns-in-Err-clause-fault : goal.returns-in-Err-clause-fault
returns-in-Err-clause-fault g c =
    let jobs : List JobRecord = map job_record c.loop-alloc.jobs.items in
    let k : ℕ = c.len-in-loop-alloc.result in
    let count : k ≡ length jobs = omega (
      arith,
      c.len-in-loop-alloc.ensures,
      c.loop-alloc.jobs.ok.0,
      length-map c.loop-alloc.jobs.items job_record,
    ) in
    let few : k < c.args.size =
    omega (arith, c.len-in-loop-alloc.ensures, c.len.ensures, c.loop-alloc-test.true) in
    let old : Option (List ℕ) =
    prepend_known c.args.lines.now.buffer (g.R.Source.remaining c.args.reader.now) in
    let mid : Option (List ℕ) =
    prepend_known c.loop-alloc.lines.buffer (g.R.Source.remaining c.loop-alloc.reader) in
    let now : Option (List ℕ) =
    prepend_known c.next_line.new.self.buffer (g.R.Source.remaining c.next_line.new.reader) in
    rw c.line_fault.ensures.value
    (block-unread c.args.first c.args.size k (c.args.first + k) old mid now c.args.names.now
    c.loop-alloc.names c.next_line.new.line.items jobs c.in-Err.fault
    count refl few c.loop-alloc.invariant.3 c.in-Err.ensures.line)

-- the next line is no job
pub returns-in-Err-add_line-clause-fault : goal.returns-in-Err-add_line-clause-fault
returns-in-Err-add_line-clause-fault g c =
    let jobs : List JobRecord = map job_record c.loop-alloc.jobs.items in
    let k : ℕ = c.len-in-loop-alloc.result in
    let count : k ≡ length jobs = omega (
      arith,
      c.len-in-loop-alloc.ensures,
      c.loop-alloc.jobs.ok.0,
      length-map c.loop-alloc.jobs.items job_record,
    ) in
    let few : k < c.args.size =
    omega (arith, c.len-in-loop-alloc.ensures, c.len.ensures, c.loop-alloc-test.true) in
    let old : Option (List ℕ) =
    prepend_known c.args.lines.now.buffer (g.R.Source.remaining c.args.reader.now) in
    let mid : Option (List ℕ) =
    prepend_known c.loop-alloc.lines.buffer (g.R.Source.remaining c.loop-alloc.reader) in
    let now : Option (List ℕ) =
    prepend_known c.next_line.new.self.buffer (g.R.Source.remaining c.next_line.new.reader) in
    let line : List ℕ = c.next_line.new.line.items in
    let took : Took mid now (line ∷ []) =
    rw c.in-Ok-true.field-0-test at c.in-Ok-true.ensures.line in (
      k,
      refl,
      few,
      block-refused c.args.first k (c.args.first + k) old mid now c.args.names.now
          c.loop-alloc.names line jobs c.in-Err-add_line.fault
          count refl c.loop-alloc.invariant.3 took
          (rw c.as_slice.ensures.value at c.in-Err-add_line.ensures.fault),
    )

-- one job more
pub loop-alloc-preserved : goal.loop-alloc-preserved
loop-alloc-preserved g c =
    let jobs : List JobRecord = map job_record c.loop-alloc.jobs.items in
    let after : List JobRecord = map job_record c.add_line.new.jobs.items in
    let k : ℕ = c.len-in-loop-alloc.result in
    let place : c.args.first + k ≡ c.args.first + length jobs =
    omega (
      arith,
      c.len-in-loop-alloc.ensures,
      c.loop-alloc.jobs.ok.0,
      length-map c.loop-alloc.jobs.items job_record,
    ) in
    let old : Option (List ℕ) =
    prepend_known c.args.lines.now.buffer (g.R.Source.remaining c.args.reader.now) in
    let mid : Option (List ℕ) =
    prepend_known c.loop-alloc.lines.buffer (g.R.Source.remaining c.loop-alloc.reader) in
    let now : Option (List ℕ) =
    prepend_known c.next_line.new.self.buffer (g.R.Source.remaining c.next_line.new.reader) in
    let line : List ℕ = c.next_line.new.line.items in
    let took : Took mid now (line ∷ []) =
    rw c.in-Ok-true.field-0-test at c.in-Ok-true.ensures.line in
    let count : length c.add_line.new.jobs.items ≡ length c.loop-alloc.jobs.items + 1 =
    search rules in
    let adds : AddsJob (c.args.first + k) c.loop-alloc.names c.add_line.new.names
    c.as_slice.result.now jobs after = search rules in (
      omega (arith, count, c.len.ensures, c.loop-alloc-test.true, c.loop-alloc.jobs.ok.0),
      clear-at-ok _ _ _ c.in-Ok-true.ensures.marks.0,
      search rules,
      reads-more c.args.first (c.args.first + k) old mid now c.args.names.now c.loop-alloc.names
          c.add_line.new.names line jobs after
          place c.loop-alloc.invariant.3 took (rw c.as_slice.ensures.value at adds),
      λ all is. c.in-Ok-true.ensures.sums all (c.loop-alloc.invariant.4 all is),
    )

-- no line remains
pub returns-in-Ok-false-clause-sums : goal.returns-in-Ok-false-clause-sums
returns-in-Ok-false-clause-sums g c =
    λ all is. c.in-Ok-false.ensures.sums all (c.loop-alloc.invariant.4 all is)
