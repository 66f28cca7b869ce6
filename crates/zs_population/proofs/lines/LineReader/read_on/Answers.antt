use Rattle.std.proofs.Common.{◌<◌, ◌^◌, ◌∷◌, ◌++◌, [], List, ℕ, Option, Ok, ap, arith}
use Rattle.std.specs.Io.KnownBytes.{prepend_known}
use Rattle.zs_lines.specs.Buffers.{Took}
use Rattle.zs_lines.proofs.LineLemmas.{clear-at-ok, took-more, took-nothing}
use Rattle.zs_population.proofs.SumLemmas.{ended-known, sums-ended}
use Rattle.zs_population.proofs.lines.LineReader.read_on.Goals as goal

-- no line yet
pub loop-line-init : goal.loop-line-init
loop-line-init g c = record {
  clear = c.requires.clear;
  sums = λ all is. is;
  took = (
    [],
    took-nothing
        (prepend_known c.args.self.now.buffer (g.R.Source.remaining c.args.reader.now)),
  );
}

-- one line fewer may follow
pub loop-line-smaller : goal.loop-line-smaller
loop-line-smaller g c =
    let counts : (c.loop-line.self.count < c.next_line.new.self.count)
    × (c.next_line.new.self.count < 2 ^ 64) =
    c.in_ok-next_line.ensures.counts (ap Ok c.if-branch.true) in
    omega (arith, counts.0, counts.1)

-- one line more
pub loop-line-preserved : goal.loop-line-preserved
loop-line-preserved g c =
    let old : Option (List ℕ) =
    prepend_known c.args.self.now.buffer (g.R.Source.remaining c.args.reader.now) in
    let mid : Option (List ℕ) =
    prepend_known c.loop-line.self.buffer (g.R.Source.remaining c.loop-line.reader) in
    let left : Option (List ℕ) =
    prepend_known c.next_line.new.self.buffer (g.R.Source.remaining c.next_line.new.reader) in
    let took : Took mid left (c.next_line.new.line.items ∷ []) =
    rw c.if-branch.true at c.in_ok-next_line.ensures.line in
    let before = c.loop-line.invariant.took in
    record {
      clear = clear-at-ok _ _ _ c.in_ok-next_line.ensures.marks.0;
      sums = λ all is. c.in_ok-next_line.ensures.sums all (c.loop-line.invariant.sums all is);
      took = (
        before.0 ++ c.next_line.new.line.items ∷ [],
        took-more old mid left before.0 (c.next_line.new.line.items ∷ []) before.1 took,
      );
    }

-- no line remains
pub returns-clause-sums : goal.returns-clause-sums
returns-clause-sums g c = λ all is.
    let left : Option (List ℕ) =
    prepend_known c.next_line.new.self.buffer (g.R.Source.remaining c.next_line.new.reader) in
    let read = rw c.if-branch.false at c.in_ok-next_line.ensures.line in
    c.sums.ensures.sums all (sums-ended all c.next_line.new.self left
    (c.in_ok-next_line.ensures.sums all (c.loop-line.invariant.sums all is)) read.1)

pub returns-clause-end : goal.returns-clause-end
returns-clause-end g c =
    let old : Option (List ℕ) =
    prepend_known c.args.self.now.buffer (g.R.Source.remaining c.args.reader.now) in
    let mid : Option (List ℕ) =
    prepend_known c.loop-line.self.buffer (g.R.Source.remaining c.loop-line.reader) in
    let left : Option (List ℕ) = g.R.Source.remaining c.next_line.new.reader in
    let read = rw c.if-branch.false at c.in_ok-next_line.ensures.line in
    let before = c.loop-line.invariant.took in
    ended-known old left c.next_line.new.self.buffer (before.0 ++ [])
    (took-more old mid (prepend_known c.next_line.new.self.buffer left) before.0 [] before.1
    read.0) read.1
