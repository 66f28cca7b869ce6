use Rattle.std.proofs.Common.{◌≡◌, ◌+◌, ◌∷◌, [], List, ℕ, Option, rules}
use Rattle.std.specs.Io.KnownBytes.{prepend_known}
use Rattle.zs_lines.specs.Buffers.{Took}
use Rattle.zs_population.proofs.SumLemmas.{sums-more}
use Rattle.zs_population.proofs.lines.LineReader.next_line.Goals as goal

-- a line was read
pub returns-in-Some-clause-sums : goal.returns-in-Some-clause-sums
returns-in-Some-clause-sums g c =
    let old : Option (List ℕ) =
    prepend_known c.args.self.now.buffer (g.R.Source.remaining c.args.reader.now) in
    let left : Option (List ℕ) =
    prepend_known c.next_line.new.self (g.R.Source.remaining c.next_line.new.reader) in
    let took : Took old left (c.next_line.new.line.items ∷ []) =
    rw c.if-is_line.true at c.in_ok-is_line.ensures.line in
    let counts : c.in-Some.count ≡ c.args.self.now.count + 1 = search rules in
    sums-more c.args.self.now
    (record {
      buffer = c.next_line.new.self;
      digest = c.update-then-is_line.new.self;
      count = c.in-Some.count;
    }) c.update.new.self old left c.next_line.new.line.items
    took counts (rw c.as_slice.ensures.value at c.update.ensures) c.update-then-is_line.ensures
