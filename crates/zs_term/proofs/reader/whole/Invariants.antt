use Rattle.std.proofs.Common.{◌-◌, length}
use Rattle.zs_term.specs.Parts.{state_in}
use Rattle.zs_term.specs.Reading.{SoFar}
use Rattle.zs_term.proofs.reader.whole.Given as goal

abbrev pub invariant-loop-parser : goal.invariant-loop-parser
invariant-loop-parser l = SoFar l.parser.build l.text (state_in l.parser l.stage) l.huge l.from

abbrev pub decreases-loop-parser : goal.decreases-loop-parser
decreases-loop-parser l = length l.text - l.from
