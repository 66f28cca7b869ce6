use Rattle.zs_run.specs.Shapes.{beat_of}
use Rattle.zs_run.proofs.ListLemmas.{HaveGiven}
use Rattle.zs_run.proofs.entry.beats_of.Given as goal

abbrev pub invariant-loop-entry : goal.invariant-loop-entry
invariant-loop-entry l = HaveGiven beat_of l.beats.items l.entries l.entry-index
