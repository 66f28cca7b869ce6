use Rattle.std.proofs.Common.{◌≡◌, take}
use Rattle.std.specs.Prelude.{fold}
use Rattle.zs_c.specs.Program.{check_more, check_start}
use Rattle.zs_c.proofs.program.opening.check_word.Given as goal

-- the check word over the words so far
abbrev pub invariant-loop-word : goal.invariant-loop-word
invariant-loop-word l = l.check ≡ fold check_more check_start (take l.word-index l.words)
