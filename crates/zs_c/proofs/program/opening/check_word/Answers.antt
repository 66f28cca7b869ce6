use Rattle.std.proofs.Common.{◌<◌, length, ap, ◌∙◌, arith}
use Rattle.std.specs.Prelude.{fold}
use Rattle.std.proofs.lemmas.List.{take_all}
use Rattle.std.proofs.lemmas.List.Sums.{fold_more}
use Rattle.zs_c.specs.Program.{check_more, check_start, check_word}
use Rattle.zs_c.proofs.program.opening.check_word.Goals as goal

pub loop-word-preserved : goal.loop-word-preserved
loop-word-preserved c =
    let lt : c.loop-word.word-index < length c.args.words.now = omega arith in
    let more = fold_more check_more check_start c.args.words.now c.loop-word.word-index 0 lt in
    cc

pub returns : goal.returns
unfolding check_word
returns c = record {
  value = c.loop-word.invariant ∙ ap (fold check_more check_start) (take_all
      c.loop-word.word-index c.args.words.now (omega arith));
}
