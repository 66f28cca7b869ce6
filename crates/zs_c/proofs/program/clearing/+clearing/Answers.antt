use Rattle.zs_c.proofs.Pieces.{put-behind-first, length-behind-first, put-behind-two}
use Rattle.zs_c.proofs.Pieces.{length-behind-two}
use Rattle.zs_c.proofs.NodeSteps.{code-deep, together-clears, then-clears, list-clears, list-few}
use Rattle.zs_c.proofs.NodeSteps.{three-clears, four-clears, leaf-clears}
use Rattle.zs_c.proofs.program.clearing.+clearing.Goals as goal

pub clear-returns-then-levels-eq0 : goal.clear-returns-then-levels-eq0
clear-returns-then-levels-eq0 t c =
    record {
      clears = λ u coded sized. absurd
          (code-deep u c.args.code.now c.args.levels coded c.if-levels-eq0.true);
    }

pub clear-returns-in-Leaf : goal.clear-returns-in-Leaf
clear-returns-in-Leaf t c = record {
  clears = λ u coded. leaf-clears u c.args.code.now c.args.words.now c.clear_leaf.new.words
      c.args.levels c.read_node.result c.in-Leaf.leaf coded
      c.read_node.ensures.value c.in-Leaf.is c.clear_leaf.ensures.clears;
}

pub clear-returns-then-not-is_empty : goal.clear-returns-then-not-is_empty
clear-returns-then-not-is_empty t c =
    let old = c.args.words.now in
    let rest = c.clear_parts.new.words in
    record {
      clears = λ u coded. then-clears u c.args.code.now old _ rest c.args.levels c.read_node.result
          c.in-AndThen.sizes coded
          c.read_node.ensures.value c.in-AndThen.is
          (λ a b parts sized. c.clear_parts.ensures.clears a b parts
          (length-behind-first old 0 _ sized))
          (put-behind-first old rest 0);
    }

pub clear-returns-in-WhileInput : goal.clear-returns-in-WhileInput
clear-returns-in-WhileInput t c = record {
  clears = λ u coded. three-clears u c.args.code.now c.words_after-in-WhileInput.result.now
      c.args.words.now c.clear-in-WhileInput.new.words c.args.levels c.read_node.result coded
      c.read_node.ensures.value c.words_after-in-WhileInput.ensures.value c.in-WhileInput.is
      c.clear-in-WhileInput.ensures.clears;
}

pub clear-returns-in-WhileOutput : goal.clear-returns-in-WhileOutput
clear-returns-in-WhileOutput t c = record {
  clears = λ u coded. four-clears u c.args.code.now c.words_after-in-WhileOutput.result.now
      c.args.words.now c.clear-in-WhileOutput.new.words c.args.levels
      c.read_node.result coded c.read_node.ensures.value c.words_after-in-WhileOutput.ensures.value
      c.in-WhileOutput.is c.clear-in-WhileOutput.ensures.clears;
}

pub clear-returns-in-Both : goal.clear-returns-in-Both
clear-returns-in-Both t c = record {
  clears = λ u coded. together-clears u c.args.code.now c.args.words.now
      c.clear_parts-in-Both.new.words c.args.levels c.read_node.result c.in-Both.sizes coded
      c.read_node.ensures.value c.in-Both.is c.clear_parts-in-Both.ensures.clears;
}

pub clear-returns-then-words-ge2 : goal.clear-returns-then-words-ge2
clear-returns-then-words-ge2 t c =
    let old = c.args.words.now in
    let rest = c.clear.new.words in
    record {
      clears = λ u coded. list-clears u c.args.code.now c.words_after.result.now old _ rest
          c.args.levels c.read_node.result coded
          c.read_node.ensures.value c.words_after.ensures.value c.in-CollectAll.is
          (λ s there sized. c.clear.ensures.clears s there (length-behind-two old _ sized))
          (put-behind-two old rest);
    }

pub clear-returns-else-words-ge2 : goal.clear-returns-else-words-ge2
clear-returns-else-words-ge2 t c = record {
  clears = λ u coded sized.
      absurd (list-few u c.args.code.now c.args.words.now c.args.levels c.read_node.result coded
      c.read_node.ensures.value c.in-CollectAll.is sized c.if-words-ge2.false);
}
