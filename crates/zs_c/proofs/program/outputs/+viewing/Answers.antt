use Rattle.std.proofs.Common.{inl, inr, sym, ◌∙◌, subst}
use Rattle.zs_c.specs.View.{Shows}
use Rattle.zs_c.proofs.Views.{no-levels, leaf-shows, pair-shows, left-shows, right-shows}
use Rattle.zs_c.proofs.Views.{while_input-part, while_output-part, reset_when-part, mapped-part}
use Rattle.zs_c.proofs.Views.{list-shows}
use Rattle.zs_c.proofs.program.outputs.+viewing.Goals as goal

pub read_view-returns-then-place-eq0-clause-shows :
    goal.read_view-returns-then-place-eq0-clause-shows
read_view-returns-then-place-eq0-clause-shows t c o tells =
    let p = c.args.place in
    absurd (no-levels p.code.now p.words.now p.levels o c.if-place-eq0.true tells)

pub read_view-returns-in-Leaf-clause-shows : goal.read_view-returns-in-Leaf-clause-shows
read_view-returns-in-Leaf-clause-shows t c o tells =
    let p = c.args.place in
    leaf-shows c.in-Leaf.field-0 p.code.now p.words.now p.levels c.word.result o c.read_node.result
    c.read_node.ensures.value c.in-Leaf.is c.word.ensures.value tells

pub read_view-returns-then-word-eq0-clause-shows : goal.read_view-returns-then-word-eq0-clause-shows
read_view-returns-then-word-eq0-clause-shows t c o tells =
    let e = c.parts.ensures in
    left-shows c.in-AndThen.sizes c.args.place c.parts.result.0 c.parts.result.1 o
    c.read_node.result c.read_node.ensures.value c.in-AndThen.is
    (record {
      first_code = e.first_code;
      second_code = e.second_code;
      first_words = e.first_words;
      second_words = e.second_words;
      first_levels = e.first_levels;
      second_levels = e.second_levels;
    })
    (sym c.word-in-AndThen.ensures.value ∙ c.if-word-eq0.true) tells

pub read_view-returns-else-word-eq0-clause-shows : goal.read_view-returns-else-word-eq0-clause-shows
read_view-returns-else-word-eq0-clause-shows t c o tells =
    let e = c.parts.ensures in
    right-shows c.in-AndThen.sizes c.args.place c.parts.result.0 c.parts.result.1 o
    c.read_node.result c.read_node.ensures.value c.in-AndThen.is
    (record {
      first_code = e.first_code;
      second_code = e.second_code;
      first_words = e.first_words;
      second_words = e.second_words;
      first_levels = e.first_levels;
      second_levels = e.second_levels;
    })
    (λ z. c.if-word-eq0.false (c.word-in-AndThen.ensures.value ∙ z)) tells

pub read_view-returns-in-WhileInput-clause-shows : goal.read_view-returns-in-WhileInput-clause-shows
read_view-returns-in-WhileInput-clause-shows t c o tells =
    let e = c.part.ensures in
    c.read_view.ensures.shows o
    (while_input-part c.in-WhileInput.field-0 c.args.place c.part.result o c.read_node.result
    c.read_node.ensures.value c.in-WhileInput.is
    (record { code = e.code; words = e.words; levels = e.levels }) tells)

pub read_view-returns-in-WhileOutput-clause-shows :
    goal.read_view-returns-in-WhileOutput-clause-shows
read_view-returns-in-WhileOutput-clause-shows t c o tells =
    let p = c.args.place in
    let a = c.part-in-WhileOutput.result in
    let e = c.part-in-WhileOutput.ensures in
    c.read_view-in-WhileOutput.ensures.shows o (elim c.in-WhileOutput.is [
      | inl w ↦ while_output-part w.0 w.1 p a o c.read_node.result c.read_node.ensures.value w.2
          (record { code = e.code; words = e.words; levels = e.levels }) tells
      | inr w ↦ reset_when-part w.0 w.1 p a o c.read_node.result c.read_node.ensures.value w.2
          (record { code = e.code; words = e.words; levels = e.levels }) tells
    ])

pub read_view-returns-in-Map-clause-shows : goal.read_view-returns-in-Map-clause-shows
read_view-returns-in-Map-clause-shows t c o tells =
    let e = c.part-in-Map.ensures in
    let w = mapped-part c.in-Map.func c.args.place c.part-in-Map.result o c.read_node.result
    c.read_node.ensures.value c.in-Map.is
    (record { code = e.code; words = e.words; levels = e.levels }) tells in
    subst (λ y. Shows c.read_mapped.result y) (sym w.1) (c.read_mapped.ensures.shows w.0 w.2)

pub read_view-returns-in-Both-clause-shows : goal.read_view-returns-in-Both-clause-shows
read_view-returns-in-Both-clause-shows t c o tells =
    let e = c.parts-in-Both.ensures in
    pair-shows c.in-Both.sizes c.args.place c.parts-in-Both.result.0 c.parts-in-Both.result.1 o
    c.read_node.result c.read_node.ensures.value c.in-Both.is (record {
      first_code = e.first_code;
      second_code = e.second_code;
      first_words = e.first_words;
      second_words = e.second_words;
      first_levels = e.first_levels;
      second_levels = e.second_levels;
    }) tells

pub read_view-returns-in-CollectAll-clause-shows : goal.read_view-returns-in-CollectAll-clause-shows
read_view-returns-in-CollectAll-clause-shows t c o tells =
    let p = c.args.place in
    list-shows p.code.now p.words.now p.levels c.word-in-CollectAll.result o c.read_node.result
    c.read_node.ensures.value c.in-CollectAll.is c.word-in-CollectAll.ensures.value tells
