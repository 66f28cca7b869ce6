use Rattle.std.proofs.Common.{◌<◌, length, ap, sym, ◌∙◌, arith, slice_set}
use Rattle.std.proofs.lemmas.List.Edits.{map_over_more}
use Rattle.zs_term.specs.Parts.{without_term}
use Rattle.zs_term.proofs.dropping.drop_terms.Goals as goal

pub loop-form-preserved : goal.loop-form-preserved
loop-form-preserved c =
    let l = c.loop-form in
    let inside : l.form-index < length c.args.forms.now = omega arith in
    ap (λ k. slice_set l.forms l.form-index (without_term k)) (sym c.form-item.is)
    ∙ map_over_more without_term c.args.forms.now l.forms l.form-index c.form-item.result inside
    l.invariant c.form-item.is
