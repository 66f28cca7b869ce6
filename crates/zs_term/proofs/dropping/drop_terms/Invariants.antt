use Rattle.std.proofs.Common.{◌≡◌, ◌++◌, take, drop}
use Rattle.std.specs.Prelude.{map}
use Rattle.zs_term.specs.Parts.{without_term}
use Rattle.zs_term.proofs.dropping.drop_terms.Given as goal

abbrev pub invariant-loop-form : goal.invariant-loop-form
invariant-loop-form l =
    l.forms ≡ map without_term (take l.form-index l.fn.forms) ++ drop l.form-index l.fn.forms
