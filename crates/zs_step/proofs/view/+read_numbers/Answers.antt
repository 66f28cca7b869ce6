use Rattle.std.proofs.Common.{sym, ap, ◌∙◌, subst}
use Rattle.zs_step.specs.Numbers.{IsNumbers}
use Rattle.zs_step.specs.State.{last_output}
use Rattle.zs_step.specs.declared.numbers.Numbers.TheVariants.{Side}
use Rattle.zs_step.proofs.Steps.{side_numbers}
use Rattle.zs_step.proofs.view.+read_numbers.Goals as goal

pub returns-in-AndThen : goal.returns-in-AndThen
returns-in-AndThen t c = record {
  value = subst (IsNumbers Side) (sym (ap last_output c.in-AndThen.is) ∙ c.source.ensures.value)
      (side_numbers c.in-AndThen.done _ _);
}
