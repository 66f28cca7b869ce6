use Rattle.zs_step.specs.Answer.{answer_of}
use Rattle.zs_step.proofs.FirstDone.{none-goes_on, goes_on-none, found-is-first, first-is-found}
use Rattle.zs_step.proofs.FirstDone.{sequel-found, sequel-before}
use Rattle.zs_step.proofs.laws.second_part_begins_where_the_first_is_done.Goals as goal

pub returns : goal.returns
returns c = record {
  found = λ a h part. (found-is-first (answer_of a) h part, first-is-found (answer_of a) h part);
  none = λ a h. (none-goes_on (answer_of a) h, goes_on-none (answer_of a) h);
  second = λ a b h part. sequel-found (answer_of a) (answer_of b) h part;
  first = λ a b h. sequel-before (answer_of a) (answer_of b) h;
}
