use Rattle.zs_run.proofs.Parts.{report_of_same}
use Rattle.zs_run.proofs.laws.the_cut_changes_nothing.Goals as goal

pub returns : goal.returns
returns c = record { same = report_of_same }
