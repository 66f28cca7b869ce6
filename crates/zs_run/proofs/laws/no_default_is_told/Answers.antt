use Rattle.zs_run.proofs.EndsTold.{end_is_there}
use Rattle.zs_run.proofs.laws.no_default_is_told.Goals as goal

pub returns : goal.returns
returns c = record { ends = end_is_there }
