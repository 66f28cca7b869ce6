use Rattle.zs_run.proofs.Parts.{report_of_part, report_of_two, report_of_parts}
use Rattle.zs_run.proofs.laws.reports_join.Goals as goal

pub returns : goal.returns
returns c = record { part = report_of_part; two = report_of_two; parts = report_of_parts }
