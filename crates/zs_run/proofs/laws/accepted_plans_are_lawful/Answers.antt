use Rattle.zs_run.proofs.LawfulLemmas.{plan_is_lawful}
use Rattle.zs_run.proofs.ScriptLemmas.{script_given, fault_given}
use Rattle.zs_run.proofs.laws.accepted_plans_are_lawful.Goals as goal

pub returns : goal.returns
returns c = record { lawful = plan_is_lawful; scripts = script_given; faults = fault_given }
