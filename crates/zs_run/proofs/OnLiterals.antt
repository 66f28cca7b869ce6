-- The definitions that a worked example unfolds to compute the plan of a literal text.
use Rattle.std.specs.Prelude.{⊤}
use Rattle.std.specs.Str.{is_utf8, chars}
use Rattle.serde_json.proofs.OnLiterals.{serde_json_on_literals}
use Rattle.zs_agenda.specs.Tests.{rises, is_tick_list, is_clock}
use Rattle.zs_term.specs.Token.{lex}
use Rattle.zs_run.specs.Tree.{all_of}
use Rattle.zs_run.specs.Shapes.{beat_of, job_parts, document_parts}
use Rattle.zs_run.specs.Jobs.{mode_of, is_name_byte, is_name, script_of, job_of, jobs_of}
use Rattle.zs_run.specs.Plan.{is_cut, plan_of_tree, plan_of}

-- the tests of a clock and the parts of a document
unfoldable pub shapes_on_literals : ⊤
unfolding serde_json_on_literals is_utf8 chars rises is_tick_list is_clock all_of beat_of job_parts
    document_parts
shapes_on_literals = tt

unfoldable pub plans_on_literals : ⊤
unfolding shapes_on_literals lex mode_of is_name_byte is_name script_of job_of jobs_of is_cut
    plan_of_tree plan_of
plans_on_literals = tt
