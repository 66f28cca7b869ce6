-- What a `collectAll` has collected.
use Rattle.zs_term.specs.Output.{Output, Outputs, outputs_of, outs_list}
use Rattle.zs_step.specs.declared.collected.Collected.{Collected}
use Rattle.zs_step.specs.Answer.{collect_if}

-- the outputs of the list: those of the steps before the last one at which the part continued
abbrev pub earlier_outputs : Collected → Outputs
earlier_outputs c = outputs_of (outs_list c.list)

-- the same, and the output of the part's last step if it continued there
abbrev pub collected_outputs : Collected → Output → Outputs
collected_outputs c last = collect_if c.due (earlier_outputs c) last
