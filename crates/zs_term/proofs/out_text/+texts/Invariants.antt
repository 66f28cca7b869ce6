use Rattle.std.proofs.Common.{◌≡◌, ◌++◌, take, string_bytes}
use Rattle.zs_term.specs.Output.{outputs_of}
use Rattle.zs_term.specs.OutputText.{outputs_text, IsBeginning}
use Rattle.zs_term.proofs.out_text.+texts.Given as goal

abbrev pub invariant-append_items-loop-i : goal.invariant-append_items-loop-i
invariant-append_items-loop-i l = (string_bytes l.text ≡ string_bytes l.initial.text ++ outputs_text (outputs_of (take l.i l.items)))
    × IsBeginning (string_bytes l.initial.text) (string_bytes l.text)
