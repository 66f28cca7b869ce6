use Rattle.std.proofs.Common.{rules, ◌≡◌, ◌++◌, append-nil, ap, sym, subst, OnOk, string_bytes}
use Rattle.zs_term.specs.Output.{output_of, outputs_of, outs_list, listed}
use Rattle.zs_term.specs.OutputText.{output_text}
use Rattle.zs_term.specs.declared.outputs.Out.{the_lemmas}
use Rattle.zs_term.proofs.Values.{stored_outputs_are}
use Rattle.zs_term.proofs.Texts.{comma_before, comma_after, no_comma, text_grown, text_enclosed, begins_both, begins_with_more}
use Rattle.zs_term.proofs.out_text.+texts.Goals.{append_items-then-i-gt0+in_ok-push_str, append_items-else-i-gt0}
use Rattle.zs_term.proofs.out_text.+texts.Goals as goal

-- a list with its brackets
pub append_outs-returns-clause-ok :
    goal.append_outs-returns-clause-ok
append_outs-returns-clause-ok t c =
    text_enclosed c.push_str-2.result _ _ _ _ _ c.in_ok-push_str.ensures.bytes c.in_ok-append_list.ensures.ok c.push_str-2.ensures.bytes

-- an output that is a list
pub push_out-returns-in-Items-clause-ok : goal.push_out-returns-in-Items-clause-ok
push_out-returns-in-Items-clause-ok t c =
    let same : output_of c.args.out.now ≡ listed (outputs_of (outs_list c.in-Items.outs)) = search (rules, the_lemmas, stored_outputs_are) in
    subst (λ w. OnOk c.append_outs.result (string_bytes c.append_outs.new.text ≡ string_bytes c.args.text.now ++ w)) (sym (ap output_text same)) c.append_outs.ensures.ok

-- one more output of a list
pub append_items-loop-i-preserved : goal.append_items-loop-i-preserved
append_items-loop-i-preserved t c =
    let l = c.loop-i in
    let comma : string_bytes c.if-i-gt0.text ≡ string_bytes l.text ++ comma_before l.i =
    elim c.if-i-gt0.branch [
      | append_items-then-i-gt0+in_ok-push_str w ↦
          rw (w.text-is, w.in_ok-push_str.ensures.bytes, comma_after l.i w.if-i-gt0.true)
      | append_items-else-i-gt0 w ↦ rw (w.text-is, no_comma l.i w.if-i-gt0.false, append-nil)
    ] in
    let begins = begins_with_more _ _ _ comma in (
      text_grown _ _ _ _ _ _ _ c.loop-i-test.true c.index-items-i.is l.invariant.0 comma c.in_ok-push_out.ensures.ok,
      begins_both _ _ _ l.invariant.1 (begins_both _ _ _ begins c.in_ok-push_out.ensures.kept),
    )
