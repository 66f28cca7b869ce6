use Rattle.std.proofs.Common.{◌++◌, ℕ, List, codes}
use Rattle.std.specs.Fmt.{decimal}
use Rattle.zs_bounds_lines.specs.BoundsLines.{truth_text}
use Rattle.zs_bounds_lines.proofs.TextLemmas.{pushed}
use Rattle.zs_bounds_lines.proofs.json.push_steps.Goals as goal

pub returns : goal.returns
returns c =
    let told = c.args.told.now in
    let seen : List ℕ = codes ",\"steps_seen\":" ++ decimal told.seen ++ codes ",\"is_cut\":" in
    let truth : List ℕ = truth_text told.is_cut in record {
      text = pushed _ _ _ (seen ++ truth) (codes "}\n")
          (pushed _ _ _ seen truth c.in_ok-write.ensures.bytes c.in_ok-push_truth.ensures.text)
          c.in_ok-push_str.ensures.bytes;
    }
