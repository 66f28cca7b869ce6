use Rattle.std.proofs.Common.{◌++◌, ℕ, List, codes}
use Rattle.std.specs.Fmt.{decimal}
use Rattle.zs_bounds_lines.specs.BoundsLines.{limit_text}
use Rattle.zs_bounds_lines.proofs.TextLemmas.{pushed}
use Rattle.zs_bounds_lines.proofs.json.push_range.Goals as goal

pub returns : goal.returns
returns c =
    let least : List ℕ = codes "{\"least\":" ++ decimal c.args.least ++ codes ",\"most\":" in
    let most : List ℕ = limit_text c.args.most in record {
      text = pushed _ _ _ (least ++ most) (codes "}") (pushed _ _ _ least most c.in_ok-write.ensures.bytes c.in_ok-push_limit.ensures.text) c.in_ok-push_str.ensures.bytes;
    }
