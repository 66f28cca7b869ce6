use Rattle.std.proofs.Common.{◌++◌, ℕ, List, codes, ap, ◌∙◌, string_bytes}
use Rattle.std.specs.Fmt.{decimal}
use Rattle.zs_bounds_lines.specs.BoundsLines.{late_limit, limit_text}
use Rattle.zs_bounds_lines.proofs.TextLemmas.{pushed}
use Rattle.zs_bounds_lines.proofs.json.push_waits.Goals as goal

pub returns : goal.returns
returns c =
    let v = c.args.waits in
    let least : List ℕ = codes "{\"least_percent\":" ++ decimal v.least_percent in
    let most : List ℕ = codes ",\"most_percent\":" ++ decimal v.most_percent ++ codes ",\"late\":" in
    let late : List ℕ = limit_text (late_limit v.late) in
    let asked : List ℕ = codes ",\"asked\":" ++ decimal v.asked ++ codes "}" in record {
      text = pushed _ _ _ (least ++ most ++ late) asked
          (pushed _ _ _ (least ++ most) late
          (pushed _ _ _ least most c.in_ok-write.ensures.bytes c.in_ok-write-2.ensures.bytes)
          (c.in_ok-push_limit.ensures.text ∙ ap (λ limit. string_bytes c.write-2.new.self ++ limit_text limit) c.late_limit.ensures.value))
          c.in_ok-write-3.ensures.bytes;
    }
