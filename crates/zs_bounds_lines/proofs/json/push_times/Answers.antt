use Rattle.std.proofs.Common.{◌++◌, ℕ, List, codes}
use Rattle.std.specs.Fmt.{decimal}
use Rattle.zs_bounds_lines.specs.BoundsLines.{limit_text}
use Rattle.zs_bounds_lines.proofs.TextLemmas.{pushed}
use Rattle.zs_bounds_lines.proofs.json.push_times.Goals as goal

pub returns : goal.returns
returns c =
    let told = c.args.told.now in
    let wait : List ℕ = codes ",\"longest_wait\":" ++ decimal told.longest ++ codes ",\"every\":" in
    let every : List ℕ = limit_text told.every in
    let named : List ℕ = codes ",\"total_wait\":" in
    let total : List ℕ = limit_text told.total in
    let name : List ℕ = codes ",\"longest_run\":" in
    let run : List ℕ = limit_text told.longest_run in record {
      text = pushed _ _ _ (wait ++ every ++ named ++ total ++ name) run
          (pushed _ _ _ (wait ++ every ++ named ++ total) name
          (pushed _ _ _ (wait ++ every ++ named) total
          (pushed _ _ _ (wait ++ every) named
          (pushed _ _ _ wait every c.in_ok-write.ensures.bytes c.in_ok-push_limit.ensures.text)
          c.in_ok-push_str.ensures.bytes)
          c.in_ok-push_limit-2.ensures.text)
          c.in_ok-push_str-2.ensures.bytes)
          c.in_ok-push_limit-3.ensures.text;
    }
