use Rattle.std.proofs.Common.{◌++◌, ℕ, List, codes}
use Rattle.zs_bounds_lines.specs.BoundsLines.{range_text, steps_text, times_text, truth_text, waits_text, within_text}
use Rattle.zs_bounds_lines.proofs.TextLemmas.{pushed}
use Rattle.zs_bounds_lines.proofs.json.push_line.Goals as goal

pub returns : goal.returns
returns c =
    let told = c.args.told.now in
    let policy : List ℕ = codes "{\"policy\":\"" ++ c.args.policy.now ++ codes "\",\"attempt\":" in
    let attempt : List ℕ = range_text c.args.driver.least c.args.driver.most in
    let named : List ℕ = codes ",\"wait\":" in
    let waits : List ℕ = waits_text c.args.driver.waits in
    let name : List ℕ = codes ",\"attempts\":" in
    let attempts : List ℕ = range_text told.least told.most in
    let label : List ℕ = codes ",\"never_gives_up\":" in
    let truth : List ℕ = truth_text c.args.endless in
    let times : List ℕ = times_text told in
    let within : List ℕ = within_text c.args.within in
    let driver : List ℕ = policy ++ attempt ++ named ++ waits in record {
      text = pushed _ _ _ (driver ++ name ++ attempts ++ label ++ truth ++ times ++ within) (steps_text told)
          (pushed _ _ _ (driver ++ name ++ attempts ++ label ++ truth ++ times) within
          (pushed _ _ _ (driver ++ name ++ attempts ++ label ++ truth) times
          (pushed _ _ _ (driver ++ name ++ attempts ++ label) truth
          (pushed _ _ _ (driver ++ name ++ attempts) label
          (pushed _ _ _ (driver ++ name) attempts
          (pushed _ _ _ driver name
          (pushed _ _ _ (policy ++ attempt ++ named) waits
          (pushed _ _ _ (policy ++ attempt) named
          (pushed _ _ _ policy attempt c.in_ok-write.ensures.bytes c.in_ok-push_range.ensures.text)
          c.in_ok-push_str.ensures.bytes)
          c.in_ok-push_waits.ensures.text)
          c.in_ok-push_str-2.ensures.bytes)
          c.in_ok-push_range-2.ensures.text)
          c.in_ok-push_str-3.ensures.bytes)
          c.in_ok-push_truth.ensures.text)
          c.in_ok-push_times.ensures.text)
          c.in_ok-push_within.ensures.text)
          c.in_ok-push_steps.ensures.text;
    }
