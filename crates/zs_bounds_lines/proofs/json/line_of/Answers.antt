use Rattle.std.proofs.Common.{◌++◌, ℕ, List, Bool, Option, ap, ◌∙◌}
use Rattle.zs_term.specs.Canonical.{canonical_text}
use Rattle.zs_term.specs.Schedule.{Schedule, schedule_of}
use Rattle.zs_bounds.specs.BoundsOf.{bounds_of, never_stops}
use Rattle.zs_bounds_lines.specs.BoundsLines.{begun_within, json_line}
use Rattle.zs_bounds_lines.proofs.json.line_of.Goals as goal

pub returns : goal.returns
returns c =
    let s : Schedule = schedule_of c.args.policy.now in
    let spelled : List ℕ = canonical_text s in
    let driver = c.args.options.driver in
    let asked = c.args.options.within in
    let told = c.in_ok-told.told in
    let within : Option (ℕ × ℕ) = c.in_ok-within.within in
    let endless : Bool = c.never_gives_up-endless.result in record {
      text = c.in_ok-push_line.ensures.text
          ∙ ap (λ (bs : List ℕ). bs ++ json_line c.as_str.result.now driver endless told within) c.new-text.ensures.bytes
          ∙ ap (λ (bs : List ℕ). json_line bs driver endless told within) (c.as_str.ensures.value ∙ c.in_ok-spelling.ensures.ok)
          ∙ ap (λ b. json_line spelled driver b told within) c.never_gives_up-endless.ensures.value
          ∙ ap (λ w. json_line spelled driver (never_stops s) told w) c.in_ok-within.ensures.value
          ∙ ap (λ b. json_line spelled driver (never_stops s) b (begun_within s driver c.steps_for-steps.result asked)) c.in_ok-told.ensures.value
          ∙ ap (λ n. json_line spelled driver (never_stops s) (bounds_of s driver n) (begun_within s driver n asked)) c.steps_for-steps.ensures.value;
    }
