use Rattle.std.proofs.Common.{rules, ◌≡◌, sym, subst, string_bytes}
use Rattle.zs_term.specs.Schedule.{schedule_of}
use Rattle.zs_term.specs.Canonical.{canonical_text}
use Rattle.zs_term.specs.Causes.{SpellsSchedule}
use Rattle.zs_term.proofs.Verdicts.{round_trip}
use Rattle.zs_term.proofs.printer.write.Goals as goal

pub returns-clause-read_again : goal.returns-clause-read_again
returns-clause-read_again c =
    let same : string_bytes c.append.new.text ≡ canonical_text (schedule_of c.args.checked.now) =
    search rules in
    subst (λ b. SpellsSchedule b (schedule_of c.args.checked.now)) (sym same)
    (round_trip (schedule_of c.args.checked.now) (search rules) (search rules))
