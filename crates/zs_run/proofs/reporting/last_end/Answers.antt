use Rattle.std.proofs.Common.{◌≡◌, ◌-◌, ◌∙◌, List, length, map, slice_get, sym, ap}
use Rattle.std.specs.Prelude.{Option, Some, None, option_map, option_and_then}
use Rattle.std.proofs.lemmas.List.{length-map}
use Rattle.std.proofs.lemmas.Option.{slice_get-map}
use Rattle.zs_drive.specs.declared.record.Attempted.{Attempted}
use Rattle.zs_drive.specs.Values.{AttemptedValue, attempted_of, ended_of}
use Rattle.zs_run.specs.Report.{last_ended}
use Rattle.zs_run.proofs.reporting.last_end.Goals as goal

-- how the last of these records ended, if there is one
last_ended-of : (records : List Attempted) (last : Option Attempted)
    → last ≡ slice_get records (length records - 1)
    → option_and_then (λ (a : AttemptedValue). a.ended) (option_map attempted_of last)
    ≡ last_ended (map attempted_of records)
last_ended-of records last is =
    ap (λ (o : Option Attempted). option_and_then (λ (a : AttemptedValue). a.ended)
    (option_map attempted_of o)) is
    ∙ ap (option_and_then (λ (a : AttemptedValue). a.ended))
    (sym (slice_get-map attempted_of records (length records - 1)))
    ∙ ap (λ n. option_and_then (λ (a : AttemptedValue). a.ended)
    (slice_get (map attempted_of records) (n - 1))) (sym (length-map records attempted_of))

pub returns-in-Some : goal.returns-in-Some
returns-in-Some c = record {
  value =
      ap ended_of c.as_ref.ensures.value ∙ last_ended-of c.records.result.now
      (Some c.in-Some.attempt.now) c.in-Some.ensures.value
      ∙ ap last_ended c.records.ensures.attempts;
}

pub returns-in-None : goal.returns-in-None
returns-in-None c =
    record {
      value = last_ended-of c.records.result.now None c.in-None.ensures.value
          ∙ ap last_ended c.records.ensures.attempts;
    }
