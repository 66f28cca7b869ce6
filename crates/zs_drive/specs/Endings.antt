-- How jobs end, after ZIO's `retry` and `repeat`.
use Rattle.std.specs.Prelude.{ℕ, Option, Some, None}
use Rattle.zs_effect.specs.declared.script.Outcome.{Outcome}
use Rattle.zs_effect.specs.declared.script.Outcome.TheVariants.{Good, Bad}
use Rattle.zs_drive.specs.declared.job.Mode.{Mode}
use Rattle.zs_drive.specs.declared.job.Mode.TheVariants.{Retry, Repeat}
use Rattle.zs_drive.specs.declared.record.Ending.{Ending}
use Rattle.zs_drive.specs.declared.record.Ending.TheVariants.{Succeeded, Failed, Finished}

-- the input that an outcome gives to a schedule
abbrev pub number_of : Outcome → ℕ
number_of (Good value) = value
number_of (Bad code) = code

-- how an outcome itself ends a job: a success ends a retry, a failure ends a repeat
abbrev pub ending_by_outcome : Mode → Outcome → Option Ending
ending_by_outcome Retry (Good value) = Some (Succeeded value)
ending_by_outcome Retry (Bad code) = None
ending_by_outcome Repeat (Good value) = None
ending_by_outcome Repeat (Bad code) = Some (Failed code)

-- how a job ends if its schedule is done: a retry with the last error, a repeat with the output
abbrev pub ending_by_schedule : Mode → Outcome → Ending
ending_by_schedule Retry outcome = Failed (number_of outcome)
ending_by_schedule Repeat outcome = Finished
