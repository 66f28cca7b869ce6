-- The jobs of a plan, one after the other, or the first fault. The causes are checked in the order
-- of the faults.
use Rattle.std.specs.Prelude.{ℕ, ◌+◌, ◌&&◌, ◌||◌, ◌==◌, List, [], ◌∷◌, ◌++◌, length, Bool, not}
use Rattle.std.specs.Prelude.{nat_lt, nat_le}
use Rattle.std.specs.Prelude.{if◌then◌else◌, Option, Some, None, Result, Ok, Err, codes}
use Rattle.std.specs.List.{list_all, list_any}
use Rattle.std.specs.Str.{bytes_eq}
use Rattle.std.specs.Char.{is_ascii_alphanumeric}
use Rattle.serde_json.specs.Data.{Data}
use Rattle.zs_term.specs.Verdict.{verdict_of}
use Rattle.zs_effect.specs.declared.script.Beat.{Beat}
use Rattle.zs_effect.specs.declared.script.ScriptFault.{ScriptFault}
use Rattle.zs_effect.specs.declared.script.ScriptFault.TheVariants.{Empty, TooLong, ZeroMs}
use Rattle.zs_effect.specs.Scripts.{max_beats}
use Rattle.zs_drive.specs.Values.{JobRecord}
use Rattle.zs_drive.specs.declared.job.Mode.{Mode}
use Rattle.zs_drive.specs.declared.job.Mode.TheVariants as modes
use Rattle.zs_run.specs.declared.plan_fault.PlanFault.{PlanFault}
use Rattle.zs_run.specs.declared.plan_fault.PlanFault.TheVariants as faults
use Rattle.zs_run.specs.Refusals.{◌>>=◌, demand, demand_some, passed_on}
use Rattle.zs_run.specs.Tree.{all_of, is_one_of, has_only_keys}
use Rattle.zs_run.specs.Shapes.{beat_of, entry_keys, job_keys, job_parts}

-- the mode with this name
unfoldable pub mode_of : List ℕ → Option Mode
mode_of text = if bytes_eq text (codes "retry") then Some modes.Retry
    else (if bytes_eq text (codes "repeat") then Some modes.Repeat else None)

-- an ASCII letter, a digit, `-`, `_` or `.`
unfoldable pub is_name_byte : ℕ → Bool
is_name_byte b = is_ascii_alphanumeric b || (b == 45) || (b == 95) || (b == 46)

-- 1 to 64 such bytes
unfoldable pub is_name : List ℕ → Bool
is_name text = nat_lt 0 (length text) && nat_le (length text) 64 && list_all is_name_byte text

-- the entries as a script, or the first cause to reject them
unfoldable pub script_of : List Beat → Result (List Beat) ScriptFault
script_of beats = if length beats == 0 then Err Empty
    else (if nat_lt max_beats (length beats) then Err TooLong
    else (if list_any (λ b. b.ms == 0) beats then Err ZeroMs else Ok beats))

-- the job with this number, after jobs with these names
unfoldable pub job_of : ℕ → List (List ℕ) → Data → Result JobRecord PlanFault
job_of number names d = do
  parts ← demand_some (job_parts d) (faults.Shape (Some number))
  beats ← demand_some (all_of beat_of parts.entries) (faults.Shape (Some number))
  _ ← demand (has_only_keys job_keys d && list_all (has_only_keys entry_keys) parts.entries)
      (faults.UnknownKey (Some number))
  mode ← demand_some (mode_of parts.mode) (faults.Range (Some number))
  _ ← demand (is_name parts.name) (faults.Name number)
  _ ← demand (not (is_one_of names parts.name)) (faults.SameName number)
  schedule ← passed_on (faults.Schedule number) (verdict_of parts.schedule)
  script ← passed_on (faults.Script number) (script_of beats)
  Ok (record
      { name = parts.name; mode = mode; schedule = schedule; start = parts.start; script = script })

-- the jobs from this number on, after jobs with these names
unfoldable pub jobs_of : ℕ → List (List ℕ) → List Data → Result (List JobRecord) PlanFault
jobs_of number names [] = Ok []
jobs_of number names (d ∷ ds) = do
  job ← job_of number names d
  jobs ← jobs_of (number + 1) (names ++ job.name ∷ []) ds
  Ok (job ∷ jobs)
