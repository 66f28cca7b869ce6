-- What the fields of a task represent, and their invariant.
use Rattle.std.specs.Prelude.{ℕ, ◌≤◌, List, map, Option, Some, None, ⊤, string_bytes}
use Rattle.zs_step.specs.declared.compiled.Compiled.{Compiled}
use Rattle.zs_step.specs.Compiled.{compiled_schedule}
use Rattle.zs_drive.specs.declared.record.Ending.{Ending}
use Rattle.zs_drive.specs.declared.progress.Phase.{Phase}
use Rattle.zs_drive.specs.declared.progress.Phase.TheVariants.{Waiting, Running, Over}
use Rattle.zs_drive.specs.declared.progress.Progress.{Progress}
use Rattle.zs_drive.specs.Clocks.{max_tick}
use Rattle.zs_drive.specs.Values.{JobRecord, AttemptedValue, attempted_of}
use Rattle.zs_drive.specs.Timeline.{Timeline, poll_moments}
use Rattle.zs_drive.specs.Recorded.{AllContinued, IsOnTimeline, IsStepped, IsRunning}

-- the due moment
abbrev pub due_of : Phase → Option ℕ
due_of (Waiting due) = Some due
due_of (Running attempt) = Some attempt.end
due_of (Over ending) = None

-- how the job ended
abbrev pub ending_of : Phase → Option Ending
ending_of (Waiting due) = None
ending_of (Running attempt) = None
ending_of (Over ending) = Some ending

-- the job that the fields represent
abbrev pub job_in : Progress → JobRecord
job_in p = record {
  name = string_bytes p.name;
  mode = p.mode;
  schedule = compiled_schedule p.schedule;
  start = p.start;
  script = p.script;
}

-- its attempts so far
abbrev pub attempts_of : Progress → List AttemptedValue
attempts_of p = map attempted_of p.records.items

-- the moments at which it was polled while it was due
abbrev pub moments_in : Progress → List ℕ
moments_in p = poll_moments (attempts_of p)

-- the timeline so far
abbrev pub timeline_in : Progress → Timeline
timeline_in p =
    record { attempts = attempts_of p; due = due_of p.phase; ending = ending_of p.phase }

-- The schedule continued after all attempts while it waits, after all but the last while one runs.
abbrev pub IsPhase : JobRecord → List AttemptedValue → ℕ → Phase → Type 0
IsPhase job attempts seen (Waiting due) = AllContinued attempts
IsPhase job attempts seen (Running attempt) =
    (others : List AttemptedValue) × (s : ℕ) × IsRunning job attempts attempt seen others s
IsPhase job attempts seen (Over ending) = ⊤

-- Until the job is over, the schedule's state represents its attempts.
abbrev pub IsSteppedIn : List AttemptedValue → Compiled → ℕ → Phase → Type 0
IsSteppedIn attempts schedule seen (Waiting due) = IsStepped attempts schedule seen
IsSteppedIn attempts schedule seen (Running attempt) = IsStepped attempts schedule seen
IsSteppedIn attempts schedule seen (Over ending) = ⊤

-- the records are those of the job on the clock of their moments
pub record IsProgress (p : Progress) : Type 0 where
  pub on_timeline : IsOnTimeline (job_in p) (timeline_in p) p.polls
  pub phase : IsPhase (job_in p) (attempts_of p) p.seen p.phase
  pub bounded : p.seen ≤ max_tick

-- the schedule's state is the one that the phase needs
abbrev pub HasState : Progress → Type 0
HasState p = IsSteppedIn (attempts_of p) p.schedule p.seen p.phase
