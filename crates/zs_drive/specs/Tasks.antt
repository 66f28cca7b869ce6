-- What contracts know about a task, and what a poll does to it.
use Rattle.std.specs.Prelude.{◌≡◌, ℕ, ◌≤◌, ◌<◌, ◌⊎◌, Bool, false, true, List, [], ◌∷◌, ◌++◌, Option}
use Rattle.std.specs.Prelude.{Some, None, Result, Ok, Err, IsSomeAnd, nat_lt, if◌then◌else◌}
use Rattle.futures.specs.declared.task.Poll.{Poll}
use Rattle.futures.specs.declared.task.Poll.TheVariants.{Ready, Pending}
use Rattle.zs_effect.specs.declared.script.Outcome.{Outcome}
use Rattle.zs_drive.specs.declared.record.Ending.{Ending}
use Rattle.zs_drive.specs.declared.fault.DriveFault.{DriveFault}
use Rattle.zs_drive.specs.Values.{JobRecord}
use Rattle.zs_drive.specs.Timeline.{Timeline, timeline_of, ending_by_outcome}

-- a job, and the moments at which it was polled while it was due
pub record TaskValue : Type 0 where
  pub number : ℕ
  pub job : JobRecord
  pub moments : List ℕ
  pub seen : ℕ
  pub broken : Bool

-- a task that was not polled and is unbroken, at moment 0
abbrev pub new_task : ℕ → JobRecord → TaskValue
new_task number job =
    record { number = number; job = job; moments = []; seen = 0; broken = false }

-- the timeline of a job after polls at these moments: that on the clock that ticks at them
abbrev pub timeline_at : JobRecord → List ℕ → Timeline
timeline_at job moments = timeline_of job moments

-- the timeline of a task so far
abbrev pub current_timeline : TaskValue → Timeline
current_timeline task = timeline_at task.job task.moments

-- its due moment is at or before the moment seen
abbrev pub IsDue : TaskValue → Type 0
IsDue task = IsSomeAnd (current_timeline task).due (λ due. due ≤ task.seen)

-- its due moment is after the moment seen
abbrev pub IsNotYetDue : TaskValue → Type 0
IsNotYetDue task = IsSomeAnd (current_timeline task).due (λ due. task.seen < due)

-- a task after a poll, given its due moment
abbrev pub polled_when : TaskValue → Option ℕ → TaskValue
polled_when task None = task
polled_when task (Some due) = if nat_lt task.seen due then task
    else record task { moments = task.moments ++ task.seen ∷ [] }

-- A poll at or after the due moment adds the moment seen. Any other poll changes nothing.
abbrev pub polled : TaskValue → TaskValue
polled task = polled_when task (current_timeline task).due

-- the next poll gives an ending by outcome alone: a retry has a success, or a repeat a failure
pub record EndsByOutcome (task : TaskValue) (ending : Ending) : Type 0 where
  pub outcome : Outcome
  pub gives : ending_by_outcome task.job.mode outcome ≡ Some ending
  pub ends : (current_timeline (polled task)).ending ≡ Some ending

-- a poll returns the ending, if there is one
abbrev pub reply_of : Option Ending → Poll (Result Ending DriveFault)
reply_of None = Pending
reply_of (Some ending) = Ready (Ok ending)

-- an unbroken task was polled, with this result
abbrev pub WasPolled : TaskValue → TaskValue → Poll (Result Ending DriveFault) → Type 0
WasPolled old new result =
    (old.broken ≡ false) × (new ≡ polled old) × (result ≡ reply_of (current_timeline new).ending)

-- A task that was broken or due is now broken, and otherwise unchanged.
abbrev pub Breaks : TaskValue → TaskValue → Type 0
Breaks old new = ((old.broken ≡ true) ⊎ IsDue old) × (new ≡ record old { broken = true })

-- P if the poll ran out of memory, else Q
abbrev pub MatchMemory : Poll (Result Ending DriveFault) → Type 0 → Type 0 → Type 0
MatchMemory Pending P Q = Q
MatchMemory (Ready (Ok ending)) P Q = Q
MatchMemory (Ready (Err fault)) P Q = P
