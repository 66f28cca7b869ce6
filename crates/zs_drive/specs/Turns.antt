-- What one poll does to the fields of a task.
use Rattle.std.specs.Prelude.{◌≡◌, ℕ, ◌+◌, ◌≤◌, ◌<◌, List, [], ◌∷◌, ◌++◌, length, map, vec_len}
use Rattle.std.specs.Prelude.{Option, Some, None, Result, OnOk, OnErr, IsSomeAnd, ⊤}
use Rattle.std.specs.Global.{Vec}
use Rattle.std.specs.Vec.{vec_capacity}
use Rattle.zs_term.specs.declared.outputs.Out.{Out}
use Rattle.zs_term.specs.Output.{output_of}
use Rattle.zs_term.specs.Saturating.{saturated}
use Rattle.zs_effect.specs.declared.script.Beat.{Beat}
use Rattle.zs_effect.specs.declared.script.Outcome.{Outcome}
use Rattle.zs_effect.specs.Attempts.{AttemptValue}
use Rattle.zs_effect.specs.Scripts.{entry_at}
use Rattle.zs_step.specs.declared.compiled.Compiled.{Compiled}
use Rattle.zs_step.specs.declared.decision.Decision.{Decision}
use Rattle.zs_step.specs.History.{History}
use Rattle.zs_step.specs.Answer.{Answer, answer, answer_of}
use Rattle.zs_step.specs.Compiled.{StandsFor, compiled_schedule}
use Rattle.zs_drive.specs.declared.fault.DriveFault.{DriveFault}
use Rattle.zs_drive.specs.declared.job.Mode.{Mode}
use Rattle.zs_drive.specs.declared.progress.Phase.{Phase}
use Rattle.zs_drive.specs.declared.progress.Phase.TheVariants.{Waiting, Running, Over}
use Rattle.zs_drive.specs.declared.progress.Progress.{Progress}
use Rattle.zs_drive.specs.declared.record.Attempted.{Attempted}
use Rattle.zs_drive.specs.declared.record.Ended.{Ended}
use Rattle.zs_drive.specs.Values.{AttemptedValue, attempted_of, ended_of}
use Rattle.zs_drive.specs.Timeline.{ended_attempt, number_of, ending_by_outcome}
use Rattle.zs_drive.specs.DriverRules.{history_after}
use Rattle.zs_drive.specs.Recorded.{runs}
use Rattle.zs_drive.specs.Progress.{due_of, ending_of, job_in, attempts_of, moments_in, IsProgress}
use Rattle.zs_drive.specs.Progress.{HasState}

-- the list has no spare capacity
abbrev pub IsFull : Vec Attempted → Type 0
IsFull records = vec_capacity records ≤ vec_len records

-- the record at this place, of an attempt that ran, now has this end
abbrev pub HasEnd : List Attempted → List Attempted → ℕ → Ended → Type 0
HasEnd old new index ended = (others rest : List AttemptedValue) (s : ℕ) → index ≡ length others
    → map attempted_of old ≡ others ++ runs s ∷ rest
    → map attempted_of new ≡ others ++ record { begun = s; ended = ended_of (Some ended) } ∷ rest

-- The last attempt, which ran, has ended in this way at the moment seen, and these follow it.
abbrev pub HasEnded : Progress → Progress → Outcome → Option Answer → List AttemptedValue → Type 0
HasEnded old new outcome step more = (others : List AttemptedValue) (s : ℕ)
    → attempts_of old ≡ others ++ runs s ∷ []
    → attempts_of new ≡ others ++ ended_attempt s old.seen outcome step ∷ more

-- the script's entry for the next attempt
abbrev pub next_entry : Progress → Beat
next_entry p = entry_at p.script (length p.records.items + 1)

-- the attempt of this entry that begins at this moment
abbrev pub started : Beat → ℕ → AttemptValue
started beat now = record { outcome = beat.outcome; end = saturated (now + beat.ms); seen = now }

-- the fields with one more poll, the records of others and this phase
abbrev pub turned : Progress → Progress → Phase → Progress
turned p q phase = record p { records = q.records; phase = phase; polls = p.polls + 1 }

-- one due poll was done at the moment seen
pub record Advances (old new : Progress) : Type 0 where
  pub progress : IsProgress new
  pub state : HasState new
  pub moments : moments_in new ≡ moments_in old ++ old.seen ∷ []
  pub job : job_in new ≡ job_in old
  pub seen : new.seen ≡ old.seen

-- it waits to begin an attempt, which is due by the moment seen
abbrev pub IsWaitingTo : ℕ → Phase → Type 0
IsWaitingTo seen (Waiting due) = due ≤ seen
IsWaitingTo seen (Running attempt) = ⊥
IsWaitingTo seen (Over ending) = ⊥

-- its attempt ends with this outcome, by the moment seen
abbrev pub HasRunTo : ℕ → Outcome → Phase → Type 0
HasRunTo seen outcome (Waiting due) = ⊥
HasRunTo seen outcome (Running attempt) = (attempt.end ≤ seen) × (outcome ≡ attempt.outcome)
HasRunTo seen outcome (Over ending) = ⊥

-- The state represents a history with one more step, if it represented the history before that.
abbrev pub StandsAfter : Compiled → Compiled → ℕ → Outcome → Type 0
StandsAfter old new seen outcome = (h : History) → StandsFor old h
    → StandsFor new ((seen, number_of outcome) ∷ h)

-- The schedule has returned this at that step.
abbrev pub HasDecided : Compiled → ℕ → Outcome → Out × Decision → Type 0
HasDecided old seen outcome step = (h : History) → StandsFor old h
    → answer (output_of step.0) step.1
    ≡ answer_of (compiled_schedule old) ((seen, number_of outcome) ∷ h)

-- the history of the attempts and of the end of the one that has just ended
abbrev pub ended_history : Progress → Outcome → History
ended_history p outcome = (p.seen, number_of outcome) ∷ history_after (attempts_of p)

-- the schedule's state represents that history
abbrev pub WasAsked : Progress → Outcome → Type 0
WasAsked p outcome = StandsFor p.schedule (ended_history p outcome)

-- this is what the schedule returns for it
abbrev pub IsDecided : Progress → Outcome → Out → Decision → Type 0
IsDecided p outcome out decision = answer (output_of out) decision
    ≡ answer_of (compiled_schedule p.schedule) (ended_history p outcome)

-- the job is over
abbrev pub IsOver : Phase → Type 0
IsOver phase = IsSomeAnd (ending_of phase) (λ _. ⊤)

-- the due moment is after the moment seen
abbrev pub IsEarly : ℕ → Phase → Type 0
IsEarly seen phase = IsSomeAnd (due_of phase) (λ due. seen < due)

-- the due moment is at or before the moment seen
abbrev pub IsDuePhase : ℕ → Phase → Type 0
IsDuePhase seen phase = IsSomeAnd (due_of phase) (λ due. due ≤ seen)

-- a due poll may allocate memory: an attempt begins, or its outcome does not itself end the job
abbrev pub TakesMemory : Mode → Phase → Type 0
TakesMemory mode (Waiting due) = ⊤
TakesMemory mode (Running attempt) = ending_by_outcome mode attempt.outcome ≡ None
TakesMemory mode (Over ending) = ⊥

-- nothing was done, but a running attempt may have seen a later moment, and the schedule may have
-- been stepped
pub record StandsStill (old new : Progress) : Type 0 where
  pub progress : IsProgress new
  pub moments : moments_in new ≡ moments_in old
  pub job : job_in new ≡ job_in old
  pub seen : new.seen ≡ old.seen
  pub due : due_of new.phase ≡ due_of old.phase
  pub ending : ending_of new.phase ≡ ending_of old.phase

-- nothing was done at all
abbrev pub IsSame : Progress → Progress → Type 0
IsSame old new = StandsStill old new × HasState new

-- a due poll was done, or nothing was done
abbrev pub IsTurn : Progress → Progress → Result (Unit {0}) DriveFault → Type 0
IsTurn old new done = OnOk done (Advances old new) × OnErr done (StandsStill old new)
