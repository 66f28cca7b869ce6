-- The rules of the drivers in another form: from an attempt on to those after it.
use Rattle.std.specs.Prelude.{◌≡◌, ℕ, ◌+◌, max, List, [], ◌∷◌, Option, Some, None}
use Rattle.zs_term.specs.Saturating.{saturated}
use Rattle.zs_step.specs.declared.decision.Decision.{Decision}
use Rattle.zs_step.specs.declared.decision.Decision.TheVariants.{Stop, Next}
use Rattle.zs_step.specs.History.{History}
use Rattle.zs_step.specs.Answer.{answer_of}
use Rattle.zs_drive.specs.declared.record.Ending.{Ending}
use Rattle.zs_drive.specs.Clocks.{first_tick_from}
use Rattle.zs_drive.specs.Values.{JobRecord, AttemptedValue, EndedValue}
use Rattle.zs_drive.specs.Timeline.{number_of, beat_after, ending_by_outcome, ending_by_schedule}

module _ (job : JobRecord) (ticks : List ℕ) where
  -- In these, the current attempt follows history h, and `later` are the attempts after it. `rest h
  -- x` is the rule for those attempts after history h and moment x.

  -- the schedule's decision after the attempt that ended
  abbrev pub GoesOn : (History → ℕ → Type 0) → History → List AttemptedValue → Option ℕ →
      Option Ending → EndedValue → Decision → Type 0
  GoesOn rest h later due ending end Stop =
      (later ≡ []) × (due ≡ None) × (ending ≡ Some (ending_by_schedule job.mode end.outcome))
  GoesOn rest h later due ending end (Next x) =
      rest ((end.at, number_of end.outcome) ∷ h) (max x end.at)

  -- the schedule is stepped, unless the outcome itself ends the job
  abbrev pub IsAsked : (History → ℕ → Type 0) → History → List AttemptedValue → Option ℕ →
      Option Ending → EndedValue → Option Ending → Type 0
  IsAsked rest h later due ending end (Some by_outcome) =
      (end.step ≡ None) × (later ≡ []) × (due ≡ None) × (ending ≡ Some by_outcome)
  IsAsked rest h later due ending end None =
      (end.step ≡ Some (answer_of job.schedule ((end.at, number_of end.outcome) ∷ h)))
      × GoesOn rest h later due ending end
      (answer_of job.schedule ((end.at, number_of end.outcome) ∷ h)).decision

  -- the attempt is due to end at w, and is running if there is no tick
  abbrev pub EndsAt : (History → ℕ → Type 0) → History → List AttemptedValue → Option ℕ →
      Option Ending → ℕ → Option EndedValue → Type 0
  EndsAt rest h later due ending w None =
      (first_tick_from ticks w ≡ None) × (later ≡ []) × (due ≡ Some w) × (ending ≡ None)
  EndsAt rest h later due ending w (Some end) =
      (first_tick_from ticks w ≡ Some end.at) × (end.outcome ≡ (beat_after job h).outcome)
      × IsAsked rest h later due ending end (ending_by_outcome job.mode end.outcome)

  -- These attempts follow history h. The first begins as soon as there is a tick at or after x.
  unfoldable pub Follows : List AttemptedValue → Option ℕ → Option Ending → History → ℕ → Type 0
  Follows [] due ending h x = (first_tick_from ticks x ≡ None) × (due ≡ Some x) × (ending ≡ None)
  Follows (attempt ∷ later) due ending h x =
      (first_tick_from ticks x ≡ Some attempt.begun)
      × EndsAt (Follows later due ending) h later due ending
      (saturated (attempt.begun + (beat_after job h).ms)) attempt.ended

  -- An induction over the attempts. They end with one that is due, one that runs, or one that ends
  -- the job.
  module _ (due : Option ℕ) (ending : Option Ending) (P : List AttemptedValue → History → Type 0)
      (waits : (h : History) (x : ℕ) → first_tick_from ticks x ≡ None → due ≡ Some x →
      ending ≡ None → P [] h)
      (runs : (h : History) (s w : ℕ) → first_tick_from ticks w ≡ None → due ≡ Some w →
      ending ≡ None → P (record { begun = s; ended = None } ∷ []) h)
      (stops : (h : History) (s : ℕ) (end : EndedValue) (x : Ending) → due ≡ None →
      ending ≡ Some x → P (record { begun = s; ended = Some end } ∷ []) h)
      (goes : (h : History) (s : ℕ) (end : EndedValue) (later : List AttemptedValue) →
      P later ((end.at, number_of end.outcome) ∷ h) →
      P (record { begun = s; ended = Some end } ∷ later) h) where
    each-answer : (later : List AttemptedValue) (h : History) (s : ℕ) (end : EndedValue)
        (decision : Decision)
        → ((g : History) (x : ℕ) → Follows later due ending g x → P later g)
        → GoesOn (Follows later due ending) h later due ending end decision
        → P (record { begun = s; ended = Some end } ∷ later) h
    each-answer later h s end Stop each on =
        rw on.0 (stops h s end (ending_by_schedule job.mode end.outcome) on.1 on.2)
    each-answer later h s end (Next x) each on =
        goes h s end later (each ((end.at, number_of end.outcome) ∷ h) (max x end.at) on)

    each-end : (later : List AttemptedValue) (h : History) (s w : ℕ) (ended : Option EndedValue)
        → ((g : History) (x : ℕ) → Follows later due ending g x → P later g)
        → EndsAt (Follows later due ending) h later due ending w ended
        → P (record { begun = s; ended = ended } ∷ later) h
    each-end later h s w None each ends = rw ends.1 (runs h s w ends.0 ends.2 ends.3)
    each-end later h s w (Some end) each ends =
        elim (ending_by_outcome job.mode end.outcome) as (λ by. IsAsked (Follows later due ending) h
        later due ending end by → P (record { begun = s; ended = Some end } ∷ later) h) [
          | Some x ↦ λ asked. rw asked.1 (stops h s end x asked.2 asked.3)
          | None ↦ λ asked. each-answer later h s end
              (answer_of job.schedule ((end.at, number_of end.outcome) ∷ h)).decision each asked.1
        ] ends.2

    pub follows-each : (attempts : List AttemptedValue) (h : History) (x : ℕ) →
        Follows attempts due ending h x → P attempts h
    unfolding Follows
    follows-each [] h x follows = waits h x follows.0 follows.1 follows.2
    follows-each (a ∷ later) h x follows =
        each-end later h a.begun (saturated (a.begun + (beat_after job h).ms)) a.ended
        (follows-each later) follows.1
