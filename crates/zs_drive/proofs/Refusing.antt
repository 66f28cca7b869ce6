-- A due poll that may allocate memory never gives an ending by outcome alone.
use Rattle.std.proofs.Common.{◌≡◌, ℕ, ◌≤◌, max, List, [], ◌∷◌, ◌++◌, nat_lt, false, refl, sym, ◌∙◌}
use Rattle.std.proofs.Common.{ap, arith}
use Rattle.std.proofs.lemmas.Bool.Decides.{nat_tests}
use Rattle.std.specs.Prelude.{Option, Some, None, IsSomeAnd, Result, Ok, Err, OnOk, OnErr}
use Rattle.futures.specs.Poll.{IfReady}
use Rattle.futures.specs.declared.task.Poll.{Poll}
use Rattle.futures.specs.declared.task.Poll.TheVariants.{Ready, Pending}
use Rattle.zs_term.specs.Output.{Output}
use Rattle.zs_effect.specs.Scripts.{IsScript}
use Rattle.zs_effect.specs.declared.script.Outcome.{Outcome}
use Rattle.zs_effect.specs.declared.script.Outcome.TheVariants.{Good, Bad}
use Rattle.zs_step.specs.History.{History}
use Rattle.zs_step.specs.Answer.{answer_of}
use Rattle.zs_step.specs.declared.decision.Decision.{Decision}
use Rattle.zs_step.specs.declared.decision.Decision.TheVariants.{Stop, Next}
use Rattle.zs_drive.specs.declared.job.Mode.{Mode}
use Rattle.zs_drive.specs.declared.job.Mode.TheVariants.{Retry, Repeat}
use Rattle.zs_drive.specs.declared.record.Ending.{Ending}
use Rattle.zs_drive.specs.declared.progress.Phase.{Phase}
use Rattle.zs_drive.specs.declared.progress.Phase.TheVariants.{Waiting, Running, Over}
use Rattle.zs_drive.specs.declared.progress.Progress.{Progress}
use Rattle.zs_drive.specs.declared.task.Task.TheInside.{Inside}
use Rattle.zs_drive.specs.Values.{JobRecord}
use Rattle.zs_drive.specs.Timeline.{number_of, ending_by_outcome, ending_by_schedule, by_answer}
use Rattle.zs_drive.specs.Timeline.{by_outcome, timeline_of}
use Rattle.zs_drive.specs.Recorded.{AllContinued, runs}
use Rattle.zs_drive.specs.DriverRules.{history_after}
use Rattle.zs_drive.specs.Progress.{IsProgress, HasState, job_in, attempts_of, moments_in}
use Rattle.zs_drive.specs.Progress.{timeline_in, due_of}
use Rattle.zs_drive.specs.Turns.{Advances, StandsStill, IsSame, IsOver, IsEarly, IsDuePhase}
use Rattle.zs_drive.specs.Turns.{TakesMemory}
use Rattle.zs_drive.specs.Tasks.{TaskValue, current_timeline, polled, polled_when, EndsByOutcome}
use Rattle.zs_drive.specs.Fields.{task_of, IsTask}
use Rattle.zs_drive.proofs.Ticks.{lt_cases}
use Rattle.zs_drive.proofs.Extending.{resume, extended, resume-soon, resume-late}
use Rattle.zs_drive.proofs.Records.{polled-extended}
use Rattle.zs_drive.proofs.Steps.{begins, closes}
use Rattle.zs_drive.proofs.Advancing.{ran}

-- no outcome itself gives this ending
abbrev IsUnlike : Mode → Option Ending → Type 0
IsUnlike mode given = (outcome : Outcome) (ending : Ending) →
    ending_by_outcome mode outcome ≡ Some ending → given ≡ Some ending → ⊥

unlike-schedule : (mode : Mode) (asked : Outcome) →
    IsUnlike mode (Some (ending_by_schedule mode asked))
unlike-schedule Retry asked (Good value) ending gives is = cc
unlike-schedule Retry asked (Bad code) ending gives is = cc
unlike-schedule Repeat asked (Good value) ending gives is = cc
unlike-schedule Repeat asked (Bad code) ending gives is = cc

module _ (job : JobRecord) (seen : ℕ) where
  -- a job that waits, or that begins an attempt, has not ended
  unlike-resume : (h : History) (x : ℕ) → IsUnlike job.mode (resume job seen h x).ending
  unlike-resume h x = lt_cases seen x (λ _. IsUnlike job.mode (resume job seen h x).ending)
      (λ late. rw (resume-late job seen h x late) (λ outcome ending gives is. cc))
      (λ soon. rw (resume-soon job seen h x soon) (λ outcome ending gives is. cc))

  -- nor does the schedule's result
  unlike-answer : (h : History) (s : ℕ) (asked : Outcome) (output : Output) (decision : Decision) →
      IsUnlike job.mode (by_answer job (resume job seen) h s seen asked output decision).ending
  unfolding by_answer
  unlike-answer h s asked output Stop = unlike-schedule job.mode asked
  unlike-answer h s asked output (Next x) = unlike-resume h (max x seen)

  unlike-outcome : (h : History) (s : ℕ) (asked : Outcome) →
      IsUnlike job.mode (by_outcome job (resume job seen) h s seen asked None).ending
  unfolding by_outcome
  unlike-outcome h s asked =
      let longer = (seen, number_of asked) ∷ h in
      unlike-answer longer s asked (answer_of job.schedule longer).output
      (answer_of job.schedule longer).decision

-- the timeline after a due poll
polled-at : (p : Progress) (x : ℕ) → IsProgress p → IsScript p.script → due_of p.phase ≡ Some x
    → x ≤ p.seen
    → timeline_of (job_in p) (moments_in p ++ p.seen ∷ [])
    ≡ extended (job_in p) p.seen [] (timeline_in p)
polled-at p x progress script waits due =
    polled-extended (job_in p) script (timeline_in p) x p.seen p.polls progress.on_timeline waits
    due progress.bounded

-- a due poll that may allocate memory gives no ending by outcome
asked-unlike : (p : Progress) (phase : Phase) → p.phase ≡ phase → IsProgress p → IsScript p.script
    → IsDuePhase p.seen p.phase → TakesMemory p.mode p.phase
    → IsUnlike p.mode (timeline_of (job_in p) (moments_in p ++ p.seen ∷ [])).ending
asked-unlike p (Waiting x) is progress script due takes =
    let all : AllContinued (attempts_of p) = rw is at progress.phase in
    let soon : x ≤ p.seen = rw is at due in
    let made = (rw is at (polled-at p x progress script (ap due_of is) soon))
    ∙ sym (begins (job_in p) p.seen (attempts_of p) x all soon) in
    rw made (λ outcome ending gives ends. cc)
asked-unlike p (Running attempt) is progress script due takes =
    let soon : attempt.end ≤ p.seen = rw is at due in
    let none : ending_by_outcome p.mode attempt.outcome ≡ None = rw is at takes in
    let r = ran p attempt.outcome (Running attempt) is progress (rw is (soon, refl)) in
    let was : extended (job_in p) p.seen [] (timeline_in p)
    ≡ extended (job_in p) p.seen [] (record {
      attempts = r.others ++ runs r.s ∷ [];
      due = Some r.w;
      ending = None;
    }) = rw (r.last, r.due, r.going) refl in
    let made = polled-at p r.w progress script r.due r.soon ∙ was
    ∙ closes (job_in p) p.seen r.others r.s r.w r.all r.soon in
    rw (rw (← r.own, none) at made) (unlike-outcome (job_in p) p.seen (history_after r.others) r.s
    attempt.outcome)
asked-unlike p (Over over) is progress script due takes = absurd (rw is at due)

-- a phase is over, is due later, or is due
phase_cases : (seen : ℕ) (phase : Phase) (P : Type 0) → (IsOver phase → P) →
    (IsEarly seen phase → P) → (IsDuePhase seen phase → P) → P
phase_cases seen (Waiting due) P over early now = lt_cases seen due (λ _. P) early now
phase_cases seen (Running attempt) P over early now = lt_cases seen attempt.end (λ _. P) early now
phase_cases seen (Over ending) P over early now = over tt

-- what a task has after a turn that was done
pub done-whole : {A T E : Type 0} (old new : Progress) (turn : Poll (Result T E)) (done : T)
    → turn ≡ Ready (Ok done)
    → (IsOver old.phase → A × IsSame old new)
    → (IsEarly old.seen old.phase → (turn ≡ Pending) × IsSame old new)
    → (IsDuePhase old.seen old.phase → IfReady turn (λ answer. OnOk answer (Advances old new)
    × OnErr answer (StandsStill old new)))
    → IsProgress new × HasState new × (job_in new ≡ job_in old)
done-whole old new turn done is over early due =
    phase_cases old.seen old.phase (IsProgress new × HasState new × (job_in new ≡ job_in old))
    (λ o. let same = (over o).1 in (same.0.progress, same.1, same.0.job))
    (λ e. let other = (early e).0 in cc)
    (λ d. let all = rw is at (due d) in (all.0.progress, all.0.state, all.0.job))

-- a poll of a task that is due
polled-due : (task : TaskValue) (due : Option ℕ) → IsSomeAnd due (λ x. x ≤ task.seen) →
    polled_when task due ≡ record task { moments = task.moments ++ task.seen ∷ [] }
polled-due task None soon = absurd soon
polled-due task (Some x) soon = let test : nat_lt task.seen x ≡ false = grind (arith, nat_tests) in
    rw test refl

-- a turn that fails was due, may allocate memory, and gives no ending by outcome
pub refused-EndsByOutcome : {T E : Type 0} (t : Inside) (turn : Poll (Result T E)) (fault : E)
    (done : T) → IsTask t → turn ≡ Ready (Err fault)
    → (IsEarly t.progress.value.seen t.progress.value.phase → turn ≡ Pending)
    → (IsOver t.progress.value.phase → turn ≡ Ready (Ok done))
    → IfReady turn
    (λ answer. OnErr answer (TakesMemory t.progress.value.mode t.progress.value.phase))
    → (ending : Ending) → EndsByOutcome (task_of t) ending → ⊥
refused-EndsByOutcome t turn fault done task refused early over takes ending ends =
    let p = t.progress.value in
    let due : IsDuePhase p.seen p.phase =
    phase_cases p.seen p.phase (IsDuePhase p.seen p.phase) (λ o. let other = over o in cc)
    (λ e. let other = early e in cc) (λ d. d) in
    let same : polled (task_of t) ≡ record (task_of t) { moments = moments_in p ++ p.seen ∷ [] } =
    polled-due (task_of t) (current_timeline (task_of t)).due
    (rw (← task.progress.on_timeline.same) due) in
    asked-unlike p p.phase refl task.progress task.script due (rw refused at takes) ends.outcome
    ending ends.gives (rw same at ends.ends)
