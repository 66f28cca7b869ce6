-- The last line of a job shows an end that exists.
use Rattle.std.proofs.Common.{◌≡◌, ◌+◌, ◌-◌, ℕ, List, [], ◌∷◌, ◌++◌, length, slice_get, Option}
use Rattle.std.proofs.Common.{Some, None, option_and_then, subst, refl, sym, ap, ◌∙◌, arith}
use Rattle.std.proofs.lemmas.List.{length-append}
use Rattle.zs_agenda.specs.Ticks.{Ticks, IsClock}
use Rattle.zs_effect.specs.Scripts.{IsScript}
use Rattle.zs_effect.specs.declared.script.Outcome.{Outcome}
use Rattle.zs_effect.specs.declared.script.Outcome.TheVariants.{Good, Bad}
use Rattle.zs_step.specs.Answer.{Answer}
use Rattle.zs_drive.specs.declared.job.Mode.{Mode}
use Rattle.zs_drive.specs.declared.job.Mode.TheVariants.{Retry, Repeat}
use Rattle.zs_drive.specs.declared.record.Ending.{Ending}
use Rattle.zs_drive.specs.declared.record.Ending.TheVariants.{Finished}
use Rattle.zs_drive.specs.Clocks.{AreTicks, max_tick}
use Rattle.zs_drive.specs.Values.{JobRecord, AttemptedValue, EndedValue}
use Rattle.zs_drive.specs.Timeline.{timeline_of, ending_by_outcome}
use Rattle.zs_drive.specs.DriverRules.{IsTimeline, IsLast, StopsBy}
use Rattle.zs_drive.proofs.Following.{timeline_of-keeps}
use Rattle.zs_drive.proofs.Timing.{timeline-follows}
use Rattle.zs_engine.specs.Times.{ticks_of}
use Rattle.zs_engine.proofs.ClockTicks.{ticks-rising}
use Rattle.zs_run.specs.Report.{last_ended}
use Rattle.zs_run.specs.PlanReport.{job_report}
use Rattle.zs_run.specs.Distinct.{HasItsEnd}

-- ---- the last attempt

last_of : (x : AttemptedValue) (xs : List AttemptedValue) → (earlier : List AttemptedValue)
    × (a : AttemptedValue) × (x ∷ xs ≡ earlier ++ a ∷ [])
last_of x [] = ([], x, refl)
last_of x (y ∷ ys) = let rest = last_of y ys in (x ∷ rest.0, rest.1, ap (λ l. x ∷ l) rest.2)

at_last : (earlier : List AttemptedValue) (a : AttemptedValue) →
    slice_get (earlier ++ a ∷ []) (length earlier) ≡ Some a
at_last [] a = refl
at_last (x ∷ earlier) a = at_last earlier a

last_is : (earlier : List AttemptedValue) (a : AttemptedValue) →
    last_ended (earlier ++ a ∷ []) ≡ a.ended
last_is earlier a =
    let place : length (earlier ++ a ∷ []) - 1 ≡ length earlier =
    omega (arith, length-append earlier (a ∷ [])) in
    ap (λ i. option_and_then (λ attempt. attempt.ended) (slice_get (earlier ++ a ∷ []) i)) place
    ∙ ap (λ o. option_and_then (λ attempt. attempt.ended) o) (at_last earlier a)

-- ---- what the rules say about it

-- no outcome ends a job as `Finished`
never_finished : (mode : Mode) (outcome : Outcome) →
    ending_by_outcome mode outcome ≡ Some Finished → ⊥
never_finished Retry (Good value) is = cc
never_finished Retry (Bad code) is = cc
never_finished Repeat (Good value) is = cc
never_finished Repeat (Bad code) is = cc

module _ (job : JobRecord) (ticks : List ℕ) where
  asked : (end : EndedValue) (due : Option ℕ) (e : Ending) (x : Option Ending)
      (step : Option Answer) → ending_by_outcome job.mode end.outcome ≡ x → end.step ≡ step
      → StopsBy job ticks end due (Some e) x step → e ≡ Finished
      → (answered : Answer) × (end.step ≡ Some answered)
  asked end due e (Some y) step by is stops finished =
      let same : Some e ≡ Some y = stops.1 in
      let which : y ≡ Finished = cc in
      absurd (never_finished job.mode end.outcome (by ∙ ap Some which))
  asked end due e None None by is stops finished = absurd stops
  asked end due e None (Some answered) by is stops finished = (answered, is)

  ended : (attempts earlier : List AttemptedValue) (s : ℕ) (due : Option ℕ) (ending : Option Ending)
      (o : Option EndedValue) → last_ended attempts ≡ o
      → IsLast job ticks earlier s due ending o → HasItsEnd attempts ending
  ended attempts earlier s due None o at last = tt
  ended attempts earlier s due (Some e) None at last =
      absurd (let no : Some e ≡ None = last.1 in cc)
  ended attempts earlier s due (Some e) (Some end) at last =
      (end, at, asked end due e (ending_by_outcome job.mode end.outcome) end.step refl refl last)

  has_its_end : IsTimeline job ticks (timeline_of job ticks) → (attempts : List AttemptedValue)
      → (timeline_of job ticks).attempts ≡ attempts
      → HasItsEnd attempts (timeline_of job ticks).ending
  has_its_end rules [] none = subst (λ ending. HasItsEnd [] ending) (sym (rules.none none).2) tt
  has_its_end rules (x ∷ xs) split =
      let l = last_of x xs in
      ended (x ∷ xs) l.0 l.1.begun (timeline_of job ticks).due (timeline_of job ticks).ending
      l.1.ended (ap last_ended l.2 ∙ last_is l.0 l.1) (rules.last l.0 l.1 (split ∙ l.2))

-- the report of a job shows an end that exists
pub end_is_there : (clock : Ticks) (job : JobRecord) → IsClock clock → IsScript job.script
    → HasItsEnd (job_report (ticks_of clock) job).attempts (job_report (ticks_of clock) job).ending
end_is_there clock job lawful script =
    let ticks : List ℕ = ticks_of clock in
    let rising : AreTicks ticks = (ticks-rising clock lawful).0 in
    let rules : IsTimeline job ticks (timeline_of job ticks) =
    timeline-follows job ticks (timeline_of job ticks)
    (timeline_of-keeps job ticks script (max_tick + 1) (omega arith) rising.bounded) in
    has_its_end job ticks rules (timeline_of job ticks).attempts refl
