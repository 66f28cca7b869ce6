-- A job's timeline, before and after one more due poll.
use Rattle.std.proofs.Common.{◌≡◌, ℕ, ◌+◌, ◌-◌, ◌^◌, ◌≤◌, max, List, [], ◌∷◌, ◌++◌, length}
use Rattle.std.proofs.Common.{length-append, Option, ◌⊎◌, inl, inr, refl, sym, ◌∙◌, ap, subst}
use Rattle.std.proofs.Common.{arith}
use Rattle.std.specs.Prelude.{true, Some, None, IfSome, is_some, not, flat_map}
use Rattle.std.proofs.lemmas.Grind.{fold-append}
use Rattle.zs_effect.specs.Scripts.{IsScript}
use Rattle.zs_effect.specs.declared.script.Outcome.{Outcome}
use Rattle.zs_term.specs.Output.{Output}
use Rattle.zs_step.specs.History.{History}
use Rattle.zs_step.specs.Answer.{answer_of}
use Rattle.zs_step.specs.declared.decision.Decision.{Decision}
use Rattle.zs_step.specs.declared.decision.Decision.TheVariants.{Stop, Next}
use Rattle.zs_drive.specs.declared.record.Ending.{Ending}
use Rattle.zs_drive.specs.Clocks.{first_tick_from, AllBefore, max_tick}
use Rattle.zs_drive.specs.Values.{JobRecord, AttemptedValue}
use Rattle.zs_drive.specs.Timeline.{Timeline, before, number_of, ending_by_outcome, beat_after}
use Rattle.zs_drive.specs.Timeline.{by_answer, by_outcome, timeline_of, moments_of, poll_moments}
use Rattle.zs_drive.specs.Recorded.{AllContinued, IsOnTimeline, end_continued}
use Rattle.zs_drive.specs.DriverRules.{pair_of, longer_by, history_from, history_after}
use Rattle.zs_drive.proofs.Ticks.{lt_cases, AllBefore-none}
use Rattle.zs_drive.proofs.Moments.{AllBefore-later, AreTicks-append, moments-one, moments-two}
use Rattle.zs_drive.proofs.Extending.{resume, extend, extend_none, extend_last, extended}
use Rattle.zs_drive.proofs.Extending.{timeline_of-append, resume-soon, resume-late, close-soon}
use Rattle.zs_drive.proofs.Follows.{Follows, follows-each}
use Rattle.zs_drive.proofs.Following.{Keeps, timeline_of-keeps}

-- a timeline after these attempts
abbrev pub after : List AttemptedValue → Timeline → Timeline
after attempts timeline = record {
  attempts = attempts ++ timeline.attempts;
  due = timeline.due;
  ending = timeline.ending;
}

-- one more tick doesn't change attempts after which the schedule continued
pub extend-continued : (job : JobRecord) (c : ℕ) (h : History) (first rest : List AttemptedValue)
    (due : Option ℕ) (ending : Option Ending) → AllContinued first
    → extend job c h (first ++ rest) due ending
    ≡ after first (extend job c (history_from h first) rest due ending)
unfolding extend AllContinued
extend-continued job c h [] rest due ending all = refl
extend-continued job c h (attempt ∷ first) rest due ending all =
    elim attempt.ended as (λ o. end_continued o ≡ true
    → elim o [
      | None ↦ extend_last job c h attempt.begun due ending
      | Some end ↦
          before attempt (extend job c ((end.at, number_of end.outcome) ∷ h) (first ++ rest)
          due ending)
    ]
    ≡ after (attempt ∷ first) (extend job c (history_from (longer_by h o) first) rest due ending)) [
      | None ↦ λ on. cc
      | Some end ↦ λ on. ap (before attempt)
          (extend-continued job c (pair_of end ∷ h) first rest due ending all.1)
    ] all.0

pub history_after-running : (attempts : List AttemptedValue) (s : ℕ) →
    history_after (attempts ++ record { begun = s; ended = None } ∷ []) ≡ history_after attempts
history_after-running attempts s =
    fold-append _ [] attempts (record { begun = s; ended = None } ∷ [])

-- there is no tick for a due moment, and without one the job has ended
abbrev pub IsSettled : List ℕ → Option ℕ → Option Ending → Type 0
IsSettled ticks due ending =
    IfSome due (λ x. first_tick_from ticks x ≡ None) × (is_some due ≡ not (is_some ending))

module _ (job : JobRecord) (ticks : List ℕ) (script : IsScript job.script) (c : ℕ)
    (small : c ≤ 2 ^ 64 - 1) (all : AllBefore ticks c) where
  pub timeline_of-settled :
      IsSettled ticks (timeline_of job ticks).due (timeline_of job ticks).ending
  timeline_of-settled =
      follows-each job ticks (timeline_of job ticks).due (timeline_of job ticks).ending
      (λ _ _. IsSettled ticks (timeline_of job ticks).due (timeline_of job ticks).ending)
      (λ h x none due going. rw (due, going) (none, refl))
      (λ h s w none due going. rw (due, going) (none, refl))
      (λ h s end x due over. rw (due, over) (tt, refl)) (λ h s end later settled. settled)
      (timeline_of job ticks).attempts [] job.start (timeline_of-keeps job ticks script c small all)

  pub timeline_of-waits : (x : ℕ) → (timeline_of job ticks).due ≡ Some x →
      first_tick_from ticks x ≡ None
  timeline_of-waits x due = rw due at timeline_of-settled.0

module _ (job : JobRecord) (c : ℕ) where
  -- a due poll adds one attempt at most, and its moment once or twice
  record Grown (old new : List AttemptedValue) : Type 0 where
    pub few : length new ≤ length old + 1
    pub more : (flat_map moments_of new ≡ flat_map moments_of old ++ c ∷ [])
        ⊎ (flat_map moments_of new ≡ flat_map moments_of old ++ c ∷ c ∷ [])

  by_answer-grown : (h : History) (s : ℕ) (outcome : Outcome) (output : Output)
      (decision : Decision)
      → Grown (record { begun = s; ended = None } ∷ [])
      (by_answer job (resume job c) h s c outcome output decision).attempts
  unfolding by_answer
  by_answer-grown h s outcome output Stop = record { few = omega arith; more = inl refl }
  by_answer-grown h s outcome output (Next x) =
      lt_cases c (max x c) (λ _. Grown (record { begun = s; ended = None } ∷ [])
      (by_answer job (resume job c) h s c outcome output (Next x)).attempts)
      (λ late. rw (resume-late job c h (max x c) late)
      (record { few = omega arith; more = inl refl }))
      (λ soon. rw (resume-soon job c h (max x c) soon)
      (record { few = omega arith; more = inr refl }))

  by_outcome-grown : (h : History) (s : ℕ) (outcome : Outcome) (ending : Option Ending)
      → Grown (record { begun = s; ended = None } ∷ [])
      (by_outcome job (resume job c) h s c outcome ending).attempts
  unfolding by_outcome
  by_outcome-grown h s outcome (Some ending) = record { few = omega arith; more = inl refl }
  by_outcome-grown h s outcome None =
      let longer = (c, number_of outcome) ∷ h in
      by_answer-grown longer s outcome (answer_of job.schedule longer).output
      (answer_of job.schedule longer).decision

  extend-grown : (ticks : List ℕ) (x : ℕ) (due : Option ℕ) (ending : Option Ending)
      → due ≡ Some x → x ≤ c
      → (attempts : List AttemptedValue) (h : History) (y : ℕ)
      → Follows job ticks attempts due ending h y
      → Grown attempts (extend job c h attempts due ending).attempts
  unfolding extend extend_none extend_last
  extend-grown ticks x due ending is soon = follows-each job ticks due ending (λ attempts h. Grown
      attempts (extend job c h attempts due ending).attempts)
      (λ h y none waits going. rw (is, resume-soon job c h x soon)
      (record { few = omega arith; more = inl refl }))
      (λ h s w none waits going. rw (is, close-soon job c h s x soon)
      (by_outcome-grown h s (beat_after job h).outcome
      (ending_by_outcome job.mode (beat_after job h).outcome)))
      (λ h s end ends over going. cc)
      (λ h s end later grown. record {
        few = omega (arith, grown.few);
        more = elim grown.more [
          | inl one ↦ inl (ap (λ (ms : List ℕ). s ∷ end.at ∷ ms) one)
          | inr two ↦
              inr (ap (λ (ms : List ℕ). s ∷ end.at ∷ ms) two)
        ];
      })

module _ (job : JobRecord) (script : IsScript job.script) (timeline : Timeline) (x seen polls : ℕ)
    (stands : IsOnTimeline job timeline polls) (waits : timeline.due ≡ Some x)
    (due : x ≤ seen) (bounded : seen ≤ max_tick) where
  -- the moments so far are before any moment at which the job is due
  due-later : AllBefore (poll_moments timeline.attempts) seen
  due-later =
      let moments = poll_moments timeline.attempts in
      AllBefore-later moments x seen
      (AllBefore-none moments x (timeline_of-waits job moments script (max_tick + 1)
      (omega arith) stands.clock.bounded x (rw stands.same at waits))) due

  -- the timeline to which a due poll at a moment leads
  pub polled-extended : timeline_of job (poll_moments timeline.attempts ++ seen ∷ [])
      ≡ extended job seen [] timeline
  polled-extended = timeline_of-append job script (poll_moments timeline.attempts) seen due-later
      (omega arith) ∙ ap (extended job seen []) (sym stands.same)

  -- what a due poll at a moment does to a job's timeline
  pub advance : (new : Timeline) → new ≡ extended job seen [] timeline
      → IsOnTimeline job new (polls + 1)
      × (poll_moments new.attempts ≡ poll_moments timeline.attempts ++ seen ∷ [])
  unfolding poll_moments
  advance new made =
      let moments = poll_moments timeline.attempts in
      let follows : Follows job moments timeline.attempts timeline.due timeline.ending
      [] job.start =
      subst (λ (t : Timeline). Keeps job moments [] job.start t) (sym stands.same)
      (timeline_of-keeps job moments script (max_tick + 1) (omega arith)
      stands.clock.bounded) in
      let more : Grown job seen timeline.attempts new.attempts = rw made (extend-grown job seen
      moments x timeline.due timeline.ending waits due timeline.attempts []
      job.start follows) in
      let grown : poll_moments new.attempts ≡ moments ++ seen ∷ [] =
      elim more.more [
        | inl one ↦ rw one (moments-one (flat_map moments_of timeline.attempts) seen
            due-later)
        | inr two ↦
            rw two (moments-two (flat_map moments_of timeline.attempts) seen due-later)
      ] in (
        record {
          same = rw grown (made ∙ sym polled-extended);
          clock = rw grown (AreTicks-append moments seen stands.clock due-later bounded);
          counted = rw (grown, length-append moments (seen ∷ [])) (omega (arith, stands.counted));
          few = omega (arith, stands.few, more.few);
        },
        grown,
      )
