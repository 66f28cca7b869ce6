-- The timeline of a job on a clock with one more tick.
use Rattle.std.proofs.Common.{◌≡◌, ℕ, ◌+◌, ◌-◌, ◌^◌, ◌≤◌, ◌<◌, max, List, [], ◌∷◌, ◌++◌, Option}
use Rattle.std.proofs.Common.{nat_lt, true, false, if◌then◌else◌, refl, sym, ◌∙◌, arith}
use Rattle.std.specs.Prelude.{Some, None}
use Rattle.std.proofs.lemmas.Bool.Decides.{nat_tests}
use Rattle.zs_term.specs.Saturating.{saturated}
use Rattle.zs_effect.specs.Scripts.{IsScript}
use Rattle.zs_step.specs.History.{History}
use Rattle.zs_step.specs.Answer.{answer_of}
use Rattle.zs_step.specs.declared.decision.Decision.TheVariants.{Stop, Next}
use Rattle.zs_drive.specs.declared.record.Ending.{Ending}
use Rattle.zs_drive.specs.Clocks.{first_tick_from, AllBefore}
use Rattle.zs_drive.specs.Values.{JobRecord, AttemptedValue, EndedValue}
use Rattle.zs_drive.specs.Timeline.{Timeline, number_of, ending_by_outcome, wait_until, run_from}
use Rattle.zs_drive.specs.Timeline.{before, beat_after, by_outcome, timeline_of}
use Rattle.zs_drive.proofs.Ticks.{lt_cases, first_tick_from-some, first_tick_from-none}
use Rattle.zs_drive.proofs.Ticks.{tick_one-late, tick_one-at, first_tick_from-past}
pub use Rattle.zs_drive.proofs.Ticks.{beat-takes, saturated-after}
use Rattle.zs_drive.proofs.Moments.{AllBefore-append, AllBefore-later}
use Rattle.zs_drive.proofs.Follows.{GoesOn, IsAsked, EndsAt, Follows}
use Rattle.zs_drive.proofs.Following.{Keeps, by_outcome-keeps, timeline_of-keeps}
use Rattle.zs_drive.proofs.Timing.{timeline-follows}
use Rattle.zs_drive.proofs.Ruling.{timeline_of-only}

module _ (job : JobRecord) (c : ℕ) where
  -- what a tick at c does to a job that is due at x after history h
  unfoldable pub resume : History → ℕ → Timeline
  resume h x = if nat_lt c x then wait_until x
      else run_from c (saturated (c + (beat_after job h).ms))

  -- what it does to a job whose attempt is due to end at w
  unfoldable pub close : History → ℕ → ℕ → Timeline
  close h s w =
      if nat_lt c w then run_from s w
      else (let outcome = (beat_after job h).outcome in
      by_outcome job resume h s c outcome (ending_by_outcome job.mode outcome))

  unfoldable pub extend_last : History → ℕ → Option ℕ → Option Ending → Timeline
  extend_last h s None ending = record {
    attempts = record { begun = s; ended = None } ∷ [];
    due = None;
    ending = ending;
  }
  extend_last h s (Some w) ending = close h s w

  unfoldable pub extend_none : History → Option ℕ → Option Ending → Timeline
  extend_none h None ending = record { attempts = []; due = None; ending = ending }
  extend_none h (Some x) ending = resume h x

  -- what it does to a timeline whose attempts follow history h
  unfoldable pub extend : History → List AttemptedValue → Option ℕ → Option Ending → Timeline
  extend h [] due ending = extend_none h due ending
  extend h (attempt ∷ attempts) due ending =
      elim attempt.ended [
        | None ↦ extend_last h attempt.begun due ending
        | Some end ↦
            before attempt (extend ((end.at, number_of end.outcome) ∷ h) attempts due ending)
      ]

  abbrev pub extended : History → Timeline → Timeline
  extended h timeline = extend h timeline.attempts timeline.due timeline.ending

  -- what a tick does to a job that is due by then, and to one that is due later
  pub resume-soon : (h : History) (x : ℕ) → x ≤ c →
      resume h x ≡ run_from c (saturated (c + (beat_after job h).ms))
  unfolding resume
  resume-soon h x soon = let test : nat_lt c x ≡ false = grind (arith, nat_tests) in rw test refl

  pub resume-late : (h : History) (x : ℕ) → c < x → resume h x ≡ wait_until x
  unfolding resume
  resume-late h x late = let test : nat_lt c x ≡ true = grind (arith, nat_tests) in rw test refl

  pub close-soon : (h : History) (s w : ℕ) → w ≤ c
      → close h s w ≡ (let outcome = (beat_after job h).outcome in
      by_outcome job resume h s c outcome (ending_by_outcome job.mode outcome))
  unfolding close
  close-soon h s w soon = let test : nat_lt c w ≡ false = grind (arith, nat_tests) in rw test refl

  pub close-late : (h : History) (s w : ℕ) → c < w → close h s w ≡ run_from s w
  unfolding close
  close-late h s w late = let test : nat_lt c w ≡ true = grind (arith, nat_tests) in rw test refl

module _ (job : JobRecord) (script : IsScript job.script) (ticks : List ℕ) (c : ℕ)
    (all : AllBefore ticks c) (small : c < 2 ^ 64 - 1) where
  abbrev longer : List ℕ
  longer = ticks ++ c ∷ []

  none-late : (x : ℕ) → first_tick_from ticks x ≡ None → c < x → first_tick_from longer x ≡ None
  none-late x none late = first_tick_from-none ticks c x none ∙ tick_one-late c x late

  some-soon : (x : ℕ) → first_tick_from ticks x ≡ None → x ≤ c → first_tick_from longer x ≡ Some c
  some-soon x none soon = first_tick_from-none ticks c x none ∙ tick_one-at c x soon

  -- a job that was due, with no tick for that
  resume-keeps : (h : History) (x : ℕ) → first_tick_from ticks x ≡ None →
      Keeps job longer h x (resume job c h x)
  unfolding Follows
  resume-keeps h x none = lt_cases c x (λ _. Keeps job longer h x (resume job c h x))
      (λ late. rw (resume-late job c h x late) (none-late x none late, refl, refl))
      (λ soon.
      let w : ℕ = saturated (c + (beat_after job h).ms) in
      let later : c < w = saturated-after c c (beat_after job h).ms (omega arith) small
      (beat-takes job.script _ script) in
      rw (resume-soon job c h x soon) (
        some-soon x none soon,
        (
          none-late w (first_tick_from-past ticks c w all (omega arith))
              later,
          refl,
          refl,
          refl,
        ),
      ))

  -- an attempt that was running
  close-keeps : (h : History) (s x : ℕ) → first_tick_from ticks x ≡ Some s
      → first_tick_from ticks (saturated (s + (beat_after job h).ms)) ≡ None
      → Keeps job longer h x (close job c h s (saturated (s + (beat_after job h).ms)))
  unfolding Follows
  close-keeps h s x begun none =
      let w : ℕ = saturated (s + (beat_after job h).ms) in
      let still : first_tick_from longer x ≡ Some s = first_tick_from-some ticks c x s begun in
      lt_cases c w (λ _. Keeps job longer h x (close job c h s w))
      (λ late. rw (close-late job c h s w late) (still, (none-late w none late, refl, refl, refl)))
      (λ soon. rw (close-soon job c h s w soon) (by_outcome-keeps job longer (resume job c) h s c
      (beat_after job h).outcome (ending_by_outcome job.mode (beat_after job h).outcome)
      (λ g y l. resume-keeps g y (first_tick_from-past ticks c y all l)) (some-soon w none soon)
      refl refl x still))

  module _ (due : Option ℕ) (ending : Option Ending) where
    -- an attempt, and those after it
    extend-end : (later : List AttemptedValue) (h : History) (s x : ℕ) (ended : Option EndedValue)
        → ((g : History) (y : ℕ) → Follows job ticks later due ending g y
        → Keeps job longer g y (extend job c g later due ending))
        → first_tick_from ticks x ≡ Some s
        → EndsAt job ticks (Follows job ticks later due ending) h later due ending
        (saturated (s + (beat_after job h).ms)) ended
        → Keeps job longer h x
        (extend job c h (record { begun = s; ended = ended } ∷ later) due ending)
    unfolding extend extend_none extend_last Follows
    extend-end later h s x None each begun ends = rw ends.2 (close-keeps h s x begun ends.0)
    extend-end later h s x (Some end) each begun ends =
        let g : History = (end.at, number_of end.outcome) ∷ h in
        let t = extend job c g later due ending in
        let asked = elim (ending_by_outcome job.mode end.outcome) as
        (λ by. IsAsked job ticks (Follows job ticks later due ending) h later due ending end by
        → IsAsked job longer (Follows job longer t.attempts t.due t.ending) h t.attempts t.due
        t.ending end by) [
          | Some z ↦ λ asked. rw (asked.1, asked.2, asked.3) (asked.0, refl, refl, refl)
          | None ↦ λ asked. (
            asked.0,
            (elim (answer_of job.schedule g).decision as
                (λ d. GoesOn job ticks (Follows job ticks later due ending) h later due ending end d
                → GoesOn job longer (Follows job longer t.attempts t.due t.ending) h t.attempts
                t.due t.ending end d) [
                  | Stop ↦ λ on. rw (on.0, on.1, on.2) (refl, refl, refl)
                  | Next y ↦
                      λ on. each g (max y end.at) on
                ]) asked.1,
          )
        ] in (
          first_tick_from-some ticks c x s begun,
          (
            first_tick_from-some ticks c (saturated (s + (beat_after job h).ms)) end.at ends.0,
            ends.1,
            asked ends.2,
          ),
        )

    extend-keeps : (attempts : List AttemptedValue) (h : History) (x : ℕ) →
        Follows job ticks attempts due ending h x →
        Keeps job longer h x (extend job c h attempts due ending)
    unfolding extend extend_none Follows
    extend-keeps [] h x follows = rw follows.1 (resume-keeps h x follows.0)
    extend-keeps (a ∷ later) h x follows =
        extend-end later h a.begun x a.ended (extend-keeps later) follows.0 follows.1

  -- with a tick after all others, a job's timeline is what `extended` gives
  pub timeline_of-append : timeline_of job (ticks ++ c ∷ [])
      ≡ extended job c [] (timeline_of job ticks)
  timeline_of-append =
      let t = timeline_of job ticks in
      let past : AllBefore longer (c + 1) =
      AllBefore-append ticks c (c + 1) (AllBefore-later ticks c (c + 1) all (omega arith))
      (omega arith) in
      sym (timeline_of-only job longer script (c + 1) (omega arith) past (extended job c [] t)
      (timeline-follows job longer (extended job c [] t) (extend-keeps t.due t.ending t.attempts []
      job.start (timeline_of-keeps job ticks script c (omega arith) all))))
