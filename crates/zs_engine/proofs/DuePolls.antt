-- A due poll adds its moment, and no other, to the moments at which the attempts of a job alone
-- begin and end.
use Rattle.std.proofs.Common.{◌≡◌, ◌≢◌, ℕ, ◌+◌, ◌≤◌, ◌<◌, ◌^◌, ◌-◌, max, List, [], ◌∷◌, ◌++◌}
use Rattle.std.proofs.Common.{Option, nat_lt, false, if◌then◌else◌, append_assoc, refl, sym, ◌∙◌}
use Rattle.std.proofs.Common.{ap, arith, ◌⊎◌, inl, inr}
use Rattle.std.specs.Prelude.{Some, None, flat_map, fold}
use Rattle.zs_effect.specs.Scripts.{IsScript}
use Rattle.zs_effect.specs.declared.script.Outcome.{Outcome}
use Rattle.zs_term.specs.Output.{Output}
use Rattle.zs_term.specs.Saturating.{saturated}
use Rattle.zs_step.specs.History.{History}
use Rattle.zs_step.specs.Answer.{answer_of}
use Rattle.zs_step.specs.declared.decision.Decision.{Decision}
use Rattle.zs_step.specs.declared.decision.Decision.TheVariants.{Stop, Next}
use Rattle.zs_drive.specs.declared.record.Ending.{Ending}
use Rattle.zs_drive.specs.Clocks.{AllBefore}
use Rattle.zs_drive.specs.Values.{JobRecord, AttemptedValue}
use Rattle.zs_drive.specs.Timeline.{Timeline, number_of, ending_by_outcome, wait_until, run_from}
use Rattle.zs_drive.specs.Timeline.{beat_after, by_answer, by_outcome, timeline_of, moments_of}
use Rattle.zs_drive.specs.Timeline.{with_moment, poll_moments}
use Rattle.std.proofs.lemmas.Bool.Decides.{nat_tests}
use Rattle.zs_drive.proofs.Ticks.{lt_cases}
use Rattle.zs_drive.proofs.Moments.{moments-one, moments-two}
use Rattle.zs_drive.proofs.Following.{timeline_of-keeps}
use Rattle.zs_drive.proofs.Timing.{timeline-follows}
use Rattle.zs_drive.proofs.Extending.{resume, close, extend, extend_last, extend_none, extended}
use Rattle.zs_drive.proofs.Extending.{timeline_of-append}

-- only the last attempt may run
abbrev LastRuns : List AttemptedValue → Type 0
LastRuns attempts = (earlier later : List AttemptedValue) (a b : AttemptedValue) →
    attempts ≡ earlier ++ a ∷ b ∷ later → a.ended ≢ None

-- an attempt that runs is the last one
runs-last : (a : AttemptedValue) (attempts : List AttemptedValue) → LastRuns (a ∷ attempts) →
    a.ended ≡ None → attempts ≡ []
runs-last a [] last is = refl
runs-last a (b ∷ later) last is = absurd (last [] later a b refl is)

module _ (job : JobRecord) where
  module _ (c : ℕ) where
    -- c is added once or twice: an attempt that ends at c and the next one that begins at c are one
    -- poll
    abbrev pub Grows : List ℕ → List ℕ → Type 0
    Grows old new = (new ≡ old ++ c ∷ []) ⊎ (new ≡ old ++ c ∷ c ∷ [])

    -- an attempt that ends at c, and what follows it
    resume-grows : (s : ℕ) (h : History) (x : ℕ) →
        Grows (s ∷ []) (s ∷ c ∷ flat_map moments_of (resume job c h x).attempts)
    unfolding resume
    resume-grows s h x =
        lt_cases c x (λ b. Grows (s ∷ [])
        (s ∷ c ∷ flat_map moments_of
        (if b then wait_until x
        else run_from c (saturated (c + (beat_after job h).ms))).attempts))
        (λ _. inl refl)
        (λ _. inr refl)

    by_answer-grows : (h : History) (s : ℕ) (outcome : Outcome) (output : Output)
        (decision : Decision) →
        Grows (s ∷ [])
        (flat_map moments_of (by_answer job (resume job c) h s c outcome output decision).attempts)
    unfolding by_answer
    by_answer-grows h s outcome output Stop = inl refl
    by_answer-grows h s outcome output (Next x) = resume-grows s h (max x c)

    by_outcome-grows : (h : History) (s : ℕ) (outcome : Outcome) (ending : Option Ending) →
        Grows (s ∷ [])
        (flat_map moments_of (by_outcome job (resume job c) h s c outcome ending).attempts)
    unfolding by_outcome
    by_outcome-grows h s outcome (Some ending) = inl refl
    by_outcome-grows h s outcome None =
        let longer = (c, number_of outcome) ∷ h in
        by_answer-grows longer s outcome (answer_of job.schedule longer).output
        (answer_of job.schedule longer).decision

    close-grows : (h : History) (s w : ℕ) → w ≤ c →
        Grows (s ∷ []) (flat_map moments_of (close job c h s w).attempts)
    unfolding close
    close-grows h s w soon =
        let late : nat_lt c w ≡ false = grind (arith, nat_tests) in
        let outcome = (beat_after job h).outcome in
        rw late (by_outcome-grows h s outcome (ending_by_outcome job.mode outcome))

    more : (first old new : List ℕ) → Grows old new → Grows (first ++ old) (first ++ new)
    more first old new g = elim g [
      | inl is ↦ inl (ap (λ (xs : List ℕ). first ++ xs) is ∙ sym (append_assoc first old (c ∷ [])))
      | inr is ↦ inr
          (ap (λ (xs : List ℕ). first ++ xs) is ∙ sym (append_assoc first old (c ∷ c ∷ [])))
    ]

    extend-grows : (h : History) (attempts : List AttemptedValue) (x : ℕ) (ending : Option Ending)
        → x ≤ c → LastRuns attempts
        → Grows (flat_map moments_of attempts)
        (flat_map moments_of (extend job c h attempts (Some x) ending).attempts)
    unfolding extend extend_none extend_last resume
    extend-grows h [] x ending soon last =
        let late : nat_lt c x ≡ false = grind (arith, nat_tests) in
        rw late (inl refl)
    extend-grows h (attempt ∷ attempts) x ending soon last =
        elim attempt.ended as (λ ended. attempt.ended ≡ ended
        → Grows (flat_map moments_of (record { begun = attempt.begun; ended = ended } ∷ attempts))
        (flat_map moments_of
        (extend job c h (record { begun = attempt.begun; ended = ended } ∷ attempts) (Some x)
        ending).attempts)) [
          | None ↦ λ is. rw (runs-last attempt attempts last is)
              (close-grows h attempt.begun x soon)
          | Some end ↦ λ _.
              more (attempt.begun ∷ end.at ∷ []) (flat_map moments_of attempts)
              (flat_map moments_of (extend job c ((end.at, number_of end.outcome) ∷ h) attempts
              (Some x) ending).attempts)
              (extend-grows ((end.at, number_of end.outcome) ∷ h) attempts x ending soon
              (λ earlier later a b split. last (attempt ∷ earlier) later a b
              (ap (◌∷◌ attempt) split)))
        ] refl

  -- the set of a job's moments after a due poll
  pub poll_moments-append : IsScript job.script → (moments : List ℕ) (now x : ℕ)
      → AllBefore moments now → now < 2 ^ 64 - 1 → (timeline_of job moments).due ≡ Some x → x ≤ now
      → moments ≡ poll_moments (timeline_of job moments).attempts
      → moments ++ now ∷ [] ≡ poll_moments (timeline_of job (moments ++ now ∷ [])).attempts
  unfolding poll_moments
  poll_moments-append script moments now x all small due soon kept =
      let t : Timeline = timeline_of job moments in
      let longer : timeline_of job (moments ++ now ∷ []) ≡ extended job now [] t =
      timeline_of-append job script moments now all small in
      let rules = timeline-follows job moments t
      (timeline_of-keeps job moments script now (omega arith) all) in
      let last : LastRuns t.attempts =
      (λ earlier later a b split none. rw none at (rules.next earlier later a b split)) in
      let before : AllBefore (fold with_moment [] (flat_map moments_of t.attempts)) now =
      rw (← kept) all in
      let grows : Grows now (flat_map moments_of t.attempts)
      (flat_map moments_of (extend job now [] t.attempts t.due t.ending).attempts) =
      rw due (extend-grows now [] t.attempts x t.ending soon last) in
      let one : fold with_moment [] (flat_map moments_of (extended job now [] t).attempts)
      ≡ fold with_moment [] (flat_map moments_of t.attempts) ++ now ∷ [] =
      elim grows [
        | inl is ↦ rw is (moments-one (flat_map moments_of t.attempts) now before)
        | inr is ↦ rw is (moments-two (flat_map moments_of t.attempts) now before)
      ] in
      ap (λ (ms : List ℕ). ms ++ now ∷ []) kept ∙ sym one
      ∙ ap (λ (u : Timeline). fold with_moment [] (flat_map moments_of u.attempts)) (sym longer)
