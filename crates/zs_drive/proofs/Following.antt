-- The timeline of a job follows the rules from the start on.
use Rattle.std.proofs.Common.{◌≡◌, ℕ, zero, suc, ◌+◌, ◌-◌, ◌^◌, ◌≤◌, ◌<◌, max, List, [], ◌∷◌}
use Rattle.std.proofs.Common.{length, Option, refl, arith}
use Rattle.std.specs.Prelude.{Some, None}
use Rattle.zs_term.specs.Saturating.{saturated}
use Rattle.zs_effect.specs.Scripts.{IsScript}
use Rattle.zs_effect.specs.declared.script.Outcome.{Outcome}
use Rattle.zs_term.specs.Output.{Output}
use Rattle.zs_step.specs.declared.decision.Decision.{Decision}
use Rattle.zs_step.specs.declared.decision.Decision.TheVariants.{Stop, Next}
use Rattle.zs_step.specs.History.{History}
use Rattle.zs_step.specs.Answer.{answer, answer_of}
use Rattle.zs_drive.specs.declared.record.Ending.{Ending}
use Rattle.zs_drive.specs.Clocks.{first_tick_from, AllBefore}
use Rattle.zs_drive.specs.Values.{JobRecord}
use Rattle.zs_drive.specs.Timeline.{Timeline, number_of, ending_by_outcome, beat_after, by_answer}
use Rattle.zs_drive.specs.Timeline.{by_outcome, from_wait, from_begin, from, timeline_of}
use Rattle.zs_drive.proofs.Follows.{Follows}
use Rattle.zs_drive.proofs.Ticks.{beat-takes, left, first_tick_from-from, first_tick_from-before}
use Rattle.zs_drive.proofs.Ticks.{left-none, left-length, left-after}

module _ (job : JobRecord) (ticks : List ℕ) where
  abbrev pub Keeps : History → ℕ → Timeline → Type 0
  Keeps h x timeline = Follows job ticks timeline.attempts timeline.due timeline.ending h x

  -- an attempt that begins at s after history h, and those after it
  abbrev KeepsFrom : History → ℕ → Timeline → Type 0
  KeepsFrom h s timeline = (x : ℕ) → first_tick_from ticks x ≡ Some s → Keeps h x timeline

  by_answer-keeps : (rest : History → ℕ → Timeline) (h : History) (s e : ℕ) (outcome : Outcome)
      (output : Output) (decision : Decision)
      → ((g : History) (y : ℕ) → e ≤ y → Keeps g y (rest g y))
      → first_tick_from ticks (saturated (s + (beat_after job h).ms)) ≡ Some e
      → outcome ≡ (beat_after job h).outcome
      → ending_by_outcome job.mode outcome ≡ None
      → answer output decision ≡ answer_of job.schedule ((e, number_of outcome) ∷ h)
      → KeepsFrom h s (by_answer job rest ((e, number_of outcome) ∷ h) s e outcome output decision)
  unfolding by_answer Follows
  by_answer-keeps rest h s e outcome output Stop keeps ends own none answered x begun =
      (begun, (ends, own, rw (none, ← answered) (refl, (refl, refl, refl))))
  by_answer-keeps rest h s e outcome output (Next y) keeps ends own none answered x begun = (
    begun,
    (
      ends,
      own,
      rw (none, ← answered)
          (refl, keeps ((e, number_of outcome) ∷ h) (max y e) (omega arith)),
    ),
  )

  pub by_outcome-keeps : (rest : History → ℕ → Timeline) (h : History) (s e : ℕ) (outcome : Outcome)
      (ending : Option Ending)
      → ((g : History) (y : ℕ) → e ≤ y → Keeps g y (rest g y))
      → first_tick_from ticks (saturated (s + (beat_after job h).ms)) ≡ Some e
      → outcome ≡ (beat_after job h).outcome
      → ending_by_outcome job.mode outcome ≡ ending
      → KeepsFrom h s (by_outcome job rest h s e outcome ending)
  unfolding by_outcome Follows
  by_outcome-keeps rest h s e outcome (Some ending) keeps ends own by x begun =
      (begun, (ends, own, rw by (refl, refl, refl, refl)))
  by_outcome-keeps rest h s e outcome None keeps ends own by x begun =
      let answered = answer_of job.schedule ((e, number_of outcome) ∷ h) in
      by_answer-keeps rest h s e outcome answered.output answered.decision keeps ends own
      by refl x begun

  from_wait-keeps : (rest : History → ℕ → Timeline) (h : History) (s : ℕ) (e : Option ℕ)
      → first_tick_from ticks (saturated (s + (beat_after job h).ms)) ≡ e
      → ((g : History) (y : ℕ) → saturated (s + (beat_after job h).ms) ≤ y → Keeps g y (rest g y))
      → KeepsFrom h s (from_wait job rest h s (saturated (s + (beat_after job h).ms)) e)
  unfolding from_wait Follows
  from_wait-keeps rest h s None ends keeps x begun = (begun, (ends, refl, refl, refl))
  from_wait-keeps rest h s (Some e) ends keeps x begun =
      let at = first_tick_from-from ticks (saturated (s + (beat_after job h).ms)) e ends in
      by_outcome-keeps rest h s e (beat_after job h).outcome
      (ending_by_outcome job.mode (beat_after job h).outcome)
      (λ g y l. keeps g y (omega arith)) ends refl refl x begun

  module _ (script : IsScript job.script) (c : ℕ) (small : c ≤ 2 ^ 64 - 1)
      (all : AllBefore ticks c) where
    -- fewer ticks remain after the end of an attempt
    fewer : (n : ℕ) (h : History) (x s y : ℕ) → first_tick_from ticks x ≡ Some s →
        left ticks x ≤ suc n → saturated (s + (beat_after job h).ms) ≤ y → left ticks y ≤ n
    fewer n h x s y some fits l =
        let takes : 1 ≤ (beat_after job h).ms = beat-takes job.script (length h + 1) script in
        let soon : s < c = first_tick_from-before ticks c x s all some in
        left-after ticks x s y n some (omega arith) fits

    from_begin-keeps : (n : ℕ) (h : History) (x : ℕ) (s : Option ℕ) → first_tick_from ticks x ≡ s
        → left ticks x ≤ suc n
        → ((g : History) (y : ℕ) → left ticks y ≤ n → Keeps g y (from job ticks n g y))
        → Keeps h x (from_begin job (from job ticks n) ticks h x s)
    unfolding from_begin Follows
    from_begin-keeps n h x None none fits keeps = (none, refl, refl)
    from_begin-keeps n h x (Some s) some fits keeps =
        from_wait-keeps (from job ticks n) h s
        (first_tick_from ticks (saturated (s + (beat_after job h).ms))) refl
        (λ g y l. keeps g y (fewer n h x s y some fits l)) x some

    pub from-keeps : (n : ℕ) (h : History) (x : ℕ) → left ticks x ≤ n →
        Keeps h x (from job ticks n h x)
    unfolding from Follows
    from-keeps zero h x fits = (left-none ticks x fits, refl, refl)
    from-keeps (suc n) h x fits =
        from_begin-keeps n h x (first_tick_from ticks x) refl fits (from-keeps n)

    -- the timeline satisfies the rules, so the bound never cuts its attempts short
    pub timeline_of-keeps : Keeps [] job.start (timeline_of job ticks)
    unfolding timeline_of
    timeline_of-keeps = from-keeps (length ticks) [] job.start (left-length ticks job.start)
