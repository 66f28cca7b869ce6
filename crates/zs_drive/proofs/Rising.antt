-- The attempts of a timeline follow one another in time.
use Rattle.std.proofs.Common.{◌≡◌, ℕ, ◌+◌, ◌≤◌, ◌<◌, List, [], ◌∷◌, ◌++◌, length, append_assoc}
use Rattle.std.proofs.Common.{Option, ◌∙◌, sym, arith}
use Rattle.std.specs.Prelude.{Some, None, IfSome}
use Rattle.zs_term.specs.Saturating.{saturated}
use Rattle.zs_effect.specs.Scripts.{IsScript, entry_at}
use Rattle.zs_step.specs.Answer.{Answer}
use Rattle.zs_step.specs.declared.decision.Decision.{Decision}
use Rattle.zs_step.specs.declared.decision.Decision.TheVariants.{Stop, Next}
use Rattle.zs_drive.specs.Clocks.{first_tick_from, AreTicks, max_tick}
use Rattle.zs_drive.specs.Values.{JobRecord, AttemptedValue, EndedValue}
use Rattle.zs_drive.specs.Timeline.{timeline_of}
use Rattle.zs_drive.specs.DriverRules.{IsTimeline, IsEnd, BeginsOn, BeginsBy, BeginsAfter, end_due}
use Rattle.zs_drive.specs.DriverLaws.{EndsLater, BeginsLater}
use Rattle.zs_drive.proofs.Ticks.{lt_cases, first_tick_from-from, first_tick_from-before}
use Rattle.zs_drive.proofs.Extending.{beat-takes, saturated-after}
use Rattle.zs_drive.proofs.Ruling.{timeline_of-rules}

module _ (job : JobRecord) (script : IsScript job.script) (ticks : List ℕ)
    (clock : AreTicks ticks) where
  -- the rules at each place of the list
  rules : IsTimeline job ticks (timeline_of job ticks)
  rules = timeline_of-rules job ticks script (max_tick + 1) (omega arith) clock.bounded

  -- ticks are moments
  tick-small : (x s : ℕ) → first_tick_from ticks x ≡ Some s → s < max_tick + 1
  tick-small x s at = first_tick_from-before ticks (max_tick + 1) x s clock.bounded at

  -- the next attempt after an end at e begins at s, at e or later
  begins_on : (e s : ℕ) (decision : Decision) → e < max_tick + 1 → BeginsOn job ticks e s decision →
      (e ≤ s) × (s < max_tick + 1)
  begins_on e s Stop small begins = absurd begins
  begins_on e s (Next x) small begins = lt_cases e x (λ _. (e ≤ s) × (s < max_tick + 1))
      (λ l. let at = begins.1 l in let from : x ≤ s = first_tick_from-from ticks x s at in
      (omega arith, tick-small x s at))
      (λ l. let same : s ≡ e = begins.0 l in (omega arith, omega arith))

  begins_by : (e s : ℕ) (step : Option Answer) → e < max_tick + 1 → BeginsBy job ticks e s step →
      (e ≤ s) × (s < max_tick + 1)
  begins_by e s None small begins = absurd begins
  begins_by e s (Some answered) small begins = begins_on e s answered.decision small begins

  begins_after : (earlier : List AttemptedValue) (begun s : ℕ) (ended : Option EndedValue)
      → IsEnd job ticks earlier begun ended → BeginsAfter job ticks s ended
      → IfSome ended (λ end. end.at ≤ s) × (s < max_tick + 1)
  begins_after earlier begun s None ends begins = absurd begins
  begins_after earlier begun s (Some end) ends begins =
      begins_by end.at s end.step (tick-small (end_due job ticks earlier begun) end.at ends.at)
      begins

  -- two consecutive attempts
  pair : (earlier later : List AttemptedValue) (a b : AttemptedValue)
      → (timeline_of job ticks).attempts ≡ earlier ++ a ∷ b ∷ later
      → IfSome a.ended (λ end. end.at ≤ b.begun) × (b.begun < max_tick + 1)
  pair earlier later a b split =
      begins_after earlier a.begun b.begun a.ended (rules.ends earlier (b ∷ later) a split)
      (rules.next earlier later a b split)

  -- the attempts after one that begins at a tick
  walk : (earlier more later : List AttemptedValue) (a b : AttemptedValue) →
      (timeline_of job ticks).attempts ≡ earlier ++ a ∷ (more ++ b ∷ later) → b.begun < max_tick + 1
  walk earlier [] later a b split = (pair earlier later a b split).1
  walk earlier (m ∷ more) later a b split = walk (earlier ++ a ∷ []) more later m b (split
      ∙ sym (append_assoc earlier (a ∷ []) (m ∷ (more ++ b ∷ later))))

  -- each attempt begins at a moment that a clock may have
  begun-small : (earlier later : List AttemptedValue) (a : AttemptedValue) →
      (timeline_of job ticks).attempts ≡ earlier ++ a ∷ later → a.begun < max_tick + 1
  begun-small [] later a split = tick-small job.start a.begun (rules.first a later split)
  begun-small (f ∷ earlier) later a split = walk [] earlier later f a split

  end-later : (earlier : List AttemptedValue) (begun : ℕ) (ended : Option EndedValue)
      → begun < max_tick + 1 → IsEnd job ticks earlier begun ended
      → IfSome ended (λ end. begun < end.at)
  end-later earlier begun None small ends = tt
  end-later earlier begun (Some end) small ends =
      let ms : ℕ = (entry_at job.script (length earlier + 1)).ms in
      let after : begun < saturated (begun + ms) =
      saturated-after begun max_tick ms (omega arith) (omega arith)
      (beat-takes job.script (length earlier + 1) script) in
      let from : saturated (begun + ms) ≤ end.at =
      first_tick_from-from ticks (saturated (begun + ms)) end.at ends.at in omega arith

  pub ends-later : EndsLater job ticks
  ends-later earlier later attempt split =
      end-later earlier attempt.begun attempt.ended (begun-small earlier later attempt split)
      (rules.ends earlier later attempt split)

  pub begins-later : BeginsLater job ticks
  begins-later earlier later attempt next split = (pair earlier later attempt next split).0

pub ruleset rising = (ends-later, begins-later)
