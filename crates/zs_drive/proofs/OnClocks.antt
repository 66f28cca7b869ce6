-- Later ticks at which nothing is due change nothing.
use Rattle.std.proofs.Common.{◌≡◌, ℕ, ◌+◌, ◌≤◌, ◌<◌, List, [], ◌∷◌, ◌++◌, append_assoc, append-nil}
use Rattle.std.proofs.Common.{Option, refl, sym, ◌∙◌, ap, arith}
use Rattle.std.specs.Prelude.{Some, None, ⊤}
use Rattle.zs_effect.specs.Scripts.{IsScript}
use Rattle.zs_step.specs.History.{History}
use Rattle.zs_drive.specs.declared.record.Ending.{Ending}
use Rattle.zs_drive.specs.Clocks.{RisesFrom, AllBefore, max_tick}
use Rattle.zs_drive.specs.Values.{JobRecord, AttemptedValue}
use Rattle.zs_drive.specs.Timeline.{before, timeline_of}
use Rattle.zs_drive.proofs.Moments.{AllBefore-append, AllBefore-later}
use Rattle.zs_drive.proofs.Extending.{extend, extend_none, extend_last, extended}
use Rattle.zs_drive.proofs.Extending.{timeline_of-append, resume-late, close-late}
use Rattle.zs_drive.proofs.Follows.{Follows, follows-each}
use Rattle.zs_drive.proofs.Following.{timeline_of-keeps}

-- the due moment, if there is one, is after c
abbrev pub IsAfter : ℕ → Option ℕ → Type 0
IsAfter c None = ⊤
IsAfter c (Some x) = c < x

-- a tick that is too early changes nothing
extend-early : (job : JobRecord) (c : ℕ) (ticks : List ℕ) (due : Option ℕ) (ending : Option Ending)
    → IsAfter c due
    → (attempts : List AttemptedValue) (h : History) (x : ℕ)
    → Follows job ticks attempts due ending h x
    → extend job c h attempts due ending
    ≡ record { attempts = attempts; due = due; ending = ending }
unfolding extend extend_none extend_last
extend-early job c ticks due ending early =
    follows-each job ticks due ending (λ attempts h. extend job c h attempts due ending
    ≡ record { attempts = attempts; due = due; ending = ending })
    (λ h x none waits going. let late : c < x = rw waits at early in
    rw (waits, going, resume-late job c h x late) refl)
    (λ h s w none waits going. let late : c < w = rw waits at early in
    rw (waits, going, close-late job c h s w late) refl)
    (λ h s end x over ended. rw (over, ended) refl)
    (λ h s end later same. ap (before (record { begun = s; ended = Some end })) same)

module _ (job : JobRecord) (script : IsScript job.script) where
  -- a later tick, at which nothing is due
  pub timeline_of-skip : (ticks : List ℕ) (c : ℕ) → AllBefore ticks c → c ≤ max_tick →
      IsAfter c (timeline_of job ticks).due →
      timeline_of job (ticks ++ c ∷ []) ≡ timeline_of job ticks
  timeline_of-skip ticks c all small early =
      let t = timeline_of job ticks in
      timeline_of-append job script ticks c all (omega arith)
      ∙ extend-early job c ticks t.due t.ending early t.attempts [] job.start
      (timeline_of-keeps job ticks script c (omega arith) all)

  -- a due poll at a later tick of two clocks on which the job has the same timeline
  pub timeline_of-both : (ticks moments : List ℕ) (c : ℕ) → AllBefore ticks c → AllBefore moments c
      → c ≤ max_tick → timeline_of job moments ≡ timeline_of job ticks
      → timeline_of job (moments ++ c ∷ []) ≡ timeline_of job (ticks ++ c ∷ [])
  timeline_of-both ticks moments c all also small same =
      timeline_of-append job script moments c also (omega arith) ∙ ap (extended job c []) same
      ∙ sym (timeline_of-append job script ticks c all (omega arith))

  -- several later ticks, before the due moment if there is one
  skips : (ticks more : List ℕ) (b : ℕ) → AllBefore ticks b → RisesFrom b more
      → AllBefore more (max_tick + 1)
      → ((x : ℕ) → (timeline_of job ticks).due ≡ Some x → AllBefore more x)
      → timeline_of job (ticks ++ more) ≡ timeline_of job ticks
  unfolding RisesFrom AllBefore
  skips ticks [] b all rises bounded early = ap (timeline_of job) (append-nil ticks)
  skips ticks (c ∷ more) b all rises bounded early =
      let past : AllBefore ticks c = AllBefore-later ticks b c all rises.0 in
      let after : IsAfter c (timeline_of job ticks).due =
      elim (timeline_of job ticks).due as (λ o. (timeline_of job ticks).due ≡ o → IsAfter c o)
      [ None ↦ λ _. tt | Some x ↦ λ waits. (early x waits).0 ] refl in
      let one = timeline_of-skip ticks c past (omega (arith, bounded.0)) after in
      let grown : AllBefore (ticks ++ c ∷ []) (c + 1) =
      AllBefore-append ticks c (c + 1) (AllBefore-later ticks c (c + 1) past (omega arith))
      (omega arith) in
      ap (timeline_of job) (sym (append_assoc ticks (c ∷ []) more))
      ∙ skips (ticks ++ c ∷ []) more (c + 1) grown rises.1 bounded.1
      (λ x waits. (early x (rw one at waits)).1) ∙ one

  pub timeline_of-skips : (ticks more : List ℕ) (b x : ℕ) → AllBefore ticks b → RisesFrom b more
      → AllBefore more (max_tick + 1)
      → (timeline_of job ticks).due ≡ Some x → AllBefore more x
      → timeline_of job (ticks ++ more) ≡ timeline_of job ticks
  timeline_of-skips ticks more b x all rises bounded due soon =
      skips ticks more b all rises bounded (λ y waits. let same : x ≡ y = cc in rw (← same) soon)

  -- a job that has ended doesn't change
  pub timeline_of-over : (ticks more : List ℕ) (b : ℕ) → AllBefore ticks b → RisesFrom b more
      → AllBefore more (max_tick + 1)
      → (timeline_of job ticks).due ≡ None → timeline_of job (ticks ++ more) ≡ timeline_of job ticks
  timeline_of-over ticks more b all rises bounded over =
      skips ticks more b all rises bounded (λ x waits. cc)
