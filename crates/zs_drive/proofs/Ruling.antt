-- Only one timeline satisfies the rules of the drivers at each place.
use Rattle.std.proofs.Common.{◌≡◌, ℕ, ◌-◌, ◌^◌, ◌≤◌, List, [], ◌∷◌, ◌++◌, length, append_assoc}
use Rattle.std.proofs.Common.{Option, refl, sym, ◌∙◌, arith}
use Rattle.std.specs.Prelude.{Some, None}
use Rattle.zs_effect.specs.Scripts.{IsScript}
use Rattle.zs_step.specs.declared.decision.Decision.TheVariants.{Stop, Next}
use Rattle.zs_step.specs.Answer.{Answer}
use Rattle.zs_drive.specs.declared.record.Ending.{Ending}
use Rattle.zs_drive.specs.Clocks.{AllBefore}
use Rattle.zs_drive.specs.Values.{JobRecord, AttemptedValue, EndedValue}
use Rattle.zs_drive.specs.Timeline.{Timeline, ending_by_outcome, from, timeline_of}
use Rattle.zs_drive.specs.DriverRules.{IsTimeline, IsEnd, IsLast, StopsBy, StopsOn, BeginsAfter}
use Rattle.zs_drive.specs.DriverRules.{BeginsBy, BeginsOn, asked_unless}
use Rattle.zs_drive.proofs.Ticks.{lt_cases, left, left-length}
use Rattle.zs_drive.proofs.Following.{timeline_of-keeps, from-keeps}
use Rattle.zs_drive.proofs.Timing.{timeline-follows}

module _ (job : JobRecord) (ticks : List ℕ) where
  -- each rule allows one value
  one-end : (earlier : List AttemptedValue) (s : ℕ) (a b : Option EndedValue) →
      IsEnd job ticks earlier s a → IsEnd job ticks earlier s b → a ≡ b
  one-end earlier s None None first second = refl
  one-end earlier s None (Some b) first second = let at = second.at in cc
  one-end earlier s (Some a) None first second = let at = first.at in cc
  one-end earlier s (Some a) (Some b) first second =
      let at : a.at ≡ b.at = let one = first.at in let other = second.at in cc in
      let outcome : a.outcome ≡ b.outcome = first.outcome ∙ sym second.outcome in
      let step : a.step ≡ b.step = (rw (at, outcome) at first.step) ∙ sym second.step in
      λ i. Some (record { at = at i; outcome = outcome i; step = step i })

  one-begin : (s t : ℕ) (ended : Option EndedValue) → BeginsAfter job ticks s ended →
      BeginsAfter job ticks t ended → s ≡ t
  one-begin s t None first second = absurd first
  one-begin s t (Some end) first second =
      elim end.step as (λ o. BeginsBy job ticks end.at s o →
      BeginsBy job ticks end.at t o → s ≡ t) [
        | None ↦ λ none. absurd none
        | Some answered ↦ elim answered.decision as (λ d. BeginsOn job ticks end.at s d →
            BeginsOn job ticks end.at t d → s ≡ t) [
              | Stop ↦ λ none. absurd none
              | Next x ↦ λ one other. lt_cases end.at x (λ _. s ≡ t)
                  (λ l. let soon = one.1 l in let so = other.1 l in cc)
                  (λ l. one.0 l ∙ sym (other.0 l))
            ]
      ] first second

  one-stop : (end : EndedValue) (d e : Option ℕ) (x y by : Option Ending) (step : Option Answer)
      → StopsBy job ticks end d x by step → StopsBy job ticks end e y by step → (d ≡ e) × (x ≡ y)
  one-stop end d e x y (Some z) step first second = (first.0 ∙ sym second.0, first.1 ∙ sym second.1)
  one-stop end d e x y None None first second = absurd first
  one-stop end d e x y None (Some answered) first second =
      elim answered.decision as (λ c. StopsOn job ticks end d x c → StopsOn job ticks end e y c →
      (d ≡ e) × (x ≡ y)) [
        | Stop ↦ λ f g. (f.0 ∙ sym g.0, f.1 ∙ sym g.1)
        | Next z ↦
            λ f g. (f.2 ∙ sym g.2, f.3 ∙ sym g.3)
      ] first second

  one-last : (earlier : List AttemptedValue) (s : ℕ) (d e : Option ℕ) (x y : Option Ending)
      (ended : Option EndedValue)
      → IsLast job ticks earlier s d x ended → IsLast job ticks earlier s e y ended
      → (d ≡ e) × (x ≡ y)
  one-last earlier s d e x y None first second = (first.0 ∙ sym second.0, first.1 ∙ sym second.1)
  one-last earlier s d e x y (Some end) first second =
      one-stop end d e x y (ending_by_outcome job.mode end.outcome) end.step first second

  -- an attempt that is the last one has none after it
  stops-here : (end : EndedValue) (s : ℕ) (due : Option ℕ) (ending by : Option Ending)
      (step : Option Answer) (answered : Answer)
      → step ≡ asked_unless job ticks by answered → StopsBy job ticks end due ending by step
      → BeginsBy job ticks end.at s step → ⊥
  stops-here end s due ending (Some x) step answered is stops begins = rw is at begins
  stops-here end s due ending None None answered is stops begins = stops
  stops-here end s due ending None (Some step) answered is stops begins =
      elim step.decision as (λ d. StopsOn job ticks end due ending d →
      BeginsOn job ticks end.at s d → ⊥)
      [ Stop ↦ λ f g. g | Next x ↦ λ f g. let none = f.1 in let some = g.1 f.0 in cc ] stops begins

  none-after : (earlier : List AttemptedValue) (s next : ℕ) (due : Option ℕ)
      (ending : Option Ending) (ended : Option EndedValue)
      → IsEnd job ticks earlier s ended → IsLast job ticks earlier s due ending ended
      → BeginsAfter job ticks next ended → ⊥
  none-after earlier s next due ending None ends last begins = begins
  none-after earlier s next due ending (Some end) ends last begins =
      stops-here end next due ending (ending_by_outcome job.mode end.outcome) end.step _
      ends.step last begins

  module _ (t u : Timeline) (one : IsTimeline job ticks t) (other : IsTimeline job ticks u) where
    same-parts : t.attempts ≡ u.attempts → t.due ≡ u.due → t.ending ≡ u.ending → t ≡ u
    same-parts attempts due ending =
        λ i. record { attempts = attempts i; due = due i; ending = ending i }

    -- two attempts at one place that begin at one moment
    same-attempt : (earlier xs ys : List AttemptedValue) (x y : AttemptedValue)
        → t.attempts ≡ earlier ++ x ∷ xs → u.attempts ≡ earlier ++ y ∷ ys
        → x.begun ≡ y.begun → x ≡ y
    same-attempt earlier xs ys x y left right begun =
        let ended : x.ended ≡ y.ended =
        one-end earlier x.begun x.ended y.ended (one.ends earlier xs x left)
        (rw begun (other.ends earlier ys y right)) in
        λ i. record { begun = begun i; ended = ended i }

    -- the same attempts so far, and so the same ones from there on
    same-from : (xs ys earlier : List AttemptedValue) (a : AttemptedValue) →
        t.attempts ≡ earlier ++ a ∷ xs → u.attempts ≡ earlier ++ a ∷ ys → t ≡ u
    same-from [] [] earlier a before also =
        let same = one-last earlier a.begun t.due u.due t.ending u.ending a.ended
        (one.last earlier a before) (other.last earlier a also) in
        same-parts (before ∙ sym also) same.0 same.1
    same-from [] (y ∷ ys) earlier a left right =
        absurd (none-after earlier a.begun y.begun t.due t.ending a.ended
        (one.ends earlier [] a left) (one.last earlier a left)
        (other.next earlier ys a y right))
    same-from (x ∷ xs) [] earlier a left right =
        absurd (none-after earlier a.begun x.begun u.due u.ending a.ended
        (other.ends earlier [] a right) (other.last earlier a right)
        (one.next earlier xs a x left))
    same-from (x ∷ xs) (y ∷ ys) earlier a left right =
        let begun = one-begin x.begun y.begun a.ended (one.next earlier xs a x left)
        (other.next earlier ys a y right) in
        let so = left ∙ sym (append_assoc earlier (a ∷ []) (x ∷ xs)) in
        let also = right ∙ sym (append_assoc earlier (a ∷ []) (y ∷ ys)) in
        same-from xs ys (earlier ++ a ∷ []) x so
        (rw (same-attempt (earlier ++ a ∷ []) xs ys x y so also begun) also)

    same-timeline : (xs ys : List AttemptedValue) → t.attempts ≡ xs → u.attempts ≡ ys → t ≡ u
    same-timeline [] [] left right =
        same-parts (left ∙ sym right) ((one.none left).1 ∙ sym (other.none right).1)
        ((one.none left).2 ∙ sym (other.none right).2)
    same-timeline [] (y ∷ ys) left right = let none = one.none left in
        let some = other.first y ys right in cc
    same-timeline (x ∷ xs) [] left right = let some = one.first x xs left in
        let none = other.none right in cc
    same-timeline (x ∷ xs) (y ∷ ys) left right =
        let begun : x.begun ≡ y.begun = let first = one.first x xs left in
        let also = other.first y ys right in cc in
        same-from xs ys [] x left (rw (same-attempt [] xs ys x y left right begun) right)

  module _ (script : IsScript job.script) (c : ℕ) (small : c ≤ 2 ^ 64 - 1)
      (all : AllBefore ticks c) where
    pub timeline_of-rules : IsTimeline job ticks (timeline_of job ticks)
    timeline_of-rules = timeline-follows job ticks (timeline_of job ticks)
        (timeline_of-keeps job ticks script c small all)

    pub timeline_of-only : (timeline : Timeline) → IsTimeline job ticks timeline →
        timeline ≡ timeline_of job ticks
    timeline_of-only timeline rules =
        same-timeline timeline (timeline_of job ticks) rules timeline_of-rules timeline.attempts
        (timeline_of job ticks).attempts refl refl

    -- a greater bound on the attempts changes nothing
    pub timeline_of-bound : (n : ℕ) → length ticks ≤ n →
        from job ticks n [] job.start ≡ timeline_of job ticks
    timeline_of-bound n fits =
        let some : left ticks job.start ≤ n = let few = left-length ticks job.start in
        omega arith in
        timeline_of-only (from job ticks n [] job.start)
        (timeline-follows job ticks (from job ticks n [] job.start)
        (from-keeps job ticks script c small all n [] job.start some))
