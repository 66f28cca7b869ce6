-- A timeline that follows from the start on satisfies the rules of the drivers at each place.
use Rattle.std.proofs.Common.{◌≡◌, ℕ, suc, ◌+◌, max, List, [], ◌∷◌, ◌++◌, length, length-append}
use Rattle.std.proofs.Common.{append_assoc, append-nil, Option, refl, sym, ◌∙◌, ap, subst, arith}
use Rattle.std.specs.Prelude.{true, Some, None}
use Rattle.std.proofs.lemmas.Grind.{fold-append}
use Rattle.zs_effect.specs.declared.script.Outcome.{Outcome}
use Rattle.zs_term.specs.Saturating.{saturated}
use Rattle.zs_term.specs.Output.{Output}
use Rattle.zs_step.specs.declared.decision.Decision.TheVariants.{Stop, Next}
use Rattle.zs_step.specs.History.{History}
use Rattle.zs_step.specs.Answer.{Answer, answer, answer_of}
use Rattle.zs_drive.specs.Clocks.{first_tick_from}
use Rattle.zs_drive.specs.Values.{JobRecord, AttemptedValue, EndedValue}
use Rattle.zs_drive.specs.Timeline.{Timeline, number_of, ending_by_outcome, ended_attempt}
use Rattle.zs_drive.specs.Timeline.{beat_after}
use Rattle.zs_drive.specs.Recorded.{AllContinued, continued, end_continued, step_continued}
use Rattle.zs_drive.specs.DriverRules.{pair_of, longer_by, history_from, history_after, IsTimeline}
use Rattle.zs_drive.specs.DriverRules.{IsEnd, IsLast, StopsBy, StopsOn, BeginsAfter, asked_unless}
use Rattle.zs_drive.proofs.Follows.{GoesOn, IsAsked, EndsAt, Follows}
use Rattle.zs_drive.proofs.Ticks.{lt_cases, first_tick_from-again}

length-history_from : (h : History) (attempts : List AttemptedValue) → AllContinued attempts →
    length (history_from h attempts) ≡ length h + length attempts
unfolding AllContinued
length-history_from h [] all = omega arith
length-history_from h (attempt ∷ attempts) all =
    elim attempt.ended as (λ o. end_continued o ≡ true →
    length (history_from (longer_by h o) attempts) ≡ length h + suc (length attempts)) [
      | None ↦ λ on. cc
      | Some end ↦ λ on. let rest =
          length-history_from (pair_of end ∷ h) attempts all.1 in omega arith
    ] all.0

pub length-history_after : (attempts : List AttemptedValue) → AllContinued attempts →
    length (history_after attempts) ≡ length attempts
length-history_after attempts all = length-history_from [] attempts all ∙ omega arith

pub AllContinued-append : (attempts : List AttemptedValue) (last : AttemptedValue)
    → AllContinued attempts → continued last ≡ true
    → AllContinued (attempts ++ last ∷ [])
unfolding AllContinued
AllContinued-append [] last all on = (on, tt)
AllContinued-append (attempt ∷ attempts) last all on =
    (all.0, AllContinued-append attempts last all.1 on)

pub history_after-ended :
    (attempts : List AttemptedValue) (s e : ℕ) (outcome : Outcome) (step : Option Answer)
    → history_after (attempts ++ ended_attempt s e outcome step ∷ []) ≡ (e, number_of outcome)
    ∷ history_after attempts
history_after-ended attempts s e outcome step =
    fold-append _ [] attempts (ended_attempt s e outcome step ∷ [])

module _ (job : JobRecord) (ticks : List ℕ) (timeline : Timeline) where
  -- what is required of the attempts after history h and moment x
  abbrev Rest : List AttemptedValue → History → ℕ → Type 0
  Rest later = Follows job ticks later timeline.due timeline.ending

  -- what is required of the end of an attempt that began at s after history h
  abbrev Ends : List AttemptedValue → History → ℕ → Option EndedValue → Type 0
  Ends later h s ended =
      EndsAt job ticks (Rest later) h later timeline.due timeline.ending
      (saturated (s + (beat_after job h).ms)) ended

  -- an attempt that ended, after which the schedule continued at y
  record Goes (later : List AttemptedValue) (h : History) (s : ℕ) (ended : Option EndedValue) :
      Type 0 where
    pub end : EndedValue
    pub output : Output
    pub y : ℕ
    pub is : ended ≡ Some end
    pub at : first_tick_from ticks (saturated (s + (beat_after job h).ms)) ≡ Some end.at
    pub step : end.step ≡ Some (answer output (Next y))
    pub follows : Rest later ((end.at, number_of end.outcome) ∷ h) (max y end.at)

  goes : (later : List AttemptedValue) (h : History) (s : ℕ) (ended : Option EndedValue) →
      (later ≡ [] → ⊥) → Ends later h s ended → Goes later h s ended
  goes later h s None some ends = absurd (some ends.1)
  goes later h s (Some end) some ends =
      let answered = answer_of job.schedule ((end.at, number_of end.outcome) ∷ h) in
      elim (ending_by_outcome job.mode end.outcome) as (λ by. IsAsked job ticks (Rest later) h later
      timeline.due timeline.ending end by → Goes later h s (Some end)) [
        | Some x ↦ λ asked. absurd (some asked.1)
        | None ↦ λ asked. elim answered.decision as
            (λ d. end.step ≡ Some (answer answered.output d) →
            GoesOn job ticks (Rest later) h later timeline.due timeline.ending end d →
            Goes later h s (Some end)) [
              | Stop ↦ λ step on. absurd (some on.0)
              | Next y ↦ λ step on. record {
                end = end;
                output = answered.output;
                y = y;
                is = refl;
                at = ends.0;
                step = step;
                follows = on;
              }
            ] asked.0 asked.1
      ] ends.2

  -- the rules from an attempt on, which follows others that ended
  record Reaches (p later : List AttemptedValue) (a : AttemptedValue) : Type 0 where
    pub x : ℕ
    pub all : AllContinued p
    pub follows : Rest (a ∷ later) (history_after p) x

  reaches : (earlier later : List AttemptedValue) (a : AttemptedValue) (p : List AttemptedValue)
      (x : ℕ) → AllContinued p
      → Rest (earlier ++ a ∷ later) (history_after p) x → Reaches (p ++ earlier) later a
  unfolding Follows
  reaches [] later a p x all follows =
      rw (append-nil p) (record { x = x; all = all; follows = follows })
  reaches (b ∷ earlier) later a p x all follows =
      let g = goes (earlier ++ a ∷ later) (history_after p) b.begun b.ended
      (λ none. omega (
        arith,
        ap (λ (xs : List AttemptedValue). length xs) none,
        length-append earlier (a ∷ later),
      )) follows.1 in
      let q : AttemptedValue = record { begun = b.begun; ended = Some g.end } in
      let rest = reaches earlier later a (p ++ q ∷ []) (max g.y g.end.at)
      (AllContinued-append p q all (ap step_continued g.step))
      (rw (history_after-ended p b.begun g.end.at g.end.outcome g.end.step) g.follows) in
      subst (λ (ps : List AttemptedValue). Reaches ps later a)
      (append_assoc p (q ∷ []) earlier ∙ ap (λ (o : Option EndedValue). p
      ++ record { begun = b.begun; ended = o } ∷ earlier) (sym g.is)) rest

  -- how an attempt ended
  end-keeps : (p later : List AttemptedValue) (s : ℕ) (ended : Option EndedValue) → AllContinued p →
      Ends later (history_after p) s ended → IsEnd job ticks p s ended
  end-keeps p later s None all ends = let own = rw (length-history_after p all) at ends in own.0
  end-keeps p later s (Some end) all ends =
      let own = rw (length-history_after p all) at ends in
      record {
        at = own.0;
        outcome = own.1;
        step = elim (ending_by_outcome job.mode end.outcome) as
            (λ by. IsAsked job ticks (Rest later) (history_after p) later timeline.due
            timeline.ending end by
            → end.step ≡ asked_unless job ticks
            by (answer_of job.schedule ((end.at, number_of end.outcome) ∷ history_after p)))
            [ Some x ↦ λ asked. asked.0 | None ↦ λ asked. asked.0 ] ends.2;
      }

  -- when the next attempt begins
  next-keeps : (later : List AttemptedValue) (b : AttemptedValue) (h : History) (s : ℕ)
      (ended : Option EndedValue) → Goes (b ∷ later) h s ended → BeginsAfter job ticks b.begun ended
  unfolding Follows
  next-keeps later b h s ended g =
      let first : first_tick_from ticks (max g.y g.end.at) ≡ Some b.begun = g.follows.0 in
      let again : first_tick_from ticks g.end.at ≡ Some g.end.at =
      first_tick_from-again ticks (saturated (s + (beat_after job h).ms)) g.end.at g.at in
      rw (g.is, g.step) (
        λ l. (let greater : max g.y g.end.at ≡ g.end.at = omega arith in
            let both : first_tick_from ticks g.end.at ≡ Some b.begun = rw greater at first in cc),
        λ l. (let greater : max g.y g.end.at ≡ g.y = omega arith in rw greater at first),
      )

  -- how the list ends
  last-keeps : (p : List AttemptedValue) (s : ℕ) (ended : Option EndedValue) → AllContinued p →
      Ends [] (history_after p) s ended → IsLast job ticks p s timeline.due timeline.ending ended
  unfolding Follows
  last-keeps p s None all ends = let own = rw (length-history_after p all) at ends in (own.2, own.3)
  last-keeps p s (Some end) all ends =
      let again : first_tick_from ticks end.at ≡ Some end.at =
      first_tick_from-again ticks (saturated (s + (beat_after job (history_after p)).ms))
      end.at ends.0 in
      elim (ending_by_outcome job.mode end.outcome) as
      (λ by. IsAsked job ticks (Rest []) (history_after p) [] timeline.due timeline.ending end
      by → StopsBy job ticks end timeline.due timeline.ending by end.step) [
        | Some x ↦ λ asked. (asked.2, asked.3)
        | None ↦ λ asked. rw asked.0
            (elim (answer_of job.schedule
            ((end.at, number_of end.outcome) ∷ history_after p)).decision
            as (λ d. GoesOn job ticks (Rest []) (history_after p) [] timeline.due timeline.ending
            end d → StopsOn job ticks end timeline.due timeline.ending d) [
              | Stop ↦ λ on. (on.1, on.2)
              | Next y ↦ λ on. lt_cases end.at y
                  (λ _. StopsOn job ticks end timeline.due timeline.ending (Next y))
                  (λ l. let greater : max y end.at ≡ y = omega arith in
                  let all = rw greater at on in (l, all.0, all.1, all.2))
                  (λ l. let greater : max y end.at ≡ end.at = omega arith in
                  let none : first_tick_from ticks end.at ≡ None = rw greater at on.0 in
                  absurd cc)
            ] asked.1)
      ] ends.2

  -- a timeline that follows from the start on satisfies the rules at each place
  pub timeline-follows : Follows job ticks timeline.attempts timeline.due timeline.ending []
      job.start → IsTimeline job ticks timeline
  unfolding Follows AllContinued
  timeline-follows follows =
      let from : (attempts : List AttemptedValue) → timeline.attempts ≡ attempts →
      Rest attempts [] job.start = λ attempts is. rw is at follows in
      let at : (earlier later : List AttemptedValue) (a : AttemptedValue) →
      timeline.attempts ≡ earlier ++ a ∷ later → Reaches earlier later a =
      λ earlier later a is. reaches earlier later a [] job.start tt
      (from (earlier ++ a ∷ later) is) in
      record {
        none = from [];
        first = λ a later is. (from (a ∷ later) is).0;
        ends = λ earlier later a is. let r = at earlier later a is in
            end-keeps earlier later a.begun a.ended r.all r.follows.1;
        next = λ earlier later a b is.
            let r = at earlier (b ∷ later) a is in
            next-keeps later b (history_after earlier) a.begun a.ended
            (goes (b ∷ later) (history_after earlier) a.begun a.ended (λ none. cc) r.follows.1);
        last = λ earlier a is. let r = at earlier [] a is in
            last-keeps earlier a.begun a.ended r.all r.follows.1;
      }
