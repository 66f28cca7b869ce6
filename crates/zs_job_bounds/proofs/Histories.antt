-- Each history of a job's timeline is one that a driver can make.
use Rattle.std.proofs.Common.{◌≡◌, ℕ, if◌then◌else◌, ◌+◌, ◌-◌, ◌≤◌, ◌<◌, max, min, List, [], ◌∷◌}
use Rattle.std.proofs.Common.{◌++◌, length, Option, refl, sym, ap, subst, arith}
use Rattle.std.specs.Prelude.{Some, None}
use Rattle.std.specs.List.{All}
use Rattle.zs_term.specs.Saturating.{saturated, max_moment}
use Rattle.zs_effect.specs.Scripts.{IsScript, entry_at, no_entry}
use Rattle.zs_effect.specs.declared.script.Beat.{Beat}
use Rattle.zs_term.specs.Schedule.{Schedule}
use Rattle.zs_step.specs.declared.decision.Decision.{Decision}
use Rattle.zs_step.specs.declared.decision.Decision.TheVariants.{Stop, Next}
use Rattle.zs_step.specs.History.{History, first_moment, last_moment}
use Rattle.zs_step.specs.Answer.{Answer, answer_of}
use Rattle.zs_step.specs.Laws.{IsNotBefore}
use Rattle.zs_step.proofs.Moments.{answer_of-late}
use Rattle.zs_drive.specs.declared.record.Ending.{Ending}
use Rattle.zs_drive.specs.Clocks.{first_tick_from, AreTicks, max_tick}
use Rattle.zs_drive.specs.Values.{JobRecord, AttemptedValue, EndedValue}
use Rattle.zs_drive.specs.Timeline.{timeline_of, beat_after, number_of, ending_by_outcome}
use Rattle.zs_drive.specs.DriverRules.{pair_of, history_from}
use Rattle.zs_drive.proofs.Follows.{GoesOn, IsAsked, EndsAt, Follows}
use Rattle.zs_drive.proofs.Ticks.{tick_cases, first_tick_from-from, first_tick_from-before}
use Rattle.zs_drive.proofs.Following.{timeline_of-keeps}
use Rattle.zs_bounds.specs.declared.driver.Driver.{Driver}
use Rattle.zs_bounds.specs.declared.waits.Waits.{Waits}
use Rattle.zs_bounds.specs.Driven.{exact_driver, shortest, IsStep, IsAttempt, IsNeverEarly}
use Rattle.zs_bounds.specs.Driven.{LetsEndAt, IsDriven}
use Rattle.zs_bounds.proofs.ScheduleWaits.{lets-late}
use Rattle.zs_bounds.specs.Bounds.{NextEndsAt}
use Rattle.zs_job_bounds.specs.Histories.{HasInputs, IsEndAfter, history_at, IsHistoryOf}
use Rattle.zs_job_bounds.specs.JobBounds.{ApartAreWithin, Takes, EachMsTakes}

-- an entry of a script has what all its entries have
entry-has : (P : Beat → Type 0) (beats : List Beat) (k : ℕ) → IsScript beats → All P beats → P (entry_at beats k)
entry-has P beats k script all =
    let index : min k (length beats) - 1 < length beats = omega (arith, script.some) in
    all (min k (length beats) - 1) no_entry index

-- each attempt takes 1 millisecond or more
pub takes-any : (job : JobRecord) (ticks : List ℕ) → IsScript job.script →
    Takes exact_driver job ticks
takes-any job ticks script = record {
  least = λ k e inside. let one = script.timed k e inside in omega (arith, one);
  most = λ k none. absurd cc;
  waits = record { least = refl; most = omega arith };
}

-- on a clock that ticks each millisecond nothing is late
pub each_ms-takes : (job : JobRecord) (ticks : List ℕ) → EachMsTakes job ticks
each_ms-takes job ticks d takes =
    let never : d.waits.late ≡ 0 = ap (λ (v : Waits). v.late) takes.waits in (
      record {
        least = takes.least;
        most = λ k e. (
          (λ n b inside. (let part = (takes.most k e).0 n b inside in omega (arith, part, never))),
          (λ x t from is. (let at = (takes.most k e).1 x t is in omega (arith, at))),
        );
        waits = subst IsNeverEarly (sym takes.waits) (record { least = refl; most = omega arith });
      },
      never,
    )

-- the next of some ticks is as far away as the ticks are apart
pub apart-within : ApartAreWithin
unfolding first_tick_from
apart-within gap start [] apart x t from = λ is. cc
apart-within gap start (c ∷ ticks) apart x t from =
    let first : c ≤ start + gap = apart.0 in
    tick_cases c x (λ b. (if b then Some c else first_tick_from ticks x) ≡ Some t → t ≤ x + gap)
    (λ before. apart-within gap (c + 1) ticks apart.1 x t (omega (arith, before)))
    (λ after is. let same : c ≡ t = cc in omega (arith, same, first, from))

not-empty : (xs ys : List AttemptedValue) (a : AttemptedValue) → xs ++ a ∷ ys ≡ [] → ⊥
not-empty [] ys a is = cc
not-empty (x ∷ xs) ys a is = cc

-- ---- an attempt that is due at a moment after some history

-- a decision to continue at this moment
abbrev pub LetsBegin : Decision → ℕ → Type 0
LetsBegin Stop x = ⊥
LetsBegin (Next y) x = y ≡ x

-- a history that a driver can make, if the first attempt is due at the job's start
pub record IsRunOf (d : Driver) (job : JobRecord) (h : History) : Type 0 where
  pub driven : IsDriven job.schedule d h
  pub begun : ℕ
  pub soon : begun ≤ job.start + d.waits.late
  pub first : IsAttempt d begun (first_moment h)
  pub from : job.start ≤ last_moment h

-- the first attempt, or one that a step lets begin, after a history that a driver can make
abbrev pub IsDueAfter : Driver → JobRecord → History → ℕ → Type 0
IsDueAfter d job [] x = x ≡ job.start
IsDueAfter d job (q ∷ h) x =
    IsRunOf d job (q ∷ h) ×
    (LetsBegin (answer_of job.schedule (q ∷ h)).decision x × (job.start ≤ x))

-- no attempt is due before the start
pub due-from : (d : Driver) (job : JobRecord) (h : History) (x : ℕ) → IsDueAfter d job h x →
    job.start ≤ x
due-from d job [] x due = omega (arith, due)
due-from d job (q ∷ h) x due = due.1.1

-- the last step of a history is one of a clock
run-tick : (d : Driver) (job : JobRecord) (p : ℕ × ℕ) (h : History) →
    IsDriven job.schedule d (p ∷ h) → IsStep p
run-tick d job p [] driven = driven
run-tick d job p (q ∷ h) driven = driven.0

lets-by : (d : Driver) (s : Schedule) (h : History) (e : Decision) (x l m : ℕ) →
    IsNeverEarly d.waits → last_moment h ≤ max_tick → (answer_of s h).decision ≡ e → LetsBegin e x →
    l ≤ d.waits.late → x + l ≤ max x max_tick → IsAttempt d (x + l) m →
    LetsEndAt d (last_moment h) (answer_of s h).decision m
lets-by d s h Stop x l m never tick is lets late by attempt = absurd lets
lets-by d s h (Next y) x l m never tick is lets late by attempt =
    lets-late d s h y l m never tick is late (omega (arith, by, lets))
    (subst (λ z. IsAttempt d (z + l) m) (sym lets) attempt)

lets-end : (d : Driver) (job : JobRecord) (q : ℕ × ℕ) (h : History) (x l m : ℕ) →
    IsNeverEarly d.waits → IsDueAfter d job (q ∷ h) x →
    l ≤ d.waits.late → x + l ≤ max x max_tick → IsAttempt d (x + l) m →
    LetsEndAt d q.0 (answer_of job.schedule (q ∷ h)).decision m
lets-end d job q h x l m never due late by attempt =
    lets-by d job.schedule (q ∷ h) (answer_of job.schedule (q ∷ h)).decision x l m never
    (run-tick d job q h due.0.driven).tick refl due.1.0 late by attempt

-- An attempt that is due ends, by the moment at which the first one began.
pub record EndsNext (d : Driver) (job : JobRecord) (h : History) (m : ℕ) : Type 0 where
  pub begun : ℕ
  pub soon : begun ≤ job.start + d.waits.late
  pub ends : NextEndsAt job.schedule d begun h m

pub next-ends : (d : Driver) (job : JobRecord) (h : History) (x l m : ℕ) → IsNeverEarly d.waits →
    IsDueAfter d job h x →
    l ≤ d.waits.late → x + l ≤ max x max_tick → IsAttempt d (x + l) m → EndsNext d job h m
next-ends d job [] x l m never due late by attempt =
    record { begun = x + l; soon = omega (arith, due, late); ends = attempt }
next-ends d job (q ∷ h) x l m never due late by attempt =
    let run : IsRunOf d job (q ∷ h) = due.0 in
    record {
      begun = run.begun;
      soon = run.soon;
      ends =
          (run.driven, run.first, lets-end d job q h x l m never due late by attempt);
    }

-- a step after the attempt that is due makes a longer history
driven-step : (d : Driver) (job : JobRecord) (h : History) (x l : ℕ) (p : ℕ × ℕ) →
    IsNeverEarly d.waits → IsDueAfter d job h x → IsStep p →
    l ≤ d.waits.late → x + l ≤ max x max_tick → IsAttempt d (x + l) p.0 → IsRunOf d job (p ∷ h)
driven-step d job [] x l p never due step late by attempt = record {
  driven = step;
  begun = x + l;
  soon = omega (arith, due, late);
  first = attempt;
  from = (let least = attempt.least in omega (arith, due, least));
}
driven-step d job (q ∷ h) x l p never due step late by attempt =
    let run : IsRunOf d job (q ∷ h) = due.0 in
    record {
      driven = (step, lets-end d job q h x l p.0 never due late by attempt, run.driven);
      begun = run.begun;
      soon = run.soon;
      first = run.first;
      from = (let least = attempt.least in let start = due.1.1 in omega (arith, least, start));
    }

pub next-due : (d : Driver) (job : JobRecord) (h : History) (p : ℕ × ℕ) (y x : ℕ) →
    IsRunOf d job (p ∷ h)
    → (answer_of job.schedule (p ∷ h)).decision ≡ Next y → x ≡ max y p.0 → IsDueAfter d job (p ∷ h) x
next-due d job h p y x run is at =
    let step : IsStep p = run-tick d job p h run.driven in
    let late : p.0 ≤ y = subst (IsNotBefore p.0) is (answer_of-late job.schedule (p ∷ h) (omega (arith, step.tick))) in
    let from : job.start ≤ p.0 = run.from in
    (run, (subst (λ e. LetsBegin e x) (sym is) (omega (arith, at, late)), omega (arith, at, from)))

module _ (job : JobRecord) (ticks : List ℕ) (due : Option ℕ) (ending : Option Ending) where
  -- what follows an attempt's end, by the schedule's decision
  record GoesBy (later : List AttemptedValue) (h : History) (end : EndedValue) : Type 0 where
    pub y : ℕ
    pub next : (answer_of job.schedule (pair_of end ∷ h)).decision ≡ Next y
    pub follows : Follows job ticks later due ending (pair_of end ∷ h) (max y end.at)

  goes-by : (later : List AttemptedValue) (h : History) (end : EndedValue) (d : Decision) → (later ≡ [] → ⊥)
      → (answer_of job.schedule (pair_of end ∷ h)).decision ≡ d
      → GoesOn job ticks (Follows job ticks later due ending) h later due ending end d → GoesBy later h end
  goes-by later h end Stop some is goes = absurd (some goes.0)
  goes-by later h end (Next y) some is goes = record { y = y; next = is; follows = goes }

  goes-asked : (later : List AttemptedValue) (h : History) (end : EndedValue) (by : Option Ending) → (later ≡ [] → ⊥)
      → IsAsked job ticks (Follows job ticks later due ending) h later due ending end by → GoesBy later h end
  goes-asked later h end (Some x) some asked = absurd (some asked.1)
  goes-asked later h end None some asked = goes-by later h end (answer_of job.schedule (pair_of end ∷ h)).decision some refl asked.1

  -- how an attempt that others follow has ended
  record Goes (later : List AttemptedValue) (h : History) (w : ℕ) (ended : Option EndedValue) : Type 0 where
    pub end : EndedValue
    pub is : ended ≡ Some end
    pub at : first_tick_from ticks w ≡ Some end.at
    pub own : end.outcome ≡ (beat_after job h).outcome
    pub by : GoesBy later h end

  goes : (later : List AttemptedValue) (h : History) (w : ℕ) (ended : Option EndedValue) → (later ≡ [] → ⊥)
      → EndsAt job ticks (Follows job ticks later due ending) h later due ending w ended → Goes later h w ended
  goes later h w None some ends = absurd (some ends.1)
  goes later h w (Some end) some ends = record {
    end = end;
    is = refl;
    at = ends.0;
    own = ends.1;
    by = goes-asked later h end (ending_by_outcome job.mode end.outcome) some ends.2;
  }

-- how late a driver begins an attempt at s that is due at x; one with no most may take longer
-- instead
abbrev pub lag : Driver → ℕ → ℕ → ℕ
lag d x s = min (s - x) d.waits.late

module _ (d : Driver) (job : JobRecord) (script : IsScript job.script)
    (inputs : HasInputs job.script) (ticks : List ℕ) (clock : AreTicks ticks)
    (takes : Takes d job ticks) where
  -- an attempt that is due at x takes as long as its entry says; with a most, it begins soon enough
  pub attempt-from : (h : History) (x s : ℕ) → x ≤ s →
      ((k : ℕ) → d.most ≡ Some k → s ≤ x + d.waits.late) →
      IsAttempt d (x + lag d x s) (s + (beat_after job h).ms)
  attempt-from h x s from begins = record {
    least = (
        let least : shortest d ≤ (beat_after job h).ms = entry-has (λ beat. shortest d ≤ beat.ms) job.script (length h + 1) script takes.least in
        omega (arith, from, least));
    most = λ k e. (
        let most : (beat_after job h).ms + d.waits.late ≤ k =
        entry-has (λ beat. beat.ms + d.waits.late ≤ k) job.script (length h + 1) script
        (takes.most k e).0 in
        let at = begins k e in
        omega (arith, at, most));
  }

  -- the same if it has begun
  pub attempt-of : (h : History) (x s : ℕ) → job.start ≤ x → first_tick_from ticks x ≡ Some s →
      IsAttempt d (x + lag d x s) (s + (beat_after job h).ms)
  attempt-of h x s from begun =
      attempt-from h x s (first_tick_from-from ticks x s begun)
      (λ k e. (takes.most k e).1 x s from begun)

  -- it begins in time for a driver
  pub lag-by : (x s : ℕ) → first_tick_from ticks x ≡ Some s → x + lag d x s ≤ max x max_tick
  lag-by x s begun =
      let from : x ≤ s = first_tick_from-from ticks x s begun in
      let tick : s < max_tick + 1 =
      first_tick_from-before ticks (max_tick + 1) x s clock.bounded begun in
      omega (arith, from, tick)

  -- it ends at the first tick that is late enough
  attempt-ends : (h : History) (x s w at : ℕ) → job.start ≤ x → first_tick_from ticks x ≡ Some s →
      w ≡ saturated (s + (beat_after job h).ms)
      → first_tick_from ticks w ≡ Some at → at < max_tick + 1 → IsAttempt d (x + lag d x s) at
  attempt-ends h x s w at start begun due ended small =
      let attempt = attempt-of h x s start begun in
      let late : w ≤ at = first_tick_from-from ticks w at ended in
      let from : x ≤ s = first_tick_from-from ticks x s begun in
      record {
        least = (let least = attempt.least in omega (arith, least, due, late, small));
        most = λ k e. (
            let most : (beat_after job h).ms + d.waits.late ≤ k =
            entry-has (λ beat. beat.ms + d.waits.late ≤ k) job.script (length h + 1) script
            (takes.most k e).0 in
            let soon : s ≤ x + d.waits.late = (takes.most k e).1 x s start begun in
            let now : at ≤ w + d.waits.late =
            (takes.most k e).1 w at (omega (arith, due, late, small, from, start)) ended in
            omega (arith, most, due, now, soon, from));
      }

  -- the end of an attempt that is due at x makes a history that a driver can make
  pub driven-end : (h : History) (x s : ℕ) (end : EndedValue) → IsDueAfter d job h x → first_tick_from ticks x ≡ Some s
      → first_tick_from ticks (saturated (s + (beat_after job h).ms)) ≡ Some end.at → end.outcome ≡ (beat_after job h).outcome
      → IsRunOf d job (pair_of end ∷ h)
  driven-end h x s end due begun ended own =
      let w : ℕ = saturated (s + (beat_after job h).ms) in
      let tick : end.at < max_tick + 1 = first_tick_from-before ticks (max_tick + 1) w end.at clock.bounded ended in
      let input : number_of (beat_after job h).outcome ≤ max_moment =
      entry-has (λ beat. number_of beat.outcome ≤ max_moment) job.script (length h + 1) script inputs in
      let same : number_of end.outcome ≡ number_of (beat_after job h).outcome = ap number_of own in
      driven-step d job h x (lag d x s) (pair_of end) takes.waits due
      (record { tick = omega (arith, tick); input = omega (arith, input, same) })
      (omega arith) (lag-by x s begun)
      (attempt-ends h x s w end.at (due-from d job h x due) begun refl ended tick)

  module _ (due : Option ℕ) (ending : Option Ending) where
    -- an attempt that follows others after history h: when it is due, after which history
    pub record Place (h : History) (earlier later : List AttemptedValue) (a : AttemptedValue) : Type 0 where
      pub x : ℕ
      pub due_after : IsDueAfter d job (history_from h earlier) x
      pub count : length (history_from h earlier) ≡ length h + length earlier
      pub follows : Follows job ticks (a ∷ later) due ending (history_from h earlier) x

    -- an attempt that others follow: the next one is due after a longer history
    pub record Continues (later : List AttemptedValue) (h : History) (ended : Option EndedValue) : Type 0 where
      pub end : EndedValue
      pub y : ℕ
      pub is : ended ≡ Some end
      pub due_after : IsDueAfter d job (pair_of end ∷ h) y
      pub follows : Follows job ticks later due ending (pair_of end ∷ h) y

    pub continues : (later : List AttemptedValue) (a : AttemptedValue) (h : History) (x : ℕ) → (later ≡ [] → ⊥) → IsDueAfter d job h x
        → Follows job ticks (a ∷ later) due ending h x → Continues later h a.ended
    unfolding Follows
    continues later a h x some begins follows =
        let g = goes job ticks due ending later h (saturated (a.begun + (beat_after job h).ms)) a.ended some follows.1 in
        record {
          end = g.end;
          y = max g.by.y g.end.at;
          is = g.is;
          due_after = next-due d job h (pair_of g.end) g.by.y (max g.by.y g.end.at) (driven-end h x a.begun g.end begins follows.0 g.at g.own) g.by.next refl;
          follows = g.by.follows;
        }

    pub place : (earlier later : List AttemptedValue) (a : AttemptedValue) (h : History) (x : ℕ) → IsDueAfter d job h x
        → Follows job ticks (earlier ++ a ∷ later) due ending h x → Place h earlier later a
    place [] later a h x begins follows = record { x = x; due_after = begins; count = omega arith; follows = follows }
    place (b ∷ earlier) later a h x begins follows =
        let n : Continues (earlier ++ a ∷ later) h b.ended = continues (earlier ++ a ∷ later) b h x (not-empty earlier later a) begins follows in
        let r : Place (pair_of n.end ∷ h) earlier later a = place earlier later a (pair_of n.end ∷ h) n.y n.due_after n.follows in
        rw n.is (record { x = r.x; due_after = r.due_after; count = omega (arith, r.count); follows = r.follows })

  -- ---- the ends of the timeline

  abbrev attempts : List AttemptedValue
  attempts = (timeline_of job ticks).attempts

  -- the attempts of the timeline follow from the start on
  pub whole : Follows job ticks attempts (timeline_of job ticks).due (timeline_of job ticks).ending [] job.start
  whole = timeline_of-keeps job ticks script (max_tick + 1) (omega arith) clock.bounded

  -- what is known of an end: its history, and the step there
  pub record KnownEnd (earlier : List AttemptedValue) (end : EndedValue) : Type 0 where
    pub driven : IsRunOf d job (history_at earlier end)
    pub count : length (history_at earlier end) ≡ length earlier + 1
    pub stepped : (step : Answer) → end.step ≡ Some step → step ≡ answer_of job.schedule (history_at earlier end)

  stepped-by : (later : List AttemptedValue) (h : History) (end : EndedValue) (due : Option ℕ) (ending : Option Ending) (by : Option Ending)
      → IsAsked job ticks (Follows job ticks later due ending) h later due ending end by
      → (step : Answer) → end.step ≡ Some step → step ≡ answer_of job.schedule (pair_of end ∷ h)
  stepped-by later h end due ending (Some x) asked step is = let none = asked.0 in absurd cc
  stepped-by later h end due ending None asked step is = let some = asked.0 in cc

  pub known-end : (earlier : List AttemptedValue) (end : EndedValue) → IsEndAfter attempts earlier end → KnownEnd earlier end
  unfolding Follows
  known-end earlier end e =
      let a : AttemptedValue = record { begun = e.begun; ended = Some end } in
      let from : Follows job ticks (earlier ++ a ∷ e.later) (timeline_of job ticks).due (timeline_of job ticks).ending [] job.start =
      subst (λ (xs : List AttemptedValue). Follows job ticks xs (timeline_of job ticks).due (timeline_of job ticks).ending [] job.start) e.split whole in
      let r : Place (timeline_of job ticks).due (timeline_of job ticks).ending [] earlier e.later a =
      place (timeline_of job ticks).due (timeline_of job ticks).ending earlier e.later a [] job.start refl from in
      record {
        driven = driven-end (history_from [] earlier) r.x e.begun end r.due_after r.follows.0 r.follows.1.0 r.follows.1.1;
        count = omega (arith, r.count);
        stepped = stepped-by e.later (history_from [] earlier) end (timeline_of job ticks).due (timeline_of job ticks).ending (ending_by_outcome job.mode end.outcome) r.follows.1.2;
      }

  pub steps-on-histories : (earlier : List AttemptedValue) (end : EndedValue) (step : Answer) → IsEndAfter attempts earlier end → end.step ≡ Some step
      → step ≡ answer_of job.schedule (history_at earlier end)
  steps-on-histories earlier end step e is = (known-end earlier end e).stepped step is

  pub histories-driven : (h : History) → IsHistoryOf job ticks h → IsDriven job.schedule d h
  histories-driven h of =
      subst (IsDriven job.schedule d) (sym of.is)
      (known-end of.earlier of.end of.ends).driven.driven
