-- Worked jobs, each worked out by hand from docs/SEMANTICS.md, and the bounds of their schedule.
-- They hold by computing, but for those that apply the laws: jobs can satisfy their premises.
use Rattle.std.proofs.Common.{◌≡◌, ℕ, zero, suc, ◌≤◌, ◌+◌, List, [], ◌∷◌, length, map, refl, arith, false}
use Rattle.std.specs.Prelude.{Option, Some, None}
use Rattle.std.specs.List.{All}
use Rattle.zs_term.specs.Saturating.{max_moment}
use Rattle.zs_effect.specs.Scripts.{IsScript}
use Rattle.zs_effect.specs.declared.script.Beat.{Beat}
use Rattle.zs_effect.specs.declared.script.Outcome.TheVariants.{Good, Bad}
use Rattle.zs_term.specs.Output.{number, pair}
use Rattle.zs_term.specs.Schedule.{Schedule, leaf, two, recurs, exponential, both}
use Rattle.zs_step.specs.declared.decision.Decision.{Decision}
use Rattle.zs_step.specs.declared.decision.Decision.TheVariants.{Stop, Next}
use Rattle.zs_step.specs.Answer.{answer}
use Rattle.zs_drive.specs.declared.job.Mode.TheVariants.{Retry}
use Rattle.zs_drive.specs.declared.record.Ending.{Ending}
use Rattle.zs_drive.specs.declared.record.Ending.TheVariants.{Succeeded, Failed}
use Rattle.zs_drive.specs.Clocks.{first_tick_from, RisesFrom, AllBefore, AreTicks}
use Rattle.zs_drive.specs.Values.{JobRecord, AttemptedValue, EndedValue}
use Rattle.zs_drive.specs.Timeline.{Timeline, number_of, ended_attempt, timeline_of, from, from_begin, from_wait, by_outcome, by_answer}
use Rattle.zs_agenda.specs.Ticks.{every_ms}
use Rattle.zs_engine.specs.Times.{moments_from, ticks_of}
use Rattle.zs_bounds.specs.declared.driver.Driver.{Driver}
use Rattle.zs_bounds.specs.declared.told.Bounds.{Bounds}
use Rattle.zs_bounds.specs.Driven.{exact_driver, exact_waits}
use Rattle.zs_bounds.specs.BoundsOf.{bounds_of}
use Rattle.zs_bounds.proofs.Promising.{bounds_of-promises}
use Rattle.zs_job_bounds.specs.Histories.{IsHistoryOf}
use Rattle.zs_job_bounds.specs.JobBounds.{AreApart, Takes, all_waits, IsWithin, EndsInTime}
use Rattle.zs_job_bounds.proofs.Histories.{takes-any, each_ms-takes, apart-within}
use Rattle.zs_job_bounds.proofs.Plans.{every_ms-ticks}
use Rattle.zs_job_bounds.proofs.Within.{within-bounds}

-- two waits, the second twice the first
abbrev backoff : ℕ → Schedule
backoff first = two both (leaf (exponential first 2)) (leaf (recurs 2))

-- each attempt fails after this number of milliseconds
abbrev failing : ℕ → Beat
failing ms = record { ms = ms; outcome = Bad 500 }

-- a job with a first wait, and with one entry for all attempts
abbrev retry : ℕ → ℕ → Beat → JobRecord
retry first start entry = record {
  name = [];
  mode = Retry;
  schedule = backoff first;
  start = start;
  script = entry ∷ [];
}

-- ---- bounds

-- attempts of 1 ms
abbrev of_1_ms : Driver
of_1_ms = record { least = 1; most = Some 1; waits = exact_waits }

-- attempts of up to 1 + 2 ms, and waits that are up to 2 ms late
abbrev of_3_ms : Driver
of_3_ms = record {
  least = 1;
  most = Some 3;
  waits = record { least_percent = 100; most_percent = 100; asked = 0; late = 2 };
}

-- three attempts, with a longest wait, all waits, and a longest run
abbrev three : ℕ → ℕ → Option ℕ → Bounds
three longest total run = record {
  seen = 3;
  is_cut = false;
  least = 3;
  most = Some 3;
  longest = longest;
  every = Some longest;
  total = Some total;
  longest_run = run;
}

-- a first wait and a driver, and the bounds
abbrev bounded : List ((ℕ × Driver) × Bounds)
bounded =
    -- at least and at most 3 attempts, no wait over 200 ms, and 300 ms in all
    ((100, exact_driver), three 200 300 None)
    -- waits of 1 and 2 ms between attempts of 1 ms: 6 ms in all
    ∷ ((1, of_1_ms), three 2 3 (Some 6))
    -- attempts of up to 3 ms, and waits of up to 3 and 4 ms
    ∷ ((1, of_3_ms), three 4 7 (Some 16))
    ∷ []

each_has_its_bounds : map (λ row. bounds_of (backoff row.0.0) row.0.1 20) bounded
    ≡ map (λ row. row.1) bounded
each_has_its_bounds = refl

-- ---- timelines

-- attempts of 5 ms and waits of 100 and 200 ms, or of 1 ms and of 1 and 2 ms; a start at 0 or at 1
abbrev slow : JobRecord
slow = retry 100 0 (failing 5)

abbrev quick : JobRecord
quick = retry 1 0 (failing 1)

abbrev late : JobRecord
late = retry 1 1 (failing 1)

-- a clock with a tick whenever something happens: each bound is reached
abbrev busy : List ℕ
busy = 0 ∷ 5 ∷ 105 ∷ 110 ∷ 310 ∷ 315 ∷ []

-- a horizon of 6 ms
abbrev short : List ℕ
short = ticks_of (every_ms 6)

-- ticks at most 3 ms apart: each attempt begins and ends up to 2 ms late
abbrev coarse : List ℕ
coarse = 0 ∷ 3 ∷ 6 ∷ 9 ∷ 12 ∷ 13 ∷ 16 ∷ 19 ∷ []

-- the end of an attempt that failed, with the two outputs and the decision
abbrev end : ℕ → ℕ → ℕ → Decision → EndedValue
end at delay count decision = record {
  at = at;
  outcome = Bad 500;
  step = Some (answer (pair (number delay) (number count)) decision);
}

-- an attempt, with its begin
abbrev from_to : ℕ → EndedValue → AttemptedValue
from_to begun end = record { begun = begun; ended = Some end }

-- the attempts of a job, the moment at which the next one is due, and the job's ending
abbrev timeline : List AttemptedValue → Option ℕ → Option Ending → Timeline
timeline attempts due ending = record { attempts = attempts; due = due; ending = ending }

-- a job on a clock, and its timeline
record Row : Type 0 where
  job : JobRecord
  ticks : List ℕ
  timeline : Timeline

abbrev row : JobRecord → List ℕ → Timeline → Row
row job ticks timeline = record { job = job; ticks = ticks; timeline = timeline }

abbrev rows : List Row
rows =
    -- each begin and each end has its tick
    row slow busy (timeline
    (from_to 0 (end 5 100 0 (Next 105)) ∷ from_to 105 (end 110 200 1 (Next 310))
    ∷ from_to 310 (end 315 400 2 Stop) ∷ []) None (Some (Failed 500)))
    -- on a clock with few ticks attempts begin and end late, and the third one has no tick
    ∷ row slow (7 ∷ 20 ∷ 400 ∷ 1000 ∷ []) (timeline
    (from_to 7 (end 20 100 0 (Next 120)) ∷ from_to 400 (end 1000 200 1 (Next 1200)) ∷ [])
    (Some 1200) None)
    -- a success ends a retry before `least`, which is about the schedule alone
    ∷ row (retry 100 0 (record { ms = 5; outcome = Good 1 })) busy
    (timeline (ended_attempt 0 5 (Good 1) None ∷ []) None (Some (Succeeded 1)))
    -- a clock that ticks each millisecond
    ∷ row quick short (timeline
    (from_to 0 (end 1 1 0 (Next 2)) ∷ from_to 2 (end 3 2 1 (Next 5))
    ∷ from_to 5 (end 6 4 2 Stop) ∷ []) None (Some (Failed 500)))
    -- the job begins 2 ms after its start, and ends 16 ms later
    ∷ row late coarse (timeline
    (from_to 3 (end 6 1 0 (Next 7)) ∷ from_to 9 (end 12 2 1 (Next 14))
    ∷ from_to 16 (end 19 4 2 Stop) ∷ []) None (Some (Failed 500)))
    ∷ []

each_has_its_timeline : map (λ r. timeline_of r.job r.ticks) rows ≡ map (λ r. r.timeline) rows
unfolding timeline_of from from_begin from_wait by_outcome by_answer first_tick_from moments_from ticks_of
each_has_its_timeline = refl

-- of the first row: the number of attempts, and all waits
slow-waits : map (λ f. f (timeline_of slow busy).attempts) (length ∷ all_waits ∷ []) ≡ 3 ∷ 300 ∷ []
unfolding timeline_of from from_begin from_wait by_outcome by_answer first_tick_from
slow-waits = refl

-- the history at its last end: newest first
slow-history : IsHistoryOf slow busy ((315, 500) ∷ (110, 500) ∷ (5, 500) ∷ [])
unfolding timeline_of from from_begin from_wait by_outcome by_answer first_tick_from
slow-history = record {
  earlier = from_to 0 (end 5 100 0 (Next 105)) ∷ from_to 105 (end 110 200 1 (Next 310)) ∷ [];
  end = end 315 400 2 Stop;
  ends = record { begun = 310; later = []; split = refl };
  is = refl;
}

-- ---- the premises of the laws, and what they say of these jobs

-- the one entry of a script has this property, and so each has
each : (P : Beat → Type 0) (entry : Beat) → P entry → All P (entry ∷ [])
each P entry has zero d lt = has
each P entry has (suc k) d lt = absurd (omega (arith, lt))

slow-script : IsScript slow.script
slow-script = record {
  some = omega arith;
  few = omega arith;
  timed = each (λ entry. 1 ≤ entry.ms) (failing 5) (omega arith);
}

busy-ticks : AreTicks busy
unfolding RisesFrom AllBefore
busy-ticks = record {
  rises =
      (omega arith, (omega arith, (omega arith, (omega arith, (omega arith, (omega arith, tt))))));
  bounded =
      (omega arith, (omega arith, (omega arith, (omega arith, (omega arith, (omega arith, tt))))));
}

slow-within : IsWithin (bounds_of slow.schedule exact_driver 20) (timeline_of slow busy).attempts
slow-within =
    within-bounds exact_driver slow (bounds_of slow.schedule exact_driver 20)
    (record { least = refl; most = omega arith })
    (bounds_of-promises slow.schedule exact_driver 20 refl) slow-script
    (each (λ entry. number_of entry.outcome ≤ max_moment) (failing 5) (omega arith))
    busy busy-ticks (takes-any slow busy slow-script)

-- its attempts take 1 ms on this clock
quick-takes : Takes of_1_ms quick short
quick-takes = (each_ms-takes quick short of_1_ms (record {
  least = each (λ entry. 1 ≤ entry.ms) (failing 1) (omega arith);
  most = λ k is. let one : 1 ≡ k = cc in (
    each (λ entry. entry.ms ≤ k) (failing 1) (omega (arith, one)),
    every_ms-ticks 6,
  );
  waits = refl;
})).0

coarse-apart : AreApart 2 1 coarse
coarse-apart =
    let later : AreApart 2 10 (12 ∷ 13 ∷ 16 ∷ 19 ∷ []) =
    (omega arith, (omega arith, (omega arith, (omega arith, tt)))) in
    (omega arith, (omega arith, (omega arith, (omega arith, later))))

-- the job does on this clock what the driver may do
late-takes : Takes of_3_ms late coarse
late-takes = record {
  least = each (λ entry. 1 ≤ entry.ms) (failing 1) (omega arith);
  most = λ k is. let three : 3 ≡ k = cc in (
    each (λ entry. entry.ms + 2 ≤ k) (failing 1) (omega (arith, three)),
    apart-within 2 1 coarse coarse-apart,
  );
  waits = record { least = refl; most = omega arith };
}

-- ---- smaller bounds don't hold

-- bounds of three attempts with waits of 100 and 200 ms
record IsReached (b : Bounds) : Type 0 where
  no_fewer_attempts : (k : ℕ) → b.most ≡ Some k → 3 ≤ k
  no_later_stop : b.least ≤ 3
  no_shorter_wait : 2 ≤ b.seen → 310 ≤ 110 + b.longest
  no_less_waiting : (t : ℕ) → b.total ≡ Some t → 300 ≤ t

slow-reaches : (b : Bounds) → IsWithin b (timeline_of slow busy).attempts → IsReached b
unfolding timeline_of from from_begin from_wait by_outcome by_answer first_tick_from
slow-reaches b within =
    let first : AttemptedValue = from_to 0 (end 5 100 0 (Next 105)) in
    let second : EndedValue = end 110 200 1 (Next 310) in
    let third : EndedValue = end 315 400 2 Stop in
    record {
      no_fewer_attempts = within.most;
      no_later_stop = within.least (first ∷ from_to 105 second ∷ []) third
          (pair (number 400) (number 2)) (record { begun = 310; later = []; split = refl }) refl;
      no_shorter_wait = within.longest (first ∷ []) second (pair (number 200) (number 1)) 310
          (record { begun = 105; later = from_to 310 third ∷ []; split = refl }) refl;
      no_less_waiting = within.total;
    }

-- the job ends within 6 ms, and not within 5
quick-reaches : (b : Bounds) (r : ℕ) → b.longest_run ≡ Some r
    → EndsInTime b short 0 (timeline_of quick short).attempts (timeline_of quick short).ending
    → 6 ≤ r
unfolding timeline_of from from_begin from_wait by_outcome by_answer first_tick_from moments_from ticks_of
quick-reaches b r is in_time =
    let too_late : 6 ≤ 0 + r =
    in_time.ends r is (from_to 0 (end 1 1 0 (Next 2)) ∷ from_to 2 (end 3 2 1 (Next 5)) ∷ [])
    (end 6 4 2 Stop) (record { begun = 5; later = []; split = refl }) in
    omega (arith, too_late)

-- and this one within 16 ms after a begin that is 2 ms late
late-reaches : (b : Bounds) (r : ℕ) → b.longest_run ≡ Some r
    → EndsInTime b coarse (1 + 2) (timeline_of late coarse).attempts
    (timeline_of late coarse).ending → 16 ≤ r
unfolding timeline_of from from_begin from_wait by_outcome by_answer first_tick_from
late-reaches b r is in_time =
    let too_late : 19 ≤ 1 + 2 + r =
    in_time.ends r is (from_to 3 (end 6 1 0 (Next 7)) ∷ from_to 9 (end 12 2 1 (Next 14)) ∷ [])
    (end 19 4 2 Stop) (record { begun = 16; later = []; split = refl }) in
    omega (arith, too_late)
