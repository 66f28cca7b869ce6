-- What `bounds` computes, step by step. `bounds_hold` says what it means.
use Rattle.std.specs.Prelude.{ℕ, zero, suc, ◌+◌, ◌-◌, ◌*◌, ◌/◌, min, max, Bool, true, false, not}
use Rattle.std.specs.Prelude.{◌&&◌, ◌||◌}
use Rattle.std.specs.Int.{div_ceil}
use Rattle.std.specs.Prelude.{nat_lt, nat_le, if◌then◌else◌, Option, Some, None}
use Rattle.zs_term.specs.Saturating.{saturated, max_moment}
use Rattle.zs_term.specs.Schedule.{Schedule, Leaf, plain, counted, exponential, leaf, two, over}
use Rattle.zs_term.specs.Schedule.{both, either, and_then, while_input, while_output, collect_all}
use Rattle.zs_term.specs.Schedule.{mapped, reset_when}
use Rattle.zs_term.specs.declared.forms.Counted.TheVariants.{Recurs, Spaced, Fixed, Fibonacci}
use Rattle.zs_term.specs.declared.forms.Counted.TheVariants.{Linear, Windowed}
use Rattle.zs_bounds.specs.declared.driver.Driver.{Driver}
use Rattle.zs_bounds.specs.declared.told.Bounds.{Bounds}
use Rattle.zs_bounds.specs.declared.waits.Waits.{Waits}
use Rattle.zs_bounds.specs.declared.span.Span.{Span}
use Rattle.zs_bounds.specs.declared.decisions.Decisions.{Decisions}
use Rattle.zs_bounds.specs.Driven.{max_tick, shortest}
use Rattle.zs_bounds.specs.DecisionRange.{decisions}
use Rattle.zs_bounds.specs.LatestStep.{limit_if, limit_sum, reads_time, smaller_limit}
use Rattle.zs_bounds.specs.LatestStep.{greater_limit}
use Rattle.zs_bounds.specs.Span.{span}
use Rattle.zs_bounds.specs.StateRange.{StateRange, first_range, first_state, next_range, next_state}

-- ---- whether a schedule's form shows that it never stops; `never_gives_up` says what it means

-- whether a leaf never stops
abbrev pub leaf_never_stops : Leaf → Bool
leaf_never_stops (plain p) = true
leaf_never_stops (counted Recurs k) = false
leaf_never_stops (counted Spaced k) = true
leaf_never_stops (counted Fixed k) = true
leaf_never_stops (counted Fibonacci k) = true
leaf_never_stops (counted Linear k) = true
leaf_never_stops (counted Windowed k) = true
leaf_never_stops (exponential b f) = true

-- whether a schedule never stops: one of two parts is enough, but for `&&`
abbrev pub never_stops : Schedule → Bool
never_stops (leaf l) = leaf_never_stops l
never_stops (two both a b) = never_stops a && never_stops b
never_stops (two either a b) = never_stops a || never_stops b
never_stops (two and_then a b) = never_stops a || never_stops b
never_stops (over s (while_input t)) = false
never_stops (over s (while_output k t)) = false
never_stops (over s collect_all) = never_stops s
never_stops (over s (mapped f)) = never_stops s
never_stops (over s (reset_when k t)) = never_stops s

-- ---- a limit of every wait, by a schedule's form

-- a limit of a leaf's waits: none if they grow
abbrev pub leaf_wait : Leaf → Option ℕ
leaf_wait (plain p) = Some 0
leaf_wait (counted Recurs k) = Some 0
leaf_wait (counted Spaced d) = Some d
leaf_wait (counted Fixed p) = Some p
leaf_wait (counted Fibonacci o) = None
leaf_wait (counted Linear n) = None
leaf_wait (counted Windowed p) = Some p
leaf_wait (exponential b f) = None

-- A limit of the waits of `||`, of which the earlier moment counts: a part that never stops limits
-- them alone.
abbrev pub either_wait : Bool → Bool → Option ℕ → Option ℕ → Option ℕ
either_wait true true x y = smaller_limit x y
either_wait true false x y = x
either_wait false true x y = y
either_wait false false x y = greater_limit x y

-- a limit of a schedule's waits
abbrev pub wait_limit : Schedule → Option ℕ
wait_limit (leaf l) = leaf_wait l
wait_limit (two both a b) = greater_limit (wait_limit a) (wait_limit b)
wait_limit (two either a b) =
    either_wait (never_stops a) (never_stops b) (wait_limit a) (wait_limit b)
wait_limit (two and_then a b) = greater_limit (wait_limit a) (wait_limit b)
wait_limit (over s m) = wait_limit s

-- the longest wait of a driver if the schedule waits for w milliseconds
abbrev pub longest_wait : Waits → ℕ → ℕ
longest_wait v w = saturated (max (div_ceil (w * v.most_percent) 100) v.asked + v.late)

-- a limit of a driver's waits, by one of the schedule's
abbrev pub real_limit : Driver → Option ℕ → Option ℕ
real_limit a None = None
real_limit a (Some w) = Some (longest_wait a.waits w)

-- a limit of the time from a step up to the next one: of a wait and an attempt
abbrev pub gap_limit : Driver → Option ℕ → Option ℕ
gap_limit d w = limit_sum (real_limit d w) d.most

-- ---- a limit of the time from the first step up to one that goes on, by a schedule's form

-- In `andThenEither` the second part begins a wait and an attempt after the last step at which the
-- first part goes on, at the latest. `beside` limits the waits of the parts that are stepped beside
-- the schedule.
abbrev pub latest_step : Driver → Option ℕ → Schedule → Option ℕ
latest_step d beside (leaf l) = None
latest_step d beside (two both a b) =
    smaller_limit (latest_step d (greater_limit beside (wait_limit b)) a)
    (latest_step d (greater_limit beside (wait_limit a)) b)
latest_step d beside (two either a b) =
    greater_limit (latest_step d (greater_limit beside (wait_limit b)) a)
    (latest_step d (greater_limit beside (wait_limit a)) b)
latest_step d beside (two and_then a b) =
    limit_sum
    (limit_sum (latest_step d beside a) (gap_limit d (greater_limit beside (wait_limit a))))
    (latest_step d beside b)
latest_step d beside (over s (while_input t)) = latest_step d beside s
latest_step d beside (over s (while_output k t)) =
    smaller_limit (latest_step d beside s) (limit_if (reads_time k s) t)
latest_step d beside (over s collect_all) = latest_step d beside s
latest_step d beside (over s (mapped f)) = latest_step d beside s
latest_step d beside (over s (reset_when k t)) = None

-- of a schedule with none beside it
abbrev pub latest_of : Schedule → Driver → Option ℕ
latest_of s d = latest_step d (Some 0) s

-- ---- step by step

-- the longest wait of some decisions
abbrev pub longest_in : Option Span → ℕ
longest_in None = 0
longest_in (Some w) = w.high

-- a sum, if it is at most the greatest number
abbrev pub sum_within : Option ℕ → ℕ → Option ℕ
sum_within None w = None
sum_within (Some t) w = (if nat_le (t + w) max_moment then Some (t + w) else None)

-- a number, or a limit if that is smaller
abbrev pub at_most : Option ℕ → ℕ → ℕ
at_most None n = n
at_most (Some l) n = min n l

-- the greater of a number and another one, if there is that
abbrev pub greater_if : ℕ → Option ℕ → Option ℕ
greater_if n None = None
greater_if n (Some m) = Some (max n m)

-- A limit of all waits before a step that goes on, by a limit of the time from the first step up to
-- it and the number of steps before it: each of these has an attempt after it.
abbrev pub waits_limit : Driver → Option ℕ → ℕ → Option ℕ
waits_limit a None n = None
waits_limit a (Some l) n = Some (l - shortest a * n)

-- the longest of all waits with one more, by a limit of the waits before it
abbrev pub longer_total : Option ℕ → ℕ → Option ℕ → Option ℕ
longer_total l w None = None
longer_total l w (Some t) = greater_if t (sum_within (Some (at_most l t)) w)

-- A limit of the run up to a step that goes on: the first attempt, and the time since the first
-- step.
abbrev pub run_limit : Option ℕ → ℕ → Option ℕ
run_limit None k = None
run_limit (Some l) k = Some (l + k)

-- The longest run with one more wait and attempt, if a step may go on, by a limit of the time from
-- the first step up to that step.
abbrev pub longer_run : Option ℕ → Option ℕ → Option Span → Option ℕ → Option ℕ
longer_run l most None run = run
longer_run l None (Some w) run = None
longer_run l (Some k) (Some w) None = None
longer_run l (Some k) (Some w) (Some r) =
    greater_if r (sum_within (sum_within (Some (at_most (run_limit l k) r)) w.high) k)

-- before the first step, which is the end of the first attempt
abbrev pub no_bounds : Driver → Bounds
no_bounds a =
    record {
      seen = 0;
      is_cut = true;
      least = 1;
      most = None;
      longest = 0;
      every = None;
      total = Some 0;
      longest_run = a.most;
    }

-- One more step, with what it may decide, by a limit of the time from the first step up to it if it
-- goes on.
abbrev pub with_step : Option ℕ → Driver → Decisions → Bounds → Bounds
with_step l a d b = record {
  seen = b.seen + 1;
  is_cut = true;
  least = (if nat_lt b.seen b.least && not d.stops then saturated (b.least + 1) else b.least);
  most = None;
  longest = max b.longest (longest_in d.waits);
  every = None;
  total = longer_total (waits_limit a l b.seen) (longest_in d.waits) b.total;
  longest_run = longer_run l a.most d.waits b.longest_run;
}

-- no step follows those that were seen
abbrev pub complete : Bounds → Bounds
complete b = record b { is_cut = false; every = Some b.longest }

-- and the last of them is the last that there may be
abbrev pub ended : Bounds → Bounds
ended b = record (complete b) { most = Some b.seen }

-- the shortest wait of a driver if the schedule waits for w milliseconds
abbrev pub shortest_wait : Waits → ℕ → ℕ
shortest_wait v w = saturated (w * v.least_percent / 100)

-- The longest run, by all waits and the longest attempt.
abbrev pub whole_run : Option ℕ → Option ℕ → Option ℕ
whole_run None t = None
whole_run (Some k) t = sum_within (sum_within t k) k

-- A limit of the steps, by one of the time up to a step that goes on: each step before it has an
-- attempt after it, and one more step may follow.
abbrev pub most_limit : Driver → Option ℕ → Option ℕ
most_limit a None = None
most_limit a (Some l) = sum_within (Some (l / shortest a)) 2

-- There may be more steps than were seen. What limits their time and their waits limits them all.
abbrev pub unended : Option ℕ → Option ℕ → Driver → Bounds → Bounds
unended l w a b = record b {
  is_cut = true;
  most = most_limit a l;
  every = real_limit a w;
  -- all waits: those before a step that goes on, and the one after it
  total = limit_sum l (real_limit a w);
  longest_run = whole_run a.most (limit_sum l (real_limit a w));
}

-- the longest time of a wait and an attempt: at most a whole clock
abbrev pub longest_time : Option ℕ → ℕ → ℕ
longest_time None wait = max_tick
longest_time (Some k) wait = min (saturated (wait + k)) max_tick

-- the waits of a driver if a schedule may have these
abbrev pub real_waits : Waits → Option Span → Option Span
real_waits v None = None
real_waits v (Some w) = Some (span (shortest_wait v w.low) (longest_wait v w.high))

-- what a step may decide, with the waits of a driver
abbrev pub real_decisions : Driver → Decisions → Decisions
real_decisions a d = decisions d.stops (real_waits a.waits d.waits)

-- the time from a step up to the next one: a wait and an attempt
abbrev pub time_between : Driver → Span → Span
time_between a w = span (saturated (w.low + shortest a)) (longest_time a.most w.high)

-- the bounds so far, if no later step is within a clock; otherwise the later steps decide
abbrev pub unless_past : Bool → Bounds → (Unit {0} → Bounds) → Bounds
unless_past true b rest = complete b
unless_past false b rest = rest tt

-- after a step: the end, if it can't go on; otherwise what follows after the times up to the next
-- step, of which the least ones are added up
abbrev pub after_waits : Driver → Option Span → ℕ → Bounds → (Span → ℕ → Bounds) → Bounds
after_waits a None passed b rest = ended b
after_waits a (Some w) passed b rest =
    let later = time_between a w in unless_past (nat_lt max_tick (passed + later.low)) b
    (λ _. rest later (passed + later.low))

-- The bounds of at most n more steps, by the states after the next one, what it may decide, and the
-- least time up to it.
abbrev pub bounds_from : Schedule → Driver → ℕ → StateRange → Decisions → ℕ → Bounds → Bounds
bounds_from s a zero c d passed b = unended (latest_of s a) (wait_limit s) a b
bounds_from s a (suc n) c d passed b =
    after_waits a (real_decisions a d).waits passed
    (with_step (latest_of s a) a (real_decisions a d) b)
    (λ later time. bounds_from s a n (next_state s c later) (next_range s c later).decision time
    (with_step (latest_of s a) a (real_decisions a d) b))

-- the bounds of at most `steps` steps
abbrev pub bounds_of : Schedule → Driver → ℕ → Bounds
bounds_of s a steps = bounds_from s a steps (first_state s) (first_range s).decision 0 (no_bounds a)
