-- Worked bounds, each worked out by hand from docs/SEMANTICS.md. They are proved by computing the
-- definitions.
use Rattle.std.proofs.Common.{◌≡◌, ℕ, Bool, true, false, Option, Some, None, List, [], ◌∷◌, map}
use Rattle.std.proofs.Common.{refl}
use Rattle.zs_term.specs.Schedule.{Schedule, leaf, two, over, forever, recurs, spaced, fixed}
use Rattle.zs_term.specs.Schedule.{exponential, elapsed, linear, both, either, and_then}
use Rattle.zs_term.specs.Schedule.{while_input, while_output, collect_all, mapped, reset_when}
use Rattle.zs_term.specs.declared.term.Test.{Test}
use Rattle.zs_term.specs.declared.term.Cmp.{Cmp}
use Rattle.zs_term.specs.declared.term.Cmp.TheVariants.{Lt, Le, Ne, Ge, Eq}
use Rattle.zs_term.specs.declared.term.Pick.TheVariants.{Whole, Second as SecondPart}
use Rattle.zs_term.specs.declared.term.Pick.TheVariants.{Size as SizeOf}
use Rattle.zs_term.specs.declared.term.Func.TheVariants.{First, Merge}
use Rattle.zs_bounds.specs.declared.driver.Driver.{Driver}
use Rattle.zs_bounds.specs.declared.told.Bounds.{Bounds}
use Rattle.zs_bounds.specs.declared.waits.Waits.{Waits}
use Rattle.zs_bounds.specs.Driven.{exact_driver, exact_waits}
use Rattle.zs_bounds.specs.Span.{span}
use Rattle.zs_bounds.specs.BoundsOf.{latest_of, wait_limit, bounds_of, real_waits, never_stops}
use Rattle.zs_bounds.specs.WithinOf.{within_of}

-- a test by a number
abbrev test : Cmp → ℕ → Test
test cmp n = record { cmp = cmp; than = n }

-- a schedule that goes on while its output passes a test
abbrev while : Schedule → Cmp → ℕ → Schedule
while s cmp n = over s (while_output Whole (test cmp n))

-- waits of 100, 200, 400, .. ms, n of them
abbrev doubling : ℕ → Schedule
doubling n = two both (leaf (exponential 100 2)) (leaf (recurs n))

-- waits of 100, 200, 400, .. ms, and of 5 s at most
abbrev capped : Schedule
capped = two either (leaf (exponential 100 2)) (leaf (spaced 5000))

-- waits of 400 ms, until 2 s have passed
abbrev two_seconds : Schedule
two_seconds =
    over (two both (leaf (spaced 400)) (leaf elapsed)) (while_output SecondPart (test Lt 2000))

-- three quick waits, and then four slow ones
abbrev quick_then_slow : Schedule
quick_then_slow =
    over (two and_then (doubling 3) (two both (leaf (spaced 5000)) (leaf (recurs 4))))
    (mapped Merge)

-- attempts of this least and this most
abbrev lasting : ℕ → ℕ → Driver
lasting least most = record { least = least; most = Some most; waits = exact_waits }

-- attempts of 1 to 10 ms and these waits
abbrev waiting : Waits → Driver
waiting waits = record { least = 1; most = Some 10; waits = waits }

-- waits of a least and a most percentage of the schedule's
abbrev percents : ℕ → ℕ → Waits
percents least most = record { least_percent = least; most_percent = most; asked = 0; late = 0 }

-- the steps looked at, the least and the most, the longest wait, a limit of every wait, all waits,
-- the longest run
abbrev bounds : ℕ → ℕ → Option ℕ → ℕ → Option ℕ → Option ℕ → Option ℕ → Bounds
bounds seen least most longest every total run =
    record {
      seen = seen;
      is_cut = false;
      least = least;
      most = most;
      longest = longest;
      every = every;
      total = total;
      longest_run = run;
    }

-- the same, if there may be more steps
abbrev cut : ℕ → ℕ → Option ℕ → ℕ → Option ℕ → Option ℕ → Option ℕ → Bounds
cut seen least most longest every total run =
    record (bounds seen least most longest every total run) { is_cut = true }

-- a schedule, a driver, how many steps are looked at, and the bounds
record Row : Type 0 where
  schedule : Schedule
  driver : Driver
  steps : ℕ
  bounds : Bounds

abbrev row : Schedule → Driver → ℕ → Bounds → Row
row s d steps bounds = record { schedule = s; driver = d; steps = steps; bounds = bounds }

abbrev rows : List Row
rows =
    -- 100, 200, 400, 800, 1600 ms, and no sixth wait
    row (doubling 5) exact_driver 20 (bounds 6 6 (Some 6) 1600 (Some 1600) (Some 3100) None)
    -- It may give up at once, if the first error isn't a server's. Else it has waits of 100, 200,
    -- .., 3200, 5000, 5000.
    ∷ row (over (two both capped (leaf (recurs 8))) (while_input (test Ge 500))) exact_driver 20
    (bounds 9 1 (Some 9) 5000 (Some 5000) (Some 16300) None)
    -- Each attempt takes 1 ms at least, so after five waits 2005 ms have passed. A long attempt
    -- ends it at the second step.
    ∷ row two_seconds exact_driver 20 (bounds 6 2 (Some 6) 400 (Some 400) (Some 2000) None)
    -- 250, 500, .., 1250; the sixth delay is 1500, and ends it
    ∷ row (while (leaf (linear 250)) Lt 1500) exact_driver 20
    (bounds 6 6 (Some 6) 1250 (Some 1250) (Some 3750) None)
    -- three quick waits of 100, 200, 400 ms, four slow ones of 5000 ms, and a minute in all
    ∷ row (two both quick_then_slow (while (leaf elapsed) Lt 60000)) exact_driver 20
    (bounds 8 2 (Some 8) 5000 (Some 5000) (Some 20700) None)
    -- it gives up at the first missing page, which may be at once or never
    ∷ row (over (leaf (spaced 1000)) (while_input (test Ne 404))) exact_driver 5
    (cut 5 1 None 1000 (Some 1000) None None)
    -- it never gives up by itself
    ∷ row (leaf forever) exact_driver 5 (cut 5 6 None 0 (Some 0) None None)
    -- no step is looked at
    ∷ row (leaf (recurs 3)) exact_driver 0 (cut 0 1 None 0 (Some 0) None None)
    -- the third step would be past every clock
    ∷ row (leaf (spaced 600000000000000)) exact_driver 5
    (bounds 2 3 None 600000000000000 (Some 600000000000000) (Some 1200000000000000) None)
    -- a whole period at the first step, and any part of one later
    ∷ row (two both (leaf (fixed 100)) (leaf (recurs 2))) exact_driver 5
    (bounds 3 3 (Some 3) 100 (Some 100) (Some 200) None)
    -- a reset at the third step, which has two items: then it starts again
    ∷ row (over (over (leaf (recurs 5)) collect_all) (reset_when SizeOf (test Eq 2))) exact_driver 9
    (cut 9 10 None 0 (Some 0) None None)
    -- with a most: six attempts of 5000 ms, and waits of 3100 ms
    ∷ row (doubling 5) (lasting 1 5000) 20
    (bounds 6 6 (Some 6) 1600 (Some 1600) (Some 3100) (Some 33100))
    -- Waits of 400 ms. The second to sixth attempts end 401 to 410, .., 2005 to 2050 ms after the
    -- first. So the sixth is the last, and the fifth isn't.
    ∷ row two_seconds (lasting 1 10) 20 (bounds 6 6 (Some 6) 400 (Some 400) (Some 2000) (Some 2060))
    -- Attempts of 500 ms: 900, 1800 and 2700 ms after the first.
    ∷ row two_seconds (lasting 500 500) 20
    (bounds 4 4 (Some 4) 400 (Some 400) (Some 1200) (Some 3200))
    -- an attempt takes 1 ms at least
    ∷ row two_seconds (lasting 0 10) 20 (bounds 6 6 (Some 6) 400 (Some 400) (Some 2000) (Some 2060))
    -- there may be more attempts than were looked at
    ∷ row (leaf forever) (lasting 1 5000) 5 (cut 5 6 None 0 (Some 0) None None)
    -- a run over the greatest number
    ∷ row (leaf (recurs 2)) (lasting 1 9223372036854775808) 5
    (bounds 3 3 (Some 3) 0 (Some 0) (Some 0) None)
    -- A limit of the time since the first step: one that goes on is at most 1999 ms after it. So
    -- the last attempt ends at most 5000 + 1999 + 400 + 5000 ms after the begin of the first.
    ∷ row two_seconds (lasting 1 5000) 20
    (bounds 6 2 (Some 6) 400 (Some 400) (Some 2000) (Some 12399))
    -- Waits of 10 ms at most, and the tenth step is 19 ms after the first at the least. The second
    -- step is 11 ms after it, and before the third are waits of at most 17 ms, since two attempts
    -- are too.
    ∷ row (two both (leaf (fixed 10)) (while (leaf elapsed) Lt 20)) exact_driver 20
    (bounds 11 2 (Some 11) 10 (Some 10) (Some 27) None)
    -- An hour with waits of at most 5 s, of which three steps are looked at: all waits are at most
    -- 3599999 + 5000 ms, and the run has two attempts more. Before a step that goes on are at most
    -- 3599999 attempts of 1 ms.
    ∷ row (two both capped (while (leaf elapsed) Lt 3600000)) (lasting 1 5000) 3
    (cut 3 4 (Some 3600001) 400 (Some 5000) (Some 3604999) (Some 3614999))
    -- Full jitter: waits of 0 to 400 ms. A step that goes on is at most 1999 ms after the first, so
    -- all waits are at most 1999 ms less an attempt for each, and 400 ms more: the sixth step is
    -- the first with 2000 ms of the longest waits before it.
    ∷ row (two both two_seconds (leaf (recurs 9))) (waiting (percents 0 100)) 20
    (bounds 10 6 (Some 10) 400 (Some 400) (Some 2394) (Some 2419))
    -- 20 % of jitter: waits of 320 to 480 ms. After seven of 320 ms and attempts of 1 ms, the
    -- eighth step is 2247 ms after the first; the seventh, 1926 ms after it, may go on.
    ∷ row two_seconds (waiting (percents 80 120)) 20
    (bounds 8 6 (Some 8) 480 (Some 480) (Some 2474) (Some 2499))
    -- A server may want 900 ms in place of waits of 100, 200 and 400 ms. Timers are at most 5 ms
    -- late.
    ∷ row (doubling 3) (waiting (record (percents 100 100) { asked = 900; late = 5 })) 20
    (bounds 4 4 (Some 4) 905 (Some 905) (Some 2715) (Some 2755))
    -- Waits of at most 1200 ms, and 5 ms more. Two steps are looked at, and each later wait is no
    -- longer.
    ∷ row (leaf (spaced 1000)) (waiting (record (percents 80 120) { late = 5 })) 2
    (cut 2 3 None 1205 (Some 1205) None None)
    -- after the two waits that are looked at, each is twice the one before
    ∷ row (leaf (exponential 100 2)) exact_driver 2 (cut 2 3 None 200 None None None)
    ∷ []

each_has_its_bounds : map (λ r. bounds_of r.schedule r.driver r.steps) rows
    ≡ map (λ r. r.bounds) rows
each_has_its_bounds = refl

-- attempts that begin within a time: of a schedule, a driver, a time and a number of steps
record Begin : Type 0 where
  schedule : Schedule
  driver : Driver
  time : ℕ
  steps : ℕ

abbrev begin : Schedule → Driver → ℕ → ℕ → Begin
begin s d time steps = record { schedule = s; driver = d; time = time; steps = steps }

abbrev begins : List (Begin × ℕ)
begins =
    -- one each 1001 ms or later: 0, 1001, .., 9009
    (begin (leaf (spaced 1000)) exact_driver 10000 20, 10)
    -- after three steps each attempt counts as one of 1 ms without a wait
    ∷ (begin (leaf (spaced 1000)) exact_driver 10000 3, 10001)
    -- four attempts at all, each one of 1 ms or more
    ∷ (begin (leaf (recurs 3)) exact_driver 100 20, 4)
    ∷ (begin (leaf (recurs 3)) exact_driver 2 20, 3)
    -- waits of 80 ms or more and attempts of 20 ms or more: the eleventh begins after 1000 ms
    ∷ (
      begin (leaf (spaced 100)) (record (waiting (percents 80 120)) { least = 20; most = Some 30 })
          1000 20,
      11,
    )
    ∷ (
      begin (leaf (spaced 100)) (record (waiting (percents 80 120)) { least = 20; most = Some 30 })
          999 20,
      10,
    )
    ∷ []

each_begins_within : map (λ row. within_of row.0.schedule row.0.driver row.0.time
    row.0.steps) begins
    ≡ map (λ row. row.1) begins
each_begins_within = refl

-- schedules, each with a limit of the time up to a step that goes on, with attempts of at most 900
-- ms
abbrev limited : List (Schedule × Option ℕ)
limited =
    -- a limit in each part: the later one counts
    (two either two_seconds (while (leaf elapsed) Le 3000), Some 3000)
    -- the time of a part that has been reset isn't that since the first step
    ∷ (while (over (leaf elapsed) (reset_when Whole (test Ge 5))) Lt 9, None)
    -- the time in the first part of a pair, of which a function takes the first part
    ∷ (while (over (two both (leaf elapsed) (leaf (spaced 10))) (mapped First)) Eq 7, Some 7)
    -- The first part goes on up to 1999 ms, so it is done 400 + 900 ms later at the latest. The
    -- second one goes on up to 5000 ms after that.
    ∷ (two and_then two_seconds (while (leaf elapsed) Le 5000), Some 8299)
    -- beside it is a wait of 600 ms, so that is done 600 + 900 ms later
    ∷ (
      two both (two and_then two_seconds (while (leaf elapsed) Le 5000)) (leaf (spaced 600)),
      Some 8499,
    )
    -- nothing limits the second part
    ∷ (two and_then two_seconds (leaf (spaced 1000)), None)
    ∷ []

each_has_its_latest_step : map (λ row. latest_of row.0 (lasting 1 900)) limited
    ≡ map (λ row. row.1) limited
each_has_its_latest_step = refl

-- of two parts that may stop, the later one counts
longest_of_either : wait_limit
    (two either (leaf (recurs 3)) (two both (leaf (spaced 70)) (leaf (recurs 2)))) ≡ Some 70
longest_of_either = refl

-- a third of 100 ms, between 33 and 34 ms
rounded_outwards : real_waits (percents 33 33) (Some (span 101 101)) ≡ Some (span 33 34)
rounded_outwards = refl

-- schedules, and whether they are without an end
abbrev endless : List (Schedule × Bool)
endless =
    (two both (leaf (spaced 1000)) (leaf (recurs 2)), false)
    ∷ (two either (leaf (spaced 1000)) (leaf (recurs 2)), true)
    -- the second part goes on after the first one is done
    ∷ (over (two and_then (leaf (recurs 2)) (leaf (spaced 1000))) collect_all, true)
    ∷ []

each_never_stops_or_may : map (λ row. never_stops row.0) endless ≡ map (λ row. row.1) endless
each_never_stops_or_may = refl
