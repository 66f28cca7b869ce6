-- Worked examples of plans. They are proved by computing the definitions.
use Rattle.std.proofs.Common.{◌≡◌, ℕ, Option, Some, None, List, [], ◌∷◌, map, refl}
use Rattle.zs_step.specs.declared.decision.Decision.{Decision}
use Rattle.zs_step.specs.declared.decision.Decision.TheVariants.{Stop, Next}
use Rattle.zs_c.specs.declared.turn.Turn.{Turn}
use Rattle.zs_c.specs.Plan.{moment_of, plan_of}

-- an attempt from one nanosecond to another, without jitter and least wait
abbrev ran : ℕ → ℕ → Turn
ran began ended =
    record {
      size = 56;
      began = began;
      ended = ended;
      input = 7;
      least = 0;
      longest = 0;
      percent = 0;
      draw = 0;
    }

-- an attempt of 5.9 milliseconds, with a least wait and the longest one, or with jitter and a draw
abbrev asked : ℕ → ℕ → Turn
asked least longest =
    record {
      size = 56;
      began = 0;
      ended = 5900000;
      input = 7;
      least = least;
      longest = longest;
      percent = 0;
      draw = 0;
    }

abbrev drawn : ℕ → ℕ → Turn
drawn percent draw =
    record {
      size = 56;
      began = 0;
      ended = 5900000;
      input = 7;
      least = 0;
      longest = 0;
      percent = percent;
      draw = draw;
    }

-- half of all draws, and the greatest one
abbrev half : ℕ
half = 2147483648

abbrev greatest : ℕ
greatest = 4294967295

-- the greatest number of 64 bits
abbrev limit : ℕ
limit = 18446744073709551615

-- a planned begin in milliseconds, a turn, and what the schedule decides; beside it the moment of
-- the step, and the plan
abbrev Row : Type 0
Row = (ℕ × Turn × Decision) × (ℕ × Option ℕ)

abbrev planned : List Row
planned =
    -- the schedule waits for 30 ms from 5 ms on, of which 0.9 ms have passed
    ((0, ran 0 5900000, Next 35), (5, Some 35000000))
    -- an attempt that takes no time counts as one of 1 ms
    ∷ ((0, ran 0 0, Next 31), (1, Some 31000000))
    -- the schedule is done
    ∷ ((0, ran 0 5900000, Stop), (5, None))
    -- half of 50 percent is a quarter of 30 ms
    ∷ ((0, drawn 50 half, Next 35), (5, Some 28400000))
    -- all but a nanosecond of the wait; more than 100 percent count as 100
    ∷ ((0, drawn 100 greatest, Next 35), (5, Some 5900001))
    ∷ ((0, drawn 250 greatest, Next 35), (5, Some 5900001))
    ∷ ((0, drawn 50 0, Next 35), (5, Some 35000000))
    -- an attempt that jitter let begin early, and that failed at once, counts as one of 1 ms
    ∷ ((28, ran 28400000 28400000, Next 59), (29, Some 59000000))
    -- the clock fell in the attempt, or before it began
    ∷ ((35, ran 40000000 10000000, Next 70), (40, Some 70000000))
    ∷ ((35, ran 10000000 20000000, Next 66), (36, Some 66000000))
    -- a least wait that is longer than the schedule's, and a shorter one
    ∷ ((0, asked 100 1000, Next 35), (5, Some 105900000))
    ∷ ((0, asked 20 1000, Next 35), (5, Some 35000000))
    -- of a least wait that is too long the longest counts; if that is 0, none does
    ∷ ((0, asked 99999999999 60000, Next 35), (5, Some 60005900000))
    ∷ ((0, asked 100 0, Next 35), (5, Some 35000000))
    -- the last nanosecond of the clock, and a begin after it
    ∷ ((0, ran limit 0, Next 18446744073709), (18446744073709, Some limit))
    ∷ ((0, ran limit 0, Next 18446744073710), (18446744073709, None))
    -- after the last planned begin there is no other
    ∷ ((18446744073709, ran 0 0, Next 18446744073710), (18446744073710, None))
    ∷ ((limit, ran 0 0, Next limit), (limit, None))
    -- the longest wait of all, and what the greatest draw leaves of it: 49.7 days
    ∷ ((0, drawn 0 0, Next limit), (5, None))
    ∷ ((0, drawn 100 greatest, Next limit), (5, Some 4294967301900000))
    ∷ []

-- the moment of a row's step, and its plan
abbrev plan : Row → ℕ × Option ℕ
plan row =
    let moment = moment_of row.0.0 row.0.1 in
    (moment, plan_of row.0.1 moment row.0.2)

each_is_planned : map plan planned ≡ map (λ row. row.1) planned
each_is_planned = refl
