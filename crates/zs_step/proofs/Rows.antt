-- Worked examples of results and visits. Each is proved by computing the definitions.
use Rattle.std.proofs.Common.{◌≡◌, ℕ, List, [], ◌∷◌, map, refl}
use Rattle.std.specs.Prelude.{reverse}
use Rattle.zs_term.specs.Output.{Output, number, pair, left, right, listed, none, more}
use Rattle.zs_term.specs.Schedule.{Schedule, leaf, two, over, forever, recurs, spaced, fixed}
use Rattle.zs_term.specs.Schedule.{exponential, fibonacci, identity, elapsed, both, either}
use Rattle.zs_term.specs.Schedule.{and_then, while_input, while_output, collect_all, mapped, linear}
use Rattle.zs_term.specs.Schedule.{windowed, reset_when}
use Rattle.zs_term.specs.Saturating.{max_moment}
use Rattle.zs_term.specs.declared.term.Test.{Test}
use Rattle.zs_term.specs.declared.term.Cmp.TheVariants.{Lt, Eq, Ge}
use Rattle.zs_term.specs.declared.term.Pick.TheVariants.{Whole, Second as SecondPart}
use Rattle.zs_term.specs.declared.term.Pick.TheVariants.{Size as SizeOf}
use Rattle.zs_term.specs.declared.term.Func.TheVariants.{Merge, Add, Mul}
use Rattle.zs_step.specs.declared.decision.Decision.TheVariants.{Stop, Next}
use Rattle.zs_step.specs.History.{History, history_of}
use Rattle.zs_step.specs.Answer.{Answer, answer, answer_of}
use Rattle.zs_step.specs.Visits.{visits}

-- the results after each step of a history, newest first
abbrev answers_back : Schedule → History → List Answer
answers_back t [] = []
answers_back t (p ∷ h) = answer_of t (p ∷ h) ∷ answers_back t h

-- the results after each pair of a list, oldest first
abbrev answers : Schedule → List (ℕ × ℕ) → List Answer
answers t h = reverse (answers_back t (history_of h))

-- the visits of each step of a history, newest first
abbrev visits_back : Schedule → History → List ℕ
visits_back t [] = []
visits_back t (p ∷ h) = visits t (p ∷ h) ∷ visits_back t h

-- the visits of each step of a list of pairs, oldest first
abbrev visits_each : Schedule → List (ℕ × ℕ) → List ℕ
visits_each t h = reverse (visits_back t (history_of h))

-- a number, and a moment at which the schedule continues
abbrev num : ℕ → ℕ → Answer
num n x = answer (number n) (Next x)

-- a pair of numbers
abbrev nums : ℕ → ℕ → Output
nums a b = pair (number a) (number b)

-- a pair of numbers, and a moment at which the schedule continues
abbrev both_at : ℕ → ℕ → ℕ → Answer
both_at a b x = answer (nums a b) (Next x)

-- half of all numbers of 64 bits
abbrev half : ℕ
half = 9223372036854775808

-- tests by a number
abbrev lt : ℕ → Test
lt n = record { cmp = Lt; than = n }

abbrev eq : ℕ → Test
eq n = record { cmp = Eq; than = n }

abbrev ge : ℕ → Test
ge n = record { cmp = Ge; than = n }

-- histories, oldest first
abbrev three : List (ℕ × ℕ)
three = (5, 0) ∷ (5, 1) ∷ (9, 0) ∷ []

abbrev two_steps : List (ℕ × ℕ)
two_steps = (1, 0) ∷ (2, 0) ∷ []

abbrev four_fives : List (ℕ × ℕ)
four_fives = (1, 5) ∷ (2, 5) ∷ (3, 5) ∷ (4, 5) ∷ []

abbrev four_zeros : List (ℕ × ℕ)
four_zeros = (1, 0) ∷ (2, 0) ∷ (3, 0) ∷ (4, 0) ∷ []

abbrev three_apart : List (ℕ × ℕ)
three_apart = (0, 0) ∷ (3, 0) ∷ (6, 0) ∷ (8, 0) ∷ []

abbrev five : List (ℕ × ℕ)
five = (0, 0) ∷ (1, 0) ∷ (2, 0) ∷ (5, 0) ∷ (6, 0) ∷ []

-- schedules
abbrev collected_schedule : Schedule
collected_schedule = over (over (leaf identity) (while_input (lt 3))) collect_all

abbrev nested_reset : Schedule
nested_reset =
    over (two both (over (leaf (recurs 9)) (reset_when Whole (eq 2))) (leaf elapsed))
    (reset_when SecondPart (ge 5))

-- schedules, each with a history and the results of its steps
abbrev answered : List (Schedule × (List (ℕ × ℕ) × List Answer))
answered =
    (leaf forever, (three, num 0 5 ∷ num 1 5 ∷ num 2 9 ∷ []))  -- forever counts
    -- recurs allows its number of runs
    ∷ (leaf (recurs 2), (three, num 0 5 ∷ num 1 5 ∷ answer (number 2) Stop ∷ []))
    ∷ (leaf identity, (three, num 0 5 ∷ num 1 5 ∷ num 0 9 ∷ []))  -- identity returns the input
    ∷ (leaf elapsed, (three, num 0 5 ∷ num 0 5 ∷ num 4 9 ∷ []))  -- elapsed at equal moments
    ∷ (leaf (fibonacci 10), (three, num 10 15 ∷ num 10 15 ∷ num 20 29 ∷ []))  -- fibonacci delays
    ∷ (leaf (fixed 0), (three, num 0 5 ∷ num 1 5 ∷ num 2 9 ∷ []))  -- fixed with no period
    -- spaced up to the last moment
    ∷ (
      leaf (spaced max_moment),
      (three, num 0 max_moment ∷ num 1 max_moment ∷ num 2 max_moment ∷ []),
    )
    -- fixed running late
    ∷ (
      leaf (fixed 100),
      (
        (50, 1) ∷ (400, 1) ∷ (410, 1) ∷ (460, 1) ∷ [],
        num 0 150 ∷ num 1 400 ∷ num 2 450 ∷ num 3 550 ∷ [],
      ),
    )
    -- fixed at the edge of a period
    ∷ (leaf (fixed 100), ((50, 1) ∷ (250, 1) ∷ [], num 0 150 ∷ num 1 350 ∷ []))
    -- fixed 1 ms after that
    ∷ (leaf (fixed 100), ((50, 1) ∷ (251, 1) ∷ [], num 0 150 ∷ num 1 251 ∷ []))
    ∷ (leaf (spaced 10), ((4, 1) ∷ (18, 1) ∷ [], num 0 14 ∷ num 1 28 ∷ []))  -- spaced waits
    -- linear delays
    ∷ (
      leaf (linear 10),
      (
        (1, 0) ∷ (12, 0) ∷ (33, 0) ∷ (64, 0) ∷ [],
        num 10 11 ∷ num 20 32 ∷ num 30 63 ∷ num 40 104 ∷ [],
      ),
    )
    -- windowed waits for the boundary
    ∷ (
      leaf (windowed 100),
      ((50, 1) ∷ (400, 1) ∷ (460, 1) ∷ [], num 0 150 ∷ num 1 450 ∷ num 2 550 ∷ []),
    )
    -- fixed is cut
    ∷ (leaf (fixed max_moment), (two_steps, num 0 max_moment ∷ num 1 max_moment ∷ []))
    -- exponential is cut
    ∷ (
      leaf (exponential half 2),
      (two_steps, num half 9223372036854775809 ∷ num max_moment max_moment ∷ []),
    )
    -- fibonacci is cut
    ∷ (
      leaf (fibonacci half),
      (
        (0, 0) ∷ (0, 0) ∷ (1, 0) ∷ [],
        num half half ∷ num half half ∷ num max_moment max_moment ∷ [],
      ),
    )
    -- linear is cut
    ∷ (
      leaf (linear half),
      (two_steps, num half 9223372036854775809 ∷ num max_moment max_moment ∷ []),
    )
    -- windowed is cut
    ∷ (leaf (windowed max_moment), (two_steps, num 0 max_moment ∷ num 1 max_moment ∷ []))
    -- added is cut
    ∷ (
      over (leaf forever) (mapped (Add max_moment)),
      (two_steps, num max_moment 1 ∷ num max_moment 2 ∷ []),
    )
    -- multiplied is cut
    ∷ (
      over (leaf (linear 2)) (mapped (Mul half)),
      (two_steps, num max_moment 3 ∷ num max_moment 6 ∷ []),
    )
    -- exponential and recurs
    ∷ (
      two both (leaf (exponential 10 2)) (leaf (recurs 3)),
      (
        (1, 1) ∷ (12, 1) ∷ (33, 1) ∷ (74, 1) ∷ [],
        both_at 10 0 11 ∷ both_at 20 1 32 ∷ both_at 40 2 73 ∷ answer (nums 80 3) Stop ∷ [],
      ),
    )
    -- a done part goes on again
    ∷ (
      two either (over (leaf identity) (while_input (eq 0))) (leaf (recurs 3)),
      (
        (1, 0) ∷ (2, 1) ∷ (3, 0) ∷ (4, 0) ∷ [],
        both_at 0 0 1 ∷ both_at 1 1 2 ∷ both_at 0 2 3 ∷ both_at 0 3 4 ∷ [],
      ),
    )
    -- exponential or spaced
    ∷ (
      two either (leaf (exponential 1 4294967296)) (leaf (spaced 1)),
      (
        (1, 0) ∷ (3, 0) ∷ (5, 0) ∷ [],
        both_at 1 0 2 ∷ both_at 4294967296 1 4 ∷ both_at max_moment 2 6 ∷ [],
      ),
    )
    -- second begins at the done step
    ∷ (
      two and_then (leaf (recurs 2)) (leaf (recurs 1)),
      (
        four_fives,
        answer (left (number 0)) (Next 1) ∷ answer (left (number 1)) (Next 2)
            ∷ answer (right (number 0)) (Next 3) ∷ answer (right (number 1)) Stop ∷ [],
      ),
    )
    -- second begins at once
    ∷ (
      two and_then (leaf (recurs 0)) (leaf (recurs 1)),
      (two_steps, answer (right (number 0)) (Next 1) ∷ answer (right (number 1)) Stop ∷ []),
    )
    -- the done step is not collected
    ∷ (
      collected_schedule,
      (
        (1, 1) ∷ (2, 2) ∷ (3, 3) ∷ [],
        answer (listed none) (Next 1) ∷ answer (listed (more (number 1) none)) (Next 2)
            ∷ answer (listed (more (number 1) (more (number 2) none))) Stop ∷ [],
      ),
    )
    -- a step after a done one is collected
    ∷ (
      over (over (leaf identity) (while_input (eq 0))) collect_all,
      (
        (1, 0) ∷ (2, 1) ∷ (3, 0) ∷ (4, 0) ∷ [],
        answer (listed none) (Next 1) ∷ answer (listed (more (number 0) none)) Stop
            ∷ answer (listed (more (number 0) none)) (Next 3)
            ∷ answer (listed (more (number 0) (more (number 0) none))) (Next 4) ∷ [],
      ),
    )
    -- size of a list is tested
    ∷ (
      over (over (leaf forever) collect_all) (while_output SizeOf (lt 1)),
      (
        two_steps,
        answer (listed none) (Next 1) ∷ answer (listed (more (number 0) none)) Stop ∷ [],
      ),
    )
    -- parts of a pair are tested
    ∷ (
      over (two both (leaf elapsed) (leaf identity)) (while_output SecondPart (eq 0)),
      ((1, 0) ∷ (4, 7) ∷ [], both_at 0 0 1 ∷ answer (nums 3 7) Stop ∷ []),
    )
    -- either side is merged
    ∷ (
      over (two and_then (leaf (recurs 1)) (leaf (linear 7))) (mapped Merge),
      (two_steps, num 0 1 ∷ num 7 9 ∷ []),
    )
    -- a reset begins anew
    ∷ (
      over (leaf (recurs 5)) (reset_when Whole (eq 2)),
      (four_zeros, num 0 1 ∷ num 1 2 ∷ num 0 3 ∷ num 1 4 ∷ []),
    )
    -- a reset forgets the first moment
    ∷ (
      over (leaf elapsed) (reset_when Whole (ge 5)),
      (three_apart, num 0 0 ∷ num 3 3 ∷ num 0 6 ∷ num 2 8 ∷ []),
    )
    -- the new result is not tested
    ∷ (over (leaf forever) (reset_when Whole (eq 0)), (two_steps, num 0 1 ∷ num 1 2 ∷ []))
    -- a reset inside another
    ∷ (
      nested_reset,
      (five, both_at 0 0 0 ∷ both_at 1 1 1 ∷ both_at 0 2 2 ∷ both_at 0 0 5 ∷ both_at 1 1 6 ∷ []),
    )
    -- a reset forgets the side
    ∷ (
      over (two both (two and_then (leaf (recurs 1)) (leaf forever)) (leaf forever))
          (reset_when SecondPart (eq 2)),
      (
        four_zeros,
        answer (pair (left (number 0)) (number 0)) (Next 1)
            ∷ answer (pair (right (number 0)) (number 1)) (Next 2)
            ∷ answer (pair (left (number 0)) (number 0)) (Next 3)
            ∷ answer (pair (right (number 0)) (number 1)) (Next 4) ∷ [],
      ),
    )
    -- a reset forgets the list
    ∷ (
      over (over (leaf identity) collect_all) (reset_when SizeOf (eq 2)),
      (
        (1, 7) ∷ (2, 8) ∷ (3, 9) ∷ (4, 6) ∷ [],
        answer (listed none) (Next 1) ∷ answer (listed (more (number 7) none)) (Next 2)
            ∷ answer (listed none) (Next 3) ∷ answer (listed (more (number 9) none)) (Next 4) ∷ [],
      ),
    )
    -- a reset forgets the delay
    ∷ (
      over (leaf (exponential 10 2)) (reset_when Whole (eq 40)),
      (four_zeros, num 10 11 ∷ num 20 22 ∷ num 10 13 ∷ num 20 24 ∷ []),
    )
    -- a reset forgets the run
    ∷ (
      over (leaf (fixed 10)) (reset_when Whole (eq 1)),
      ((0, 0) ∷ (3, 0) ∷ (14, 0) ∷ [], num 0 10 ∷ num 0 13 ∷ num 0 24 ∷ []),
    )
    ∷ []

each_is_answered : map (λ row. answers row.0 row.1.0) answered ≡ map (λ row. row.1.1) answered
each_is_answered = refl

-- schedules, each with a history and the visits of its steps
abbrev visited : List (Schedule × (List (ℕ × ℕ) × List ℕ))
visited =
    (leaf elapsed, (three, 1 ∷ 1 ∷ 1 ∷ []))  -- leaves are one visit
    -- second begins at the done step
    ∷ (two and_then (leaf (recurs 2)) (leaf (recurs 1)), (four_fives, 2 ∷ 2 ∷ 3 ∷ 2 ∷ []))
    -- the done step is not collected
    ∷ (collected_schedule, ((1, 1) ∷ (2, 2) ∷ (3, 3) ∷ [], 3 ∷ 3 ∷ 3 ∷ []))
    -- a reset begins anew
    ∷ (over (leaf (recurs 5)) (reset_when Whole (eq 2)), (four_zeros, 2 ∷ 2 ∷ 3 ∷ 2 ∷ []))
    -- a reset forgets the first moment
    ∷ (over (leaf elapsed) (reset_when Whole (ge 5)), (three_apart, 2 ∷ 2 ∷ 3 ∷ 2 ∷ []))
    -- the new result is not tested
    ∷ (over (leaf forever) (reset_when Whole (eq 0)), (two_steps, 3 ∷ 2 ∷ []))
    ∷ (nested_reset, (five, 5 ∷ 5 ∷ 6 ∷ 9 ∷ 5 ∷ []))  -- a reset inside another
    ∷ []

each_is_visited : map (λ row. visits_each row.0 row.1.0) visited ≡ map (λ row. row.1.1) visited
each_is_visited = refl
