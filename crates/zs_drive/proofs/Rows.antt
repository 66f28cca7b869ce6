-- Worked examples, by computing: the timeline of a job on a clock, and the moments of its polls.
use Rattle.std.proofs.Common.{◌≡◌, ℕ, zero, suc, List, [], ◌∷◌, map, refl}
use Rattle.std.specs.Prelude.{Some, None}
use Rattle.zs_effect.specs.declared.script.Beat.{Beat}
use Rattle.zs_effect.specs.declared.script.Outcome.{Outcome}
use Rattle.zs_effect.specs.declared.script.Outcome.TheVariants.{Good, Bad}
use Rattle.zs_term.specs.Output.{Output, number, pair, left, right, listed, none, more}
use Rattle.zs_term.specs.Schedule.{Schedule, leaf, two, over, recurs, spaced, fixed, exponential}
use Rattle.zs_term.specs.Schedule.{identity, both, either, and_then, while_input, collect_all}
use Rattle.zs_term.specs.Saturating.{max_moment}
use Rattle.zs_term.specs.declared.term.Test.{Test}
use Rattle.zs_term.specs.declared.term.Cmp.TheVariants.{Lt, Eq}
use Rattle.zs_step.specs.declared.decision.Decision.{Decision}
use Rattle.zs_step.specs.declared.decision.Decision.TheVariants.{Stop, Next}
use Rattle.zs_step.specs.Answer.{answer}
use Rattle.zs_drive.specs.declared.job.Mode.{Mode}
use Rattle.zs_drive.specs.declared.job.Mode.TheVariants.{Retry, Repeat}
use Rattle.zs_drive.specs.declared.record.Ending.{Ending}
use Rattle.zs_drive.specs.declared.record.Ending.TheVariants.{Succeeded, Failed, Finished}
use Rattle.zs_drive.specs.Clocks.{first_tick_from}
use Rattle.zs_drive.specs.Values.{JobRecord, AttemptedValue}
use Rattle.zs_drive.specs.Recorded.{runs}
use Rattle.zs_drive.specs.Timeline.{Timeline, timeline_of, from, from_begin, from_wait, by_outcome}
use Rattle.zs_drive.specs.Timeline.{by_answer, poll_moments}
use Rattle.zs_drive.specs.DriverLaws.{polls_on}

-- n ticks, from b on
abbrev ticks_from : ℕ → ℕ → List ℕ
ticks_from b zero = []
ticks_from b (suc n) = b ∷ ticks_from (suc b) n

-- a tick at each moment up to a horizon
abbrev every_ms : ℕ → List ℕ
every_ms h = ticks_from 0 (suc h)

-- a job that starts at a moment, or at 0
abbrev job_from : ℕ → Mode → Schedule → List Beat → JobRecord
job_from start mode schedule script =
    record { name = []; mode = mode; schedule = schedule; start = start; script = script }

abbrev job : Mode → Schedule → List Beat → JobRecord
job = job_from 0

abbrev good : ℕ → ℕ → Beat
good ms value = record { ms = ms; outcome = Good value }

abbrev bad : ℕ → ℕ → Beat
bad ms code = record { ms = ms; outcome = Bad code }

-- an attempt whose outcome ended the job
abbrev last : ℕ → ℕ → Outcome → AttemptedValue
last s e outcome =
    record { begun = s; ended = Some (record { at = e; outcome = outcome; step = None }) }

-- an attempt with the schedule's result
abbrev asked : ℕ → ℕ → Outcome → Output → Decision → AttemptedValue
asked s e outcome output decision = record {
  begun = s;
  ended = Some (record { at = e; outcome = outcome; step = Some (answer output decision) });
}

-- a job that continues, and one that has ended
abbrev going : List AttemptedValue → ℕ → Timeline
going attempts due = record { attempts = attempts; due = Some due; ending = None }

abbrev closed : List AttemptedValue → Ending → Timeline
closed attempts ending = record { attempts = attempts; due = None; ending = Some ending }

-- an output of two numbers
abbrev nums : ℕ → ℕ → Output
nums a b = pair (number a) (number b)

-- tests by a number
abbrev lt : ℕ → Test
lt n = record { cmp = Lt; than = n }

abbrev eq : ℕ → Test
eq n = record { cmp = Eq; than = n }

-- a job on a clock, its timeline, and the moments at which it is polled
record Row : Type 0 where
  job : JobRecord
  ticks : List ℕ
  timeline : Timeline
  polls : List ℕ

abbrev row : JobRecord → List ℕ → Timeline → List ℕ → Row
row job ticks timeline polls = record {
  job = job;
  ticks = ticks;
  timeline = timeline;
  polls = polls;
}

abbrev rows : List Row
rows =
    -- a retry ends with the first success; the end and the restart at 5 are one poll
    row (job Retry (leaf (recurs 3)) (bad 5 7 ∷ good 5 1 ∷ [])) (every_ms 1000)
    (closed (asked 0 5 (Bad 7) (number 0) (Next 5) ∷ last 5 10 (Good 1) ∷ []) (Succeeded 1))
    (0 ∷ 5 ∷ 10 ∷ [])
    -- a repeat ends with its schedule's output
    ∷ row (job Repeat (leaf (recurs 0)) (good 3 9 ∷ [])) (every_ms 1000)
    (closed (asked 0 3 (Good 9) (number 0) Stop ∷ []) Finished) (0 ∷ 3 ∷ [])
    -- delays grow, and a part that stops ends both; a retry ends with the last error
    ∷ row (job Retry (two both (leaf (exponential 10 2)) (leaf (recurs 3))) (bad 1 1 ∷ []))
    (every_ms 1000)
    (closed (asked 0 1 (Bad 1) (nums 10 0) (Next 11)
    ∷ asked 11 12 (Bad 1) (nums 20 1) (Next 32) ∷ asked 32 33 (Bad 1) (nums 40 2) (Next 73)
    ∷ asked 73 74 (Bad 1) (nums 80 3) Stop ∷ []) (Failed 1))
    (0 ∷ 1 ∷ 11 ∷ 12 ∷ 32 ∷ 33 ∷ 73 ∷ 74 ∷ [])
    -- a fixed period that is late continues at once, and then follows its boundaries again
    ∷ row (job Repeat (leaf (fixed 100)) (good 50 1 ∷ good 250 1 ∷ good 10 1 ∷ good 10 1 ∷ []))
    (every_ms 500)
    (going (asked 0 50 (Good 1) (number 0) (Next 150)
    ∷ asked 150 400 (Good 1) (number 1) (Next 400)
    ∷ asked 400 410 (Good 1) (number 2) (Next 450)
    ∷ asked 450 460 (Good 1) (number 3) (Next 550) ∷ []) 550)
    (0 ∷ 50 ∷ 150 ∷ 400 ∷ 410 ∷ 450 ∷ 460 ∷ [])
    -- an end on a boundary waits for the next one
    ∷ row (job Repeat (leaf (fixed 100)) (good 50 1 ∷ good 100 1 ∷ [])) (every_ms 300)
    (going (asked 0 50 (Good 1) (number 0) (Next 150)
    ∷ asked 150 250 (Good 1) (number 1) (Next 350) ∷ []) 350) (0 ∷ 50 ∷ 150 ∷ 250 ∷ [])
    -- a part that stopped continues again, and the last attempt begins at the horizon
    ∷ row (job Repeat (two either (over (leaf identity) (while_input (eq 0))) (leaf (recurs 3)))
    (good 1 0 ∷ good 1 1 ∷ good 1 0 ∷ []))
    (every_ms 4)
    (going (asked 0 1 (Good 0) (nums 0 0) (Next 1) ∷ asked 1 2 (Good 1) (nums 1 1) (Next 2)
    ∷ asked 2 3 (Good 0) (nums 0 2) (Next 3) ∷ asked 3 4 (Good 0) (nums 0 3) (Next 4) ∷ runs 4
    ∷ []) 5) (0 ∷ 1 ∷ 2 ∷ 3 ∷ 4 ∷ [])
    -- the output of the last step is not collected
    ∷ row (job Repeat (over (over (leaf identity) (while_input (lt 3))) collect_all)
    (good 1 1 ∷ good 1 2 ∷ good 1 3 ∷ []))
    (every_ms 1000)
    (closed (asked 0 1 (Good 1) (listed none) (Next 1)
    ∷ asked 1 2 (Good 2) (listed (more (number 1) none)) (Next 2)
    ∷ asked 2 3 (Good 3) (listed (more (number 1) (more (number 2) none))) Stop ∷ []) Finished)
    (0 ∷ 1 ∷ 2 ∷ 3 ∷ [])
    -- an attempt runs at the horizon
    ∷ row (job Repeat (leaf (spaced 10)) (good 4 1 ∷ [])) (every_ms 16)
    (going (asked 0 4 (Good 1) (number 0) (Next 14) ∷ runs 14 ∷ []) 18) (0 ∷ 4 ∷ 14 ∷ [])
    -- an end at the horizon counts
    ∷ row (job Repeat (leaf (spaced 10)) (good 4 1 ∷ [])) (every_ms 18)
    (going (asked 0 4 (Good 1) (number 0) (Next 14) ∷ asked 14 18 (Good 1) (number 1) (Next 28)
    ∷ []) 28) (0 ∷ 4 ∷ 14 ∷ 18 ∷ [])
    -- a delay saturates, and the earlier of two moments counts
    ∷ row (job Repeat (two either (leaf (exponential 1 4294967296)) (leaf (spaced 1)))
    (good 1 0 ∷ []))
    (every_ms 5)
    (going (asked 0 1 (Good 0) (nums 1 0) (Next 2)
    ∷ asked 2 3 (Good 0) (nums 4294967296 1) (Next 4)
    ∷ asked 4 5 (Good 0) (nums max_moment 2) (Next 6) ∷ []) 6) (0 ∷ 1 ∷ 2 ∷ 3 ∷ 4 ∷ 5 ∷ [])
    -- the second schedule steps in the poll in which the first is done
    ∷ row (job Repeat (two and_then (leaf (recurs 2)) (leaf (recurs 1))) (good 1 5 ∷ []))
    (every_ms 1000)
    (closed (asked 0 1 (Good 5) (left (number 0)) (Next 1)
    ∷ asked 1 2 (Good 5) (left (number 1)) (Next 2)
    ∷ asked 2 3 (Good 5) (right (number 0)) (Next 3)
    ∷ asked 3 4 (Good 5) (right (number 1)) Stop ∷ []) Finished) (0 ∷ 1 ∷ 2 ∷ 3 ∷ 4 ∷ [])
    -- a failure ends a repeat, and the schedule is not stepped
    ∷ row (job Repeat (leaf (recurs 5)) (good 2 1 ∷ bad 2 4 ∷ [])) (every_ms 1000)
    (closed (asked 0 2 (Good 1) (number 0) (Next 2) ∷ last 2 4 (Bad 4) ∷ []) (Failed 4))
    (0 ∷ 2 ∷ 4 ∷ [])
    -- a script of three entries continues with its last one
    ∷ row (job Retry (leaf (recurs 3)) (bad 1 11 ∷ bad 2 12 ∷ bad 3 13 ∷ [])) (every_ms 1000)
    (closed (asked 0 1 (Bad 11) (number 0) (Next 1) ∷ asked 1 3 (Bad 12) (number 1) (Next 3)
    ∷ asked 3 6 (Bad 13) (number 2) (Next 6) ∷ asked 6 9 (Bad 13) (number 3) Stop
    ∷ []) (Failed 13)) (0 ∷ 1 ∷ 3 ∷ 6 ∷ 9 ∷ [])
    -- an end that saturates is never reached
    ∷ row (job_from 3 Repeat (leaf (spaced 0)) (good 2 4 ∷ good max_moment 9 ∷ [])) (every_ms 20)
    (going (asked 3 5 (Good 4) (number 0) (Next 5) ∷ runs 5 ∷ []) max_moment) (3 ∷ 5 ∷ [])
    -- a start after the horizon
    ∷ row (job_from 2000 Retry (leaf (recurs 3)) (bad 5 7 ∷ good 5 1 ∷ [])) (every_ms 1000)
    (going [] 2000) []
    -- a start at the horizon
    ∷ row (job_from 20 Repeat (leaf (spaced 1)) (good 1 4 ∷ [])) (every_ms 20)
    (going (runs 20 ∷ []) 21) (20 ∷ [])
    -- a clock without ticks
    ∷ row (job_from 21 Repeat (leaf (spaced 1)) (good 1 4 ∷ [])) []
    (going [] 21) []
    -- an end and a restart at the last tick
    ∷ row (job Retry (leaf (recurs 1)) (bad 1 4 ∷ [])) (every_ms 1)
    (going (asked 0 1 (Bad 4) (number 0) (Next 1) ∷ runs 1 ∷ []) 2) (0 ∷ 1 ∷ [])
    -- ticks with gaps between them: attempts end late
    ∷ row (job Retry (leaf (recurs 3)) (bad 5 7 ∷ good 5 1 ∷ [])) (0 ∷ 8 ∷ 20 ∷ 40 ∷ [])
    (closed (asked 0 8 (Bad 7) (number 0) (Next 8) ∷ last 8 20 (Good 1) ∷ []) (Succeeded 1))
    (0 ∷ 8 ∷ 20 ∷ [])
    -- a first tick after the start
    ∷ row (job Retry (leaf (recurs 3)) (bad 5 7 ∷ good 5 1 ∷ [])) (3 ∷ 10 ∷ [])
    (going (asked 3 10 (Bad 7) (number 0) (Next 10) ∷ runs 10 ∷ []) 15) (3 ∷ 10 ∷ [])
    -- the attempt begins at the first tick after the schedule's moment
    ∷ row (job Repeat (leaf (spaced 10)) (good 4 1 ∷ [])) (0 ∷ 5 ∷ 16 ∷ 30 ∷ [])
    (going (asked 0 5 (Good 1) (number 0) (Next 15) ∷ asked 16 30 (Good 1) (number 1) (Next 40)
    ∷ []) 40) (0 ∷ 5 ∷ 16 ∷ 30 ∷ [])
    -- polled by hand, late each time
    ∷ row (job Retry (leaf (recurs 3)) (bad 5 7 ∷ good 5 1 ∷ [])) (2 ∷ 11 ∷ [])
    (going (asked 2 11 (Bad 7) (number 0) (Next 11) ∷ runs 11 ∷ []) 16) (2 ∷ 11 ∷ [])
    ∷ []

each_has_its_timeline : map (λ r. timeline_of r.job r.ticks) rows ≡ map (λ r. r.timeline) rows
unfolding timeline_of from from_begin from_wait by_outcome by_answer first_tick_from
each_has_its_timeline = refl

each_has_its_polls : map (λ r. polls_on r.job r.ticks) rows ≡ map (λ r. r.polls) rows
unfolding timeline_of from from_begin from_wait by_outcome by_answer first_tick_from poll_moments
each_has_its_polls = refl
