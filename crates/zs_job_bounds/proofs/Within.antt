-- A job's attempts are within the bounds that hold for its schedule.
use Rattle.std.proofs.Common.{◌≡◌, ℕ, ◌+◌, ◌<◌, ◌≤◌, max, List, [], ◌∷◌, length, true, Option, refl, sym, ap, subst, arith}
use Rattle.std.specs.Prelude.{Some, None}
use Rattle.zs_term.specs.Saturating.{saturated}
use Rattle.zs_term.specs.Output.{Output}
use Rattle.zs_effect.specs.Scripts.{IsScript}
use Rattle.zs_step.specs.declared.decision.Decision.{Decision}
use Rattle.zs_step.specs.declared.decision.Decision.TheVariants.{Stop, Next}
use Rattle.zs_step.specs.History.{History}
use Rattle.zs_step.specs.Answer.{Answer, answer, answer_of, is_next}
use Rattle.zs_drive.specs.declared.record.Ending.{Ending}
use Rattle.zs_drive.specs.Clocks.{first_tick_from, AreTicks}
use Rattle.zs_drive.specs.Values.{JobRecord, AttemptedValue, EndedValue}
use Rattle.zs_drive.specs.Timeline.{timeline_of, beat_after, ending_by_outcome, ending_by_schedule}
use Rattle.zs_drive.specs.DriverRules.{pair_of}
use Rattle.zs_drive.proofs.Follows.{GoesOn, IsAsked, EndsAt, Follows}
use Rattle.zs_drive.proofs.Ticks.{lt_cases, first_tick_from-from, first_tick_from-before, AllBefore-none}
use Rattle.zs_bounds.specs.declared.driver.Driver.{Driver}
use Rattle.zs_bounds.specs.declared.told.Bounds.{Bounds}
use Rattle.zs_bounds.specs.Driven.{max_tick, IsAttempt, IsNeverEarly}
use Rattle.zs_bounds.proofs.ScheduleWaits.{bounds-waits}
use Rattle.zs_bounds.specs.Bounds.{wait_of, last_wait, total_wait, Promises}
use Rattle.zs_job_bounds.specs.Histories.{HasInputs, IsEndAfter, history_at}
use Rattle.zs_job_bounds.specs.JobBounds.{Takes, step_wait, end_wait, all_waits, IsWithin, EndsInTime}
use Rattle.zs_job_bounds.proofs.Histories.{LetsBegin, IsRunOf, IsDueAfter, due-from, lag, lag-by}
use Rattle.zs_job_bounds.proofs.Histories.{attempt-from, attempt-of, continues, driven-end, whole}
use Rattle.zs_job_bounds.proofs.Histories.{next-due, next-ends, known-end}

stop-lets : (d : Decision) (x : ℕ) → d ≡ Stop → LetsBegin d x → ⊥
stop-lets d x is lets = subst (λ e. LetsBegin e x) is lets

stop-next : (d : Decision) → d ≡ Stop → is_next d ≡ true → ⊥
stop-next Stop is next = cc
stop-next (Next x) is next = cc

-- a wait of at most l
wait-within : (m x l : ℕ) (d : Decision) → d ≡ Next x → wait_of m d ≤ l → x ≤ m + l
wait-within m x l Stop is le = absurd cc
wait-within m x l (Next y) is le = let same : y ≡ x = cc in omega (arith, same, le)

module _ (a : Driver) (job : JobRecord) (b : Bounds) (never : IsNeverEarly a.waits)
    (promises : Promises job.schedule a b) where
  -- an attempt that is due after a history has a number of at most `most`
  one-more : (k : ℕ) → b.most ≡ Some k → (h : History) (x : ℕ) → IsDueAfter a job h x → length h + 1 ≤ k
  one-more k is [] x due = promises.most k is ((0, 0) ∷ []) (record { tick = omega arith; input = omega arith })
  one-more k is (q ∷ h) x due =
      let few : length (q ∷ h) ≤ k = promises.most k is (q ∷ h) due.0.driven in
      lt_cases (length (q ∷ h)) k (λ _. length (q ∷ h) + 1 ≤ k) (λ l. omega (arith, l))
      (λ l.
      let last : length (q ∷ h) ≡ k = omega (arith, few, l) in
      absurd (stop-lets (answer_of job.schedule (q ∷ h)).decision x
      (promises.done k is (q ∷ h) due.0.driven last) due.1.0))

  -- the waits up to a history are within the total
  waits-fit : (t : ℕ) → b.total ≡ Some t → (h : History) (x : ℕ) → IsDueAfter a job h x → total_wait job.schedule h ≤ t
  waits-fit t is [] x due = omega arith
  waits-fit t is (q ∷ h) x due =
      (bounds-waits job.schedule a b never promises).total t is (q ∷ h) due.0.driven

  module _ (script : IsScript job.script) (inputs : HasInputs job.script) (ticks : List ℕ) (clock : AreTicks ticks) (takes : Takes a job ticks)
      (due : Option ℕ) (ending : Option Ending) where
    -- the number of attempts from one on, with those before, is at most `most`
    attempts-fit : (k : ℕ) → b.most ≡ Some k → (attempts : List AttemptedValue) (h : History) (x : ℕ) → IsDueAfter a job h x
        → Follows job ticks attempts due ending h x → length h + length attempts ≤ k
    attempts-fit k is [] h x begins follows = let more = one-more k is h x begins in omega (arith, more)
    attempts-fit k is (c ∷ []) h x begins follows = let more = one-more k is h x begins in omega (arith, more)
    attempts-fit k is (e ∷ (c ∷ later)) h x begins follows =
        let n = continues a job script inputs ticks clock takes due ending (c ∷ later) e h x (λ is. cc) begins follows in
        let rest = attempts-fit k is (c ∷ later) (pair_of n.end ∷ h) n.y n.due_after n.follows in omega (arith, rest)

    -- the waits of an attempt that ended, and of those after it, by the schedule's decision
    waits-by : (t : ℕ) → b.total ≡ Some t → (later : List AttemptedValue) (h : History) (end : EndedValue) (d : Decision)
        → IsRunOf a job (pair_of end ∷ h) → (answer_of job.schedule (pair_of end ∷ h)).decision ≡ d
        → end.step ≡ Some (answer_of job.schedule (pair_of end ∷ h))
        → ((g : History) (y : ℕ) → IsDueAfter a job g y → Follows job ticks later due ending g y → total_wait job.schedule g + all_waits later ≤ t)
        → GoesOn job ticks (Follows job ticks later due ending) h later due ending end d
        → total_wait job.schedule h + (end_wait (Some end) + all_waits later) ≤ t
    waits-by t is later h end Stop driven decides stepped again goes =
        let own : end_wait (Some end) ≡ last_wait job.schedule (pair_of end ∷ h) = ap (step_wait end.at) stepped in
        let all : last_wait job.schedule (pair_of end ∷ h) + total_wait job.schedule h ≤ t =
        (bounds-waits job.schedule a b never promises).total t is (pair_of end ∷ h)
        driven.driven in
        let none : all_waits later ≡ 0 = ap all_waits goes.0 in omega (arith, own, all, none)
    waits-by t is later h end (Next y) driven decides stepped again goes =
        let own : end_wait (Some end) ≡ last_wait job.schedule (pair_of end ∷ h) = ap (step_wait end.at) stepped in
        let begins : IsDueAfter a job (pair_of end ∷ h) (max y end.at) = next-due a job h (pair_of end) y (max y end.at) driven decides refl in
        let rest : last_wait job.schedule (pair_of end ∷ h) + total_wait job.schedule h + all_waits later ≤ t = again (pair_of end ∷ h) (max y end.at) begins goes in
        omega (arith, own, rest)

    waits-asked : (t : ℕ) → b.total ≡ Some t → (later : List AttemptedValue) (h : History) (x : ℕ) (end : EndedValue) (by : Option Ending)
        → IsDueAfter a job h x → IsRunOf a job (pair_of end ∷ h)
        → ((g : History) (y : ℕ) → IsDueAfter a job g y → Follows job ticks later due ending g y → total_wait job.schedule g + all_waits later ≤ t)
        → IsAsked job ticks (Follows job ticks later due ending) h later due ending end by
        → total_wait job.schedule h + (end_wait (Some end) + all_waits later) ≤ t
    waits-asked t is later h x end (Some e) begins driven again asked =
        let before : total_wait job.schedule h ≤ t = waits-fit t is h x begins in
        let own : end_wait (Some end) ≡ 0 = ap (step_wait end.at) asked.0 in
        let none : all_waits later ≡ 0 = ap all_waits asked.1 in omega (arith, before, own, none)
    waits-asked t is later h x end None begins driven again asked =
        waits-by t is later h end (answer_of job.schedule (pair_of end ∷ h)).decision driven refl asked.0 again asked.1

    waits-end : (t : ℕ) → b.total ≡ Some t → (later : List AttemptedValue) (h : History) (x s : ℕ) (ended : Option EndedValue)
        → IsDueAfter a job h x → first_tick_from ticks x ≡ Some s
        → ((g : History) (y : ℕ) → IsDueAfter a job g y → Follows job ticks later due ending g y → total_wait job.schedule g + all_waits later ≤ t)
        → EndsAt job ticks (Follows job ticks later due ending) h later due ending (saturated (s + (beat_after job h).ms)) ended
        → total_wait job.schedule h + (end_wait ended + all_waits later) ≤ t
    waits-end t is later h x s None begins begun again ends =
        let before : total_wait job.schedule h ≤ t = waits-fit t is h x begins in
        let none : all_waits later ≡ 0 = ap all_waits ends.1 in omega (arith, before, none)
    waits-end t is later h x s (Some end) begins begun again ends =
        let driven = driven-end a job script inputs ticks clock takes h x s end begins begun ends.0 ends.1 in
        waits-asked t is later h x end (ending_by_outcome job.mode end.outcome) begins driven again ends.2

    -- all waits from an attempt on are within the total, with those before it
    all-waits-fit : (t : ℕ) → b.total ≡ Some t → (attempts : List AttemptedValue) (h : History) (x : ℕ) → IsDueAfter a job h x
        → Follows job ticks attempts due ending h x → total_wait job.schedule h + all_waits attempts ≤ t
    unfolding Follows
    all-waits-fit t is [] h x begins follows = let before = waits-fit t is h x begins in omega (arith, before)
    all-waits-fit t is (c ∷ later) h x begins follows =
        waits-end t is later h x c.begun c.ended begins follows.0 (all-waits-fit t is later) follows.1

    -- ---- a clock that goes on to the end of a longest run

    -- there is a tick at or after a moment, if there is one later
    has-tick : (x y t : ℕ) → first_tick_from ticks y ≡ Some t → x ≤ y → first_tick_from ticks x ≡ None → ⊥
    has-tick x y t is le none =
        let before : t < x = first_tick_from-before ticks x y t (AllBefore-none ticks x none) is in
        let from : y ≤ t = first_tick_from-from ticks y t is in
        omega (arith, before, from, le)

    module _ (r t : ℕ) (is : b.longest_run ≡ Some r)
        (tick : first_tick_from ticks (job.start + a.waits.late + r) ≡ Some t) where
      -- the job has ended
      abbrev HasEnded : Type 0
      HasEnded = (e : Ending) × (ending ≡ Some e)

      -- an attempt that is due ends within the longest run
      ends-soon : (h : History) (x l m : ℕ) → IsDueAfter a job h x → l ≤ a.waits.late →
          x + l ≤ max x max_tick → IsAttempt a (x + l) m → m ≤ job.start + a.waits.late + r
      ends-soon h x l m due late by attempt =
          let next = next-ends a job h x l m never due late by attempt in
          let within = promises.next r is next.begun h m next.ends in
          let soon = next.soon in
          omega (arith, within, soon)

      over-by : (later : List AttemptedValue) (h : History) (end : EndedValue) (d : Decision) → IsRunOf a job (pair_of end ∷ h)
          → (answer_of job.schedule (pair_of end ∷ h)).decision ≡ d
          → ((g : History) (y : ℕ) → IsDueAfter a job g y → Follows job ticks later due ending g y → HasEnded)
          → GoesOn job ticks (Follows job ticks later due ending) h later due ending end d → HasEnded
      over-by later h end Stop driven decides again goes = (ending_by_schedule job.mode end.outcome, goes.2)
      over-by later h end (Next y) driven decides again goes =
          again (pair_of end ∷ h) (max y end.at) (next-due a job h (pair_of end) y (max y end.at) driven decides refl) goes

      over-asked : (later : List AttemptedValue) (h : History) (end : EndedValue) (by : Option Ending) → IsRunOf a job (pair_of end ∷ h)
          → ((g : History) (y : ℕ) → IsDueAfter a job g y → Follows job ticks later due ending g y → HasEnded)
          → IsAsked job ticks (Follows job ticks later due ending) h later due ending end by → HasEnded
      over-asked later h end (Some e) driven again asked = (e, asked.3)
      over-asked later h end None driven again asked =
          over-by later h end (answer_of job.schedule (pair_of end ∷ h)).decision driven refl again asked.1

      over-end : (later : List AttemptedValue) (h : History) (x s : ℕ) (ended : Option EndedValue) → IsDueAfter a job h x → first_tick_from ticks x ≡ Some s
          → ((g : History) (y : ℕ) → IsDueAfter a job g y → Follows job ticks later due ending g y → HasEnded)
          → EndsAt job ticks (Follows job ticks later due ending) h later due ending (saturated (s + (beat_after job h).ms)) ended → HasEnded
      over-end later h x s None begins begun again ends =
          let m : ℕ = s + (beat_after job h).ms in
          let attempt =
          attempt-of a job script inputs ticks clock takes h x s (due-from a job h x begins)
          begun in
          let by = lag-by a job script inputs ticks clock takes x s begun in
          let in_time = ends-soon h x (lag a x s) m begins (omega arith) by attempt in
          absurd (has-tick (saturated m) (job.start + a.waits.late + r) t tick
          (omega (arith, in_time)) ends.0)
      over-end later h x s (Some end) begins begun again ends =
          let driven = driven-end a job script inputs ticks clock takes h x s end begins begun ends.0 ends.1 in
          over-asked later h end (ending_by_outcome job.mode end.outcome) driven again ends.2

      -- no attempt is due or running
      all-over : (attempts : List AttemptedValue) (h : History) (x : ℕ) → IsDueAfter a job h x → Follows job ticks attempts due ending h x → HasEnded
      unfolding Follows
      all-over [] h x begins follows =
          let m : ℕ = x + (beat_after job h).ms in
          let attempt =
          attempt-from a job script inputs ticks clock takes h x x (omega arith)
          (λ k e. omega arith) in
          let in_time = ends-soon h x (lag a x x) m begins (omega arith) (omega arith) attempt in
          absurd (has-tick x (job.start + a.waits.late + r) t tick (omega (arith, in_time))
          follows.0)
      all-over (c ∷ later) h x begins follows = over-end later h x c.begun c.ended begins follows.0 (all-over later) follows.1

  -- ---- the timeline

  module _ (script : IsScript job.script) (inputs : HasInputs job.script) (ticks : List ℕ) (clock : AreTicks ticks) (takes : Takes a job ticks) where
    abbrev attempts : List AttemptedValue
    attempts = (timeline_of job ticks).attempts

    -- the schedule doesn't stop before `least`
    least-step : (earlier : List AttemptedValue) (end : EndedValue) (output : Output) → IsEndAfter attempts earlier end
        → end.step ≡ Some (answer output Stop) → b.least ≤ length earlier + 1
    least-step earlier end output e stepped =
        let known = known-end a job script inputs ticks clock takes earlier end e in
        let is : answer output Stop ≡ answer_of job.schedule (history_at earlier end) = known.stepped (answer output Stop) stepped in
        let stop : (answer_of job.schedule (history_at earlier end)).decision ≡ Stop = ap (λ (y : Answer). y.decision) (sym is) in
        lt_cases (length (history_at earlier end)) b.least (λ _. b.least ≤ length earlier + 1)
        (λ l. absurd
        (stop-next (answer_of job.schedule (history_at earlier end)).decision stop
        (promises.least (history_at earlier end) known.driven.driven l)))
        (λ l. let count = known.count in omega (arith, count, l))

    -- the next attempt is due at most `longest` later
    longest-step : (earlier : List AttemptedValue) (end : EndedValue) (output : Output) (x : ℕ) → IsEndAfter attempts earlier end
        → end.step ≡ Some (answer output (Next x)) → length earlier + 1 ≤ b.seen → x ≤ end.at + b.longest
    longest-step earlier end output x e stepped seen =
        let known = known-end a job script inputs ticks clock takes earlier end e in
        let is : answer output (Next x) ≡ answer_of job.schedule (history_at earlier end) = known.stepped (answer output (Next x)) stepped in
        let next : (answer_of job.schedule (history_at earlier end)).decision ≡ Next x = ap (λ (y : Answer). y.decision) (sym is) in
        let count : length (history_at earlier end) ≡ length earlier + 1 = known.count in
        wait-within end.at x b.longest (answer_of job.schedule (history_at earlier end)).decision next
        ((bounds-waits job.schedule a b never promises).longest (history_at earlier end)
        known.driven.driven (omega (arith, count, seen)))

    pub within-bounds : IsWithin b attempts
    within-bounds =
        let due = (timeline_of job ticks).due in
        let ending = (timeline_of job ticks).ending in
        let all = whole a job script inputs ticks clock takes in
        record {
          most = λ k is. let fit = attempts-fit script inputs ticks clock takes due ending k is attempts [] job.start refl all in omega (arith, fit);
          least = least-step;
          longest = longest-step;
          total = λ t is. let fit = all-waits-fit script inputs ticks clock takes due ending t is attempts [] job.start refl all in omega (arith, fit);
        }

    pub ends-in-time : EndsInTime b ticks (job.start + a.waits.late) attempts
        (timeline_of job ticks).ending
    ends-in-time = record {
      ends = λ r is earlier end e. (
          let known = known-end a job script inputs ticks clock takes earlier end e in
          let run = known.driven in
          let within = promises.run r is (history_at earlier end) run.driven run.begun run.first in
          let soon = run.soon in
          omega (arith, within, soon));
      over = λ r t is tick. all-over script inputs ticks clock takes (timeline_of job ticks).due (timeline_of job ticks).ending r t is tick
          attempts [] job.start refl (whole a job script inputs ticks clock takes);
    }
