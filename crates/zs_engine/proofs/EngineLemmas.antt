-- An engine before the first round, in a round, and after the last one.
use Rattle.std.proofs.Common.{◌≡◌, ◌<◌, ◌≤◌, ◌+◌, ◌*◌, ◌-◌, ◌++◌, ◌∷◌, [], ℕ, false, List, Option}
use Rattle.std.proofs.Common.{Some, None, length, length-append, refl, ap, ◌∙◌, arith}
use Rattle.std.specs.FinMap as map_of
use Rattle.std.proofs.Math.Nat.{mul-le-mul_right}
use Rattle.std.proofs.lemmas.Grind.{flat_map-append}
use Rattle.atomic_table.specs.Seated.{TableId}
use Rattle.zs_agenda.specs.Ticks.{Ticks, IsClock, horizon}
use Rattle.zs_agenda.specs.Timers.{Timers, IsAfter}
use Rattle.zs_term.specs.Saturating.{max_moment}
use Rattle.zs_effect.specs.Scripts.{IsScript}
use Rattle.zs_drive.specs.Values.{JobRecord}
use Rattle.zs_drive.specs.Tasks.{TaskValue, current_timeline}
use Rattle.zs_pool.specs.Limits.{max_tasks}
use Rattle.zs_pool.specs.Shares.{HasCounted}
use Rattle.zs_pool.specs.Tally.{Seating}
use Rattle.zs_engine.specs.declared.engine.Engine.{Engine}
use Rattle.zs_engine.specs.Times.{ticks_of, next_of}
use Rattle.zs_engine.specs.Slots.{Slots, Picks}
use Rattle.zs_engine.specs.Rounds.{job_of, jobs_in, set_next}
use Rattle.zs_engine.specs.Engine.{Runs, IsNew, IsDueAt}
use Rattle.zs_engine.proofs.ClockTicks.{ticks-rising}
use Rattle.zs_engine.proofs.RoundLemmas.{taken-set_next, waits-none, waits-push, due-few, due-room}
use Rattle.zs_engine.proofs.SlotLemmas.{length-slots}

-- an engine of no jobs
pub IsNew-none : (engine : Engine) → IsClock engine.clock → engine.horizon ≡ horizon engine.clock
    → engine.slots.items ≡ [] → engine.agenda ≡ record { moments = map_of.empty; last_taken = None }
    → engine.seat ≡ record { tally = engine.tally; count = 0; allowance = max_moment; seen = 0 }
    → IsNew engine
IsNew-none engine lawful is_horizon none unset seat =
    let uncounted : engine.seat.count ≡ 0 = ap (λ (s : Seating). s.count) seat in
    let all : engine.seat.allowance ≡ max_moment = ap (λ (s : Seating). s.allowance) seat in
    record {
      rests = record {
        runs = record {
          lawful = lawful;
          is_horizon = is_horizon;
          few = rw none (omega arith);
          seated = ap (λ (s : Seating). s.tally) seat;
          sum = omega (arith, uncounted, all);
        };
        rests = rw uncounted (waits-none (ticks_of engine.clock) engine.slots.items engine.agenda
            none (ap (λ (t : Timers). t.moments) unset));
      };
      untaken = ap (λ (t : Timers). t.last_taken) unset;
      uncounted = uncounted;
    }

-- one more job
pub jobs-add : (before after : Slots) (job : JobRecord) (task : TaskValue) (n : ℕ)
    → task ≡ record { number = n; job = job; moments = []; seen = 0; broken = false }
    → after ≡ before ++ Some task ∷ [] → jobs_in after ≡ jobs_in before ++ job ∷ []
jobs-add before after job task n made pushed =
    ap jobs_in pushed ∙ flat_map-append _ before (Some task ∷ [])
    ∙ ap (λ (t : TaskValue). jobs_in before ++ job_of t ∷ []) made

pub IsNew-add : (old new : Engine) (job : JobRecord) (task : TaskValue) (n : ℕ) → IsNew old
    → length (jobs_in old.slots.items) < max_tasks
    → task ≡ record { number = n; job = job; moments = []; seen = 0; broken = false }
    → new.slots.items ≡ old.slots.items ++ Some task ∷ []
    → n ≡ length old.slots.items → IsScript task.job.script
    → new ≡ record old { slots = new.slots; agenda = new.agenda }
    → new.agenda ≡ set_next old.agenda task.number
    (next_of (ticks_of old.clock) (current_timeline task).due) → IsNew new
IsNew-add old new job task n h few made pushed at script same set =
    let runs = h.rests.runs in
    let jobs = jobs-add old.slots.items new.slots.items job task n made pushed in
    let most : length (jobs_in new.slots.items) ≤ max_tasks =
    omega (
      arith,
      few,
      length-append (jobs_in old.slots.items) (job ∷ []),
      ap (λ (js : List JobRecord). length js) jobs,
    ) in
    let added = waits-push task (ticks-rising old.clock runs.lawful).0
    (rw h.uncounted at h.rests.rests) (rw made at) (rw made refl) (rw made refl)
    (rw made refl) script in
    rw same (record {
      rests = record {
        runs = record {
          lawful = runs.lawful;
          is_horizon = runs.is_horizon;
          few = most;
          seated = runs.seated;
          sum = runs.sum;
        };
        rests = rw (h.uncounted, pushed, set) added;
      };
      untaken = ap (λ (t : Timers). t.last_taken) set ∙ taken-set_next old.agenda task.number
          (next_of (ticks_of old.clock) (current_timeline task).due) ∙ h.untaken;
      uncounted = h.uncounted;
    })

-- n polls were counted
pub Runs-counted : {clock : Ticks} {end : ℕ} {jobs : List JobRecord} {tally : TableId}
    {seat after : Seating} (n : ℕ) → Runs clock end jobs tally seat → HasCounted seat n after →
    Runs clock end jobs tally after
Runs-counted n runs counted = record {
  lawful = runs.lawful;
  is_horizon = runs.is_horizon;
  few = runs.few;
  seated = counted.0 ∙ runs.seated;
  sum = omega (arith, counted.1, counted.2, runs.sum);
}

-- ---- one round
module _ {now : ℕ} {numbers : List ℕ} (old : Engine) (h : IsDueAt now numbers old) where
  slots-few : length old.slots.items ≤ 10000
  slots-few = omega (
    arith,
    h.runs.few,
    length-slots old.slots.items h.begins.waits.filled.0
        h.begins.waits.filled.1,
  )

  pub tasks-few : (tasks : List TaskValue) → Picks old.slots.items numbers tasks →
      length tasks ≤ 10000
  tasks-few tasks picks = omega (arith, due-few h.begins tasks picks h.in_order, slots-few)

  -- the seat may count all polls of the round, by each worker
  pub allowed : (workers n : ℕ) → workers ≤ 64 → n ≤ 10000 → workers * n ≤ old.seat.allowance
  allowed workers n many few =
      let room = due-room h.begins (ticks-rising old.clock h.runs.lawful).0 slots-few in
      let most : workers * n ≤ 64 * n = mul-le-mul_right n many in
      omega (arith, most, few, room, h.runs.sum)

-- ---- the whole run
-- the greatest number of moments that remain
abbrev pub rounds_left : ℕ → Option ℕ → ℕ
rounds_left horizon None = horizon + 1
rounds_left horizon (Some now) = horizon - now

pub rounds_left-falls : (horizon : ℕ) (taken : Option ℕ) (now : ℕ) → IsAfter taken now →
    now ≤ horizon → rounds_left horizon (Some now) < rounds_left horizon taken
rounds_left-falls horizon None now a l = omega arith
rounds_left-falls horizon (Some s) now a l = omega arith
