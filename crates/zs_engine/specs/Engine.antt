-- The states of an engine: its fields satisfy `Rounds`, on its clock.
use Rattle.std.specs.Prelude.{◌≡◌, ◌≤◌, ◌+◌, ℕ, List, [], Some, None, length}
use Rattle.std.specs.List.Sorted.{IsStrictlySortedBy}
use Rattle.std.specs.Ordering.{nat_cmp}
use Rattle.atomic_table.specs.Seated.{TableId}
use Rattle.zs_agenda.specs.Ticks.{Ticks, IsClock, horizon}
use Rattle.zs_pool.specs.Limits.{max_tasks}
use Rattle.zs_pool.specs.Tally.{Seating}
use Rattle.zs_term.specs.Saturating.{max_moment}
use Rattle.zs_drive.specs.Values.{JobRecord}
use Rattle.zs_engine.specs.declared.engine.Engine.{Engine}
use Rattle.zs_engine.specs.Times.{ticks_of}
use Rattle.zs_engine.specs.Rounds.{Waits, Begins, jobs_in}

-- The clock is valid and its horizon is `end`, one round may poll all of the jobs, and only this
-- seat counts.
pub record Runs (clock : Ticks) (end : ℕ) (jobs : List JobRecord)
    (tally : TableId) (seat : Seating) : Type 0 where
  pub lawful : IsClock clock
  pub is_horizon : end ≡ horizon clock
  pub few : length jobs ≤ max_tasks
  pub seated : seat.tally ≡ tally
  pub sum : seat.count + seat.allowance ≡ max_moment

-- between two rounds
pub record IsResting (engine : Engine) : Type 0 where
  pub runs : Runs engine.clock engine.horizon (jobs_in engine.slots.items) engine.tally engine.seat
  pub rests : Waits (ticks_of engine.clock) engine.slots.items engine.agenda engine.seat.count []

-- before the first round
pub record IsNew (engine : Engine) : Type 0 where
  pub rests : IsResting engine
  pub untaken : engine.agenda.last_taken ≡ None
  pub uncounted : engine.seat.count ≡ 0

-- as a round begins: these jobs are due at `now`
pub record IsDueAt (now : ℕ) (numbers : List ℕ) (engine : Engine) : Type 0 where
  pub runs : Runs engine.clock engine.horizon (jobs_in engine.slots.items) engine.tally engine.seat
  pub begins : Begins
      (ticks_of engine.clock) engine.slots.items engine.agenda engine.seat.count now numbers
  pub in_order : IsStrictlySortedBy nat_cmp numbers

-- the clock and the jobs are unchanged
pub record IsSameRun (old new : Engine) : Type 0 where
  pub clock : new.clock ≡ old.clock
  pub jobs : jobs_in new.slots.items ≡ jobs_in old.slots.items

-- after the round at `now`
pub record HasRunRound (now : ℕ) (old new : Engine) : Type 0 where
  pub rests : IsResting new
  pub same : IsSameRun old new
  pub taken : new.agenda.last_taken ≡ Some now
