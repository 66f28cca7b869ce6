-- What a round does to tasks: each is polled at the moment of the round.
use Rattle.std.specs.Prelude.{◌≡◌, ℕ, ◌≤◌, true, false, [], ◌∷◌, ◌++◌, ◌⊎◌, IsSomeAnd}
use Rattle.zs_drive.specs.Clocks.{max_tick}
use Rattle.zs_drive.specs.Tasks.{TaskValue, current_timeline}

-- a task after a due poll
abbrev pub polled_at : ℕ → TaskValue → TaskValue
polled_at now task = record task { seen = now; moments = task.moments ++ now ∷ [] }

-- a task after a poll that ran out of memory
abbrev pub broken_at : ℕ → TaskValue → TaskValue
broken_at now task = record task { seen = now; broken = true }

-- one poll at this moment turns `before` into `after`
abbrev pub IsPolled : ℕ → TaskValue → TaskValue → Type 0
IsPolled now before after = (after ≡ polled_at now before) ⊎ (after ≡ broken_at now before)

-- a task that can be polled at this moment: it is due, isn't broken, and saw no later moment
pub record IsPollable (now : ℕ) (task : TaskValue) : Type 0 where
  pub whole : task.broken ≡ false
  pub later : task.seen ≤ now
  pub bounded : now ≤ max_tick
  pub due : IsSomeAnd (current_timeline task).due (λ due. due ≤ now)
