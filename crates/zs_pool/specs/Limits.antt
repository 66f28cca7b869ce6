-- The limits of a round.
use Rattle.std.specs.Prelude.{ℕ}

-- the greatest number of threads that poll at once: 64
abbrev pub max_workers : ℕ
max_workers = 64

-- the greatest number of tasks of a round, and so of tasks in a batch and of batches: 10,000
abbrev pub max_tasks : ℕ
max_tasks = 10000
