-- How the due tasks of one moment are cut into batches.
use Rattle.std.specs.Prelude.{◌≡◌, ◌≤◌, ◌-◌, length, take, ℕ, List, All, Some, slice_get, flat_map}
use Rattle.std.specs.Prelude.{IsPermutation}
use Rattle.std.specs.List.{range_with_len}
use Rattle.zs_drive.specs.Tasks.{TaskValue}
use Rattle.zs_pool.specs.Limits.{max_workers, max_tasks}
use Rattle.zs_pool.specs.Rounds.{IsPollable}

-- the limits of a cut
abbrev pub IsCut : ℕ → ℕ → Type 0
IsCut workers grain = (1 ≤ workers) × (workers ≤ max_workers) × (1 ≤ grain) × (grain ≤ max_tasks)

-- a batch: its number, and its tasks
pub record BatchValue : Type 0 where
  pub number : ℕ
  pub tasks : List TaskValue

-- the tasks of all batches, in order
abbrev pub tasks_of : List BatchValue → List TaskValue
tasks_of bs = flat_map (λ b. b.tasks) bs

-- the number of these tasks
abbrev pub tasks_in : List BatchValue → ℕ
tasks_in bs = length (tasks_of bs)

-- each task of each batch can be polled at this moment
abbrev pub AllPollable : ℕ → List BatchValue → Type 0
AllPollable now bs = All (λ b. All (IsPollable now) b.tasks) bs

-- batch k has the number k
abbrev pub AreNumbered : List BatchValue → Type 0
AreNumbered batches = (k : ℕ) (b : BatchValue) → slice_get batches k ≡ Some b → b.number ≡ k

-- these are the numbers 0 .. count - 1, each once
abbrev pub IsEachOnce : ℕ → List ℕ → Type 0
IsEachOnce count ks = IsPermutation (range_with_len 0 count) ks

-- the batch has `grain` tasks
abbrev pub IsFull : ℕ → BatchValue → Type 0
IsFull grain b = length b.tasks ≡ grain

-- each batch has 1 to `grain` tasks, and all but the last have `grain`
abbrev pub AreCut : ℕ → List BatchValue → Type 0
AreCut grain bs = All (λ b. (1 ≤ length b.tasks) × (length b.tasks ≤ grain)) bs
    × All (IsFull grain) (take (length bs - 1) bs)
