-- Polled batches, which workers hand in.
use Rattle.std.specs.Prelude.{◌≡◌, ℕ, true, List, [], ◌∷◌, ◌++◌, ◌⊎◌, All, Option, Some, slice_get}
use Rattle.std.specs.Prelude.{map}
use Rattle.std.specs.List.{AllZip}
use Rattle.zs_drive.specs.Tasks.{TaskValue}
use Rattle.zs_pool.specs.Rounds.{IsPolled, polled_at}
use Rattle.zs_pool.specs.Batches.{BatchValue}

-- a batch that was polled, with the moment
pub record PolledValue : Type 0 where
  pub number : ℕ
  pub now : ℕ
  pub tasks : List TaskValue

-- The task has seen the moment, and was polled then or is broken. A task's moments rise, so the
-- last of them is the greatest.
abbrev pub Saw : ℕ → TaskValue → Type 0
Saw now task =
    (task.seen ≡ now) × ((task.broken ≡ true) ⊎ ((ms : List ℕ) × (task.moments ≡ ms ++ now ∷ [])))

-- each of the tasks has seen the moment
abbrev pub AllSaw : ℕ → List TaskValue → Type 0
AllSaw now tasks = All (Saw now) tasks

-- the poll of some task ran out of memory, and broke it
abbrev pub HasBroken : List TaskValue → Type 0
HasBroken tasks = (k : ℕ) × (t : TaskValue) × (slice_get tasks k ≡ Some t) × (t.broken ≡ true)

-- no poll ran out of memory: of whatever tasks these are the polls, they are as `after` has them
abbrev pub AreWhole : List TaskValue → List TaskValue → Type 0
AreWhole tasks after = (now : ℕ) (before : List TaskValue)
    → AllZip (IsPolled now) before tasks → after ≡ map (polled_at now) before

-- the message is the poll of the batch: the same number, and the same tasks in order, each polled
pub record IsPollOf (now : ℕ) (b : BatchValue) (p : PolledValue) : Type 0 where
  pub number : p.number ≡ b.number
  pub at : p.now ≡ now
  pub tasks : AllZip (IsPolled now) b.tasks p.tasks

-- the message is the poll of the batch that has its number
abbrev pub IsPollAmong : ℕ → List BatchValue → PolledValue → Type 0
IsPollAmong now batches p =
    (b : BatchValue) × (slice_get batches p.number ≡ Some b) × IsPollOf now b p

-- the slot contains the poll of the batch
abbrev pub HasPoll : ℕ → BatchValue → Option PolledValue → Type 0
HasPoll now b slot = (p : PolledValue) × (slot ≡ Some p) × IsPollOf now b p

-- the numbers of the messages
abbrev pub numbers_of : List PolledValue → List ℕ
numbers_of ps = map (λ p. p.number) ps
