-- The slots of a run: each job's task has a separate slot, which is empty while several workers
-- poll the task.
use Rattle.std.specs.Prelude.{◌≡◌, ◌==◌, ℕ, Bool, false, List, [], ◌∷◌, Option, Some, None}
use Rattle.std.specs.Prelude.{slice_get, slice_set, map}
use Rattle.std.specs.List.{list_any}
use Rattle.zs_drive.specs.Tasks.{TaskValue}

-- a task, or nothing, for each job
abbrev pub Slots : Type 0
Slots = List (Option TaskValue)

-- the slots after these are emptied
abbrev pub emptied : Slots → List ℕ → Slots
emptied slots [] = slots
emptied slots (number ∷ numbers) = emptied (slice_set slots number None) numbers

-- the tasks in these slots, in order
abbrev pub Picks : Slots → List ℕ → List TaskValue → Type 0
Picks slots numbers tasks = map (slice_get slots) numbers ≡ map (λ task. Some (Some task)) tasks

-- whether the number is in the list
abbrev pub has : ℕ → List ℕ → Bool
has i left = list_any (λ x. i == x) left

-- no number occurs twice
abbrev pub IsDistinct : List ℕ → Type 0
IsDistinct [] = Unit {0}
IsDistinct (x ∷ xs) = (has x xs ≡ false) × IsDistinct xs
