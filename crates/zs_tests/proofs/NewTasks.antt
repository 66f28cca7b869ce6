-- New tasks can be polled, and their numbers rise.
use Rattle.std.proofs.Common.{◌≡◌, ℕ, zero, suc, ◌+◌, ◌≤◌, List, [], ◌∷◌, ◌++◌, map, false, sym, ap, ◌∙◌, subst, arith}
use Rattle.std.specs.Prelude.{IsSomeAnd}
use Rattle.std.specs.List.{range_with_len}
use Rattle.std.specs.List.Sorted.{IsStrictlyIncreasing}
use Rattle.std.proofs.lemmas.List.FromFn.{length-range_with_len, get_or-range_with_len}
use Rattle.zs_drive.specs.Clocks.{max_tick}
use Rattle.zs_drive.specs.Timeline.{timeline_of, from}
use Rattle.zs_drive.specs.Tasks.{TaskValue}
use Rattle.zs_pool.specs.Rounds.{IsPollable}

-- a new task, which waits for moment 0
abbrev pub IsNewTask : ℕ → TaskValue → Type 0
IsNewTask number task = (task.number ≡ number) × (task.moments ≡ []) × (task.seen ≡ 0) × (task.broken ≡ false) × (task.job.start ≡ 0)

pub new_pollable : (number : ℕ) (task : TaskValue) → IsNewTask number task → (now : ℕ) → now ≤ max_tick → IsPollable now task
unfolding timeline_of from
new_pollable number task new now bounded =
    let D : List ℕ → Type 0 = λ ms. IsSomeAnd (timeline_of task.job ms).due (λ d. d ≤ now) in
    let low : task.job.start ≤ now = omega (arith, new.4) in
    record { whole = new.3; later = omega (arith, new.2); bounded = bounded; due = subst D (sym new.1) low }

-- one more number at the end
pub range_more : (a n : ℕ) → range_with_len a (suc n) ≡ range_with_len a n ++ (a + n) ∷ []
range_more a zero = ap (λ k. k ∷ []) (omega arith)
range_more a (suc n) = ap (λ l. a ∷ l) (range_more (a + 1) n ∙ ap (λ k. range_with_len (a + 1) n ++ k ∷ []) (omega arith))

rising_range : (n : ℕ) → IsStrictlyIncreasing (range_with_len 0 n)
rising_range n k below =
    let size = length-range_with_len 0 n in
    let here = get_or-range_with_len 0 n k 0 (omega (arith, below, size)) in let next = get_or-range_with_len 0 n (k + 1) 0 (omega (arith, below, size)) in
    omega (arith, here, next)

pub rising_numbers : (n : ℕ) (tasks : List TaskValue) → map (λ t. t.number) tasks ≡ range_with_len 0 n → IsStrictlyIncreasing (map (λ t. t.number) tasks)
rising_numbers n tasks same = subst IsStrictlyIncreasing (sym same) (rising_range n)
