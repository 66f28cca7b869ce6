use Rattle.std.proofs.Common.{◌≡◌, ◌+◌, ◌≤◌, ℕ, take, get_or}
use Rattle.std.specs.List.{AllZip}
use Rattle.zs_pool.specs.Rounds.{IsPolled}
use Rattle.zs_pool.proofs.polling.poll_each.Given as goal

abbrev pub invariant-loop-place : goal.invariant-loop-place
invariant-loop-place g l =
    AllZip (IsPolled l.now) (take l.place l.initial.tasks) (take l.place l.tasks)
    × ((k : ℕ) (d : _) → l.place ≤ k → get_or l.tasks k d ≡ get_or l.initial.tasks k d)
    × (l.seat.tally ≡ l.tally) × (l.seat.count ≡ l.initial.seat.count + l.place)
    × (l.seat.allowance + l.place ≡ l.initial.seat.allowance)
