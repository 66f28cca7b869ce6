use Rattle.std.proofs.Common.{◌≡◌, ◌≤◌, ◌+◌, ◌-◌, length, vec_capacity}
use Rattle.zs_pool.proofs.rounds.shared.Shared.collect.Given as goal

abbrev pub invariant-loop-empty : goal.invariant-loop-empty
invariant-loop-empty g l =
    (l.pass.shelf ≡ l.self.shelf.now) × (l.pass.share ≡ l.initial.pass.share)
    × (l.pass.put ≡ l.initial.pass.put)
    × (l.pass.taken ≡ l.messages.items) × (length l.messages.items ≤ l.self.batches)
    × (l.self.batches ≤ vec_capacity l.messages) × (l.empty ≤ 1000)

abbrev pub decreases-loop-empty : goal.decreases-loop-empty
decreases-loop-empty g l = (1000 - l.empty) + (l.self.batches - length l.messages.items)
