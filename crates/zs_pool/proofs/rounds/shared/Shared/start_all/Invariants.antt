use Rattle.std.proofs.Common.{◌≡◌, ◌+◌, ◌-◌, ◌≤◌, [], false, length, All, vec_capacity}
use Rattle.zs_pool.specs.Board.{claimer}
use Rattle.zs_pool.specs.Shelf.{shelver}
use Rattle.zs_term.specs.Saturating.{max_moment}
use Rattle.zs_pool.specs.Shares.{rooms}
use Rattle.zs_pool.specs.Joined.{Promised, allowed}
use Rattle.zs_pool.proofs.rounds.shared.Shared.start_all.Given as goal

abbrev pub invariant-loop-i : goal.invariant-loop-i
invariant-loop-i g l =
    let batches = l.initial.rights.board_pass.batches in let seat = l.initial.rights.seat in
    (l.rights.board_pass ≡ claimer l.self.board.now (max_moment - l._i) batches [] false)
    × (l.rights.shelf_pass ≡ shelver l.self.shelf.now (max_moment - l._i) [] [])
    × (l.rights.seat.tally ≡ l.self.tally.now) × (l.rights.seat.count ≡ seat.count)
    × (l.rights.seat.allowance + rooms l._i l.self.tasks ≡ seat.allowance)
    × (length l.workers.items ≡ l._i) × (allowed l.workers.items ≡ rooms l._i l.self.tasks)
    × (l.count ≤ vec_capacity l.workers)
    × All (Promised l.self batches) l.workers.items
