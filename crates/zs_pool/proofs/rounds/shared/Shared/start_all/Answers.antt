use Rattle.std.proofs.Common.{rules, ◌≡◌, ◌+◌, ◌-◌, ◌∷◌, [], List, false, ap, sym, ◌∙◌, subst}
use Rattle.std.proofs.Common.{length, length-append, arith, All}
use Rattle.zs_pool.specs.Board.{Claimer, claimer}
use Rattle.zs_pool.specs.Shelf.{Shelver, shelver}
use Rattle.zs_term.specs.Saturating.{max_moment}
use Rattle.zs_pool.specs.Shares.{IsFresh}
use Rattle.zs_pool.specs.Joined.{Worker, Promised, allowed}
use Rattle.zs_pool.proofs.Rooms.{rooms_more, rooms_fit, fresh_own, fresh_ready, allowed_push}
use Rattle.zs_pool.proofs.Rooms.{promised_push}
use Rattle.zs_pool.proofs.rounds.shared.Shared.start_all.Goals as goal

pub split-rest-requires-clause-tasks : goal.split-rest-requires-clause-tasks
split-rest-requires-clause-tasks g c =
    let was = c.loop-i.invariant in let i = c.loop-i._i in let tasks = c.args.self.tasks in
    omega (arith, was.4, c.requires.first.room, rooms_fit i c.args.count tasks (omega arith))

pub start-requires-clause-ready : goal.start-requires-clause-ready
start-requires-clause-ready g c κs within =
    let told = c.split-rest.ensures in let bs = c.args.rights.board_pass.batches in
    let own = c.split-rest.result.1 in let i = c.loop-i._i in
    let fresh : IsFresh c.args.self bs own =
    fresh_own c.args.self bs (max_moment - i) _ c.loop-i.rights.board_pass own c.loop-i.invariant.0
    told.own_board_pass told.own_shelf_pass told.own_seat c.requires.first.tasks
    in
    fresh_ready c.args.self bs own fresh c.requires.first.pollable

pub loop-i-preserved : goal.loop-i-preserved
loop-i-preserved g c =
    let was = c.loop-i.invariant in let i = c.loop-i._i in let tasks = c.args.self.tasks in
    let bs = c.args.rights.board_pass.batches in let board = c.args.self.board.now in
    let shelf = c.args.self.shelf.now in
    let told = c.split-rest.ensures in let own = c.split-rest.result.1 in
    let ws : List Worker = c.loop-i.workers.items in let w : Worker = c.in-Ok.worker in
    let P : Claimer → Claimer = λ v. claimer board (v.share - 1) v.batches v.taken v.none in
    let H : Shelver → Shelver = λ v. shelver shelf (v.share - 1) v.put v.taken in
    let less : (max_moment - i) - 1 ≡ max_moment - (i + 1) = omega arith in
    let more = c.in_ok-push-in-Ok.ensures.items in
    let fresh : IsFresh c.args.self bs own =
    fresh_own c.args.self bs (max_moment - i) _ c.loop-i.rights.board_pass own was.0
    told.own_board_pass told.own_shelf_pass told.own_seat c.requires.first.tasks
    in
    let A : List Worker → Type 0 = λ l. All (Promised c.args.self bs) l in (
      told.board_pass ∙ ap P was.0 ∙ ap (λ n. claimer board n bs [] false) less,
      told.shelf_pass ∙ ap H was.1 ∙ ap (λ n. shelver shelf n [] []) less,
      ap (λ s. s.tally) told.seat,
      ap (λ s. s.count) told.seat ∙ was.3,
      omega (
        arith,
        ap (λ s. s.allowance) told.seat,
        was.4,
        rooms_more i tasks,
        c.requires.first.room,
        rooms_fit i c.args.count tasks (omega arith),
      ),
      omega (arith, ap length more, length-append ws (w ∷ []), was.5),
      ap allowed more ∙ omega (
        arith,
        allowed_push ws w own tasks c.in-Ok.ensures.started.1
            (ap (λ s. s.allowance) told.own_seat),
        was.6,
        rooms_more i tasks,
      ),
      (search rules),
      subst A (sym more) (promised_push c.args.self bs ws w own c.in-Ok.ensures.started
          fresh was.8),
    )
