use Rattle.std.proofs.Common.{◌≡◌, ◌≤◌, ◌-◌, ◌*◌, ℕ, List, length, ap, sym, subst, arith, All}
use Rattle.zs_drive.specs.Tasks.{TaskValue}
use Rattle.zs_pool.specs.Batches.{BatchValue}
use Rattle.zs_pool.specs.Rounds.{IsPollable}
use Rattle.zs_pool.specs.Messages.{IsPollAmong}
use Rattle.zs_pool.proofs.Cuts.{few_batches}
use Rattle.zs_pool.proofs.Ends.{all_parts, some_batches}
use Rattle.zs_pool.proofs.Rooms.{rooms_within}
use Rattle.zs_pool.proofs.rounds.round_in.Goals as goal

pub poll_shared-requires-clause-room : goal.poll_shared-requires-clause-room
poll_shared-requires-clause-room g c κs within =
    let bs = c.in_ok-batches.batches.items in
    let size = ap length c.in_ok-batches.ensures.cutting in
    let some = some_batches bs (omega (arith, size, c.len-due.ensures)) in
    let same : length c.args.tasks.items ≡ c.len-due.result = omega (arith, c.len-due.ensures) in
    let P : ℕ → Type 0 = λ n. c.args.cut.workers * n ≤ c.args.seat.now.allowance in
    rooms_within (c.min.result - 1) c.args.cut.workers c.len-due.result c.args.seat.now.allowance
    (omega (arith, some, c.min.ensures, c.args.cut.within)) (subst P same c.requires.allowance)

pub poll_shared-requires-clause-few : goal.poll_shared-requires-clause-few
poll_shared-requires-clause-few g c κs within =
    let bs = c.in_ok-batches.batches.items in
    let size = ap length c.in_ok-batches.ensures.cutting in
    let some = some_batches bs (omega (arith, size, c.len-due.ensures)) in
    omega (arith, some, c.min.ensures)

pub poll_shared-requires-clause-size : goal.poll_shared-requires-clause-size
poll_shared-requires-clause-size g c κs within =
    let bs = c.in_ok-batches.batches.items in
    let size = ap length c.in_ok-batches.ensures.cutting in (
      some_batches bs (omega (arith, size, c.len-due.ensures)),
      omega (arith, size, few_batches _ bs c.in_ok-batches.ensures.cut.0, c.requires.few),
    )

pub poll_shared-requires-clause-pollable : goal.poll_shared-requires-clause-pollable
poll_shared-requires-clause-pollable g c κs within =
    let P : List TaskValue → Type 0 = λ ts. All (IsPollable c.args.now) ts in
    all_parts (IsPollable c.args.now) c.in_ok-batches.batches.items
    (subst P (sym c.in_ok-batches.ensures.cutting) c.requires.pollable)

pub in_order-requires-clause-each : goal.in_order-requires-clause-each
in_order-requires-clause-each g c =
    let P : List BatchValue → Type 0 =
    λ bs. All (IsPollAmong c.args.now bs) c.in_ok-messages.messages.items in
    subst P (sym (ap (λ v. v.items) c.of-known.ensures)) c.in_ok-messages.ensures.each
