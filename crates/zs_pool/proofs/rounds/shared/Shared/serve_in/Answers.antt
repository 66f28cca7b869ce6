use Rattle.std.proofs.Common.{◌≡◌, ◌++◌, ◌∷◌, [], List, Some, ap, sym, ◌∙◌, subst, All, slice_get}
use Rattle.zs_pool.specs.Batches.{BatchValue}
use Rattle.zs_pool.specs.Rounds.{IsPollable}
use Rattle.zs_pool.specs.Messages.{PolledValue}
use Rattle.zs_pool.specs.Shares.{HandsIn}
use Rattle.zs_pool.proofs.Served.{all_get, claim_fits, serving_more, hands_put, hands_keep}
use Rattle.zs_pool.proofs.rounds.shared.Shared.serve_in.Goals as goal

pub claim-requires : goal.claim-requires
claim-requires g c = record { board = c.loop.invariant.same.0.0 ∙ c.requires.ready.of.0 }

pub poll_in-message-requires-clause-allowance : goal.poll_in-message-requires-clause-allowance
poll_in-message-requires-clause-allowance g c κs within =
    let told = c.in-Some-claim.ensures.taken in let was = c.loop.invariant in
    let bs = c.args.rights.now.board_pass.batches in
    let b : BatchValue = c.in-Some-claim.batch in
    let B : List BatchValue → Type 0 = λ l. slice_get l b.number ≡ Some b in
    claim_fits bs c.loop.rights.board_pass.taken b c.loop.rights.seat.allowance
    c.args.rights.now.seat.allowance (subst B was.same.1 told.1) told.2 was.fits was.left
    c.requires.ready.room

pub poll_in-message-requires-clause-pollable : goal.poll_in-message-requires-clause-pollable
poll_in-message-requires-clause-pollable g c κs within =
    let told = c.in-Some-claim.ensures.taken in let was = c.loop.invariant in
    let bs = c.args.rights.now.board_pass.batches in
    let b : BatchValue = c.in-Some-claim.batch in
    let B : List BatchValue → Type 0 = λ l. slice_get l b.number ≡ Some b in
    all_get (λ x. All (IsPollable c.args.self.moment) x.tasks) bs b.number b
    c.requires.ready.pollable (subst B was.same.1 told.1)

pub loop-preserved : goal.loop-preserved
loop-preserved g c =
    let told = c.in-Some-claim.ensures.taken in let put = c.in_default-put.ensures.ok in
    let m = c.poll_in-message.result in
    serving_more c.args.self.moment c.args.rights.now c.loop.rights _ c.loop.kept.items _
    c.in-Some-claim.batch m _ told.1 told.2 (sym c.requires.ready.of.0) told.3 (
      ap (λ h. h.shelf) put ∙ sym c.requires.ready.of.1,
      ap (λ h. h.share) put,
      ap (λ h. h.taken) put,
    )
    c.poll_in-message.ensures.counted c.poll_in-message.ensures.polled
    (hands_put c.loop.rights.shelf_pass.put c.loop.kept.items c.put.new.pass.put m
    (ap (λ h. h.put) put)) c.loop.invariant

pub loop-preserved-in-Continue-1 : goal.loop-preserved-in-Continue-1
loop-preserved-in-Continue-1 g c =
    let told = c.in-Some-claim.ensures.taken in let put = c.in-Err.ensures.full in
    let m = c.poll_in-message.result in
    let H : List PolledValue → Type 0 =
    λ l. HandsIn c.loop.rights.shelf_pass.put c.loop.kept.items m l c.push.new.self.items in
    serving_more c.args.self.moment c.args.rights.now c.loop.rights _ c.loop.kept.items _
    c.in-Some-claim.batch m _ told.1 told.2 (sym c.requires.ready.of.0) told.3 (
      ap (λ h. h.shelf) put.2 ∙ c.loop.invariant.same.0.1,
      ap (λ h. h.share) put.2,
      ap (λ h. h.taken) put.2,
    )
    c.poll_in-message.ensures.counted c.poll_in-message.ensures.polled
    (subst H (ap (λ h. h.put) (sym put.2))
    (hands_keep c.loop.rights.shelf_pass.put c.loop.kept.items _ m
    (c.in_ok-push.ensures.items ∙ ap (λ p. c.loop.kept.items ++ p ∷ []) put.0)))
    c.loop.invariant
