use Rattle.std.proofs.Common.{◌≡◌, List, length, ◌++◌, ap, sym, subst, ◌∙◌, rules, arith, All}
use Rattle.std.proofs.Common.{IsPermutation}
use Rattle.std.specs.List.{range_with_len}
use Rattle.zs_pool.specs.Batches.{BatchValue, AllPollable, tasks_of}
use Rattle.zs_pool.specs.Messages.{IsPollAmong, numbers_of}
use Rattle.zs_pool.specs.Shares.{HasCounted}
use Rattle.zs_pool.proofs.Ends.{Ended, ended}
use Rattle.zs_pool.proofs.rounds.sharing.poll_shared.Given.{Over}
use Rattle.zs_pool.proofs.rounds.sharing.poll_shared.Goals.{In_ok-append-2}
use Rattle.zs_pool.proofs.rounds.sharing.poll_shared.Goals as goal

pub run_scoped-requires-clause-first : goal.run_scoped-requires-clause-first
run_scoped-requires-clause-first g c κs within =
    let P : List BatchValue → Type 0 = AllPollable c.args.now in
    let pollable : P c.in_ok-board.board_pass.batches =
    subst P (sym (ap (λ p. p.batches) c.in_ok-board.ensures.ok)) c.requires.pollable in
    search (rules, pollable)

-- how the round ended
done : (g : Over) (c : In_ok-append-2 g) →
    Ended c.args.now c.args.work.batches.items c.split_off.result.count c.split_off.result.allowance
    c.in_ok-collected.collected.served.rights
    ((c.in_ok-collected.collected.messages.items ++ c.in_ok-left.left.items)
    ++ c.in_ok-kept.kept.items)
done g c =
    ended c.args.now c.args.work.batches.items _ c.in_ok-collected.collected.served.rights
    c.in_ok-collected.collected.served.overflow c.in_ok-collected.collected.messages.items
    c.in_ok-left.left.items c.in_ok-kept.kept
    c.in_ok-collected.ensures.whole (ap (λ p. p.batches) c.in_ok-board.ensures.ok) c.in_ok-kept.was
    c.in_ok-close.ensures.taken.0 c.in_ok-close.ensures.all c.in_ok-left.ensures.left

-- the messages, in the order in which they were appended
all : (g : Over) (c : In_ok-append-2 g) → (c.in_ok-collected.collected.messages.items
    ++ c.in_ok-left.left.items) ++ c.in_ok-kept.kept.items ≡ c.append-2.new.self.items
all g c = sym (c.in_ok-append-2.ensures.items ∙ ap (λ ms. ms ++ c.in_ok-kept.kept.items)
    c.in_ok-append.ensures.items)

pub returns-clause-each : goal.returns-clause-each
returns-clause-each g c =
    let at = (goal.at.returns-clause-each g c).In_ok-append-2 in
    subst (λ ms. All (IsPollAmong c.args.now c.args.work.batches.items) ms) (all g at)
    (done g at).each

pub returns-clause-whole : goal.returns-clause-whole
returns-clause-whole g c =
    let at = (goal.at.returns-clause-whole g c).In_ok-append-2 in
    subst (λ ms. IsPermutation (range_with_len 0 (length c.args.work.batches.items))
    (numbers_of ms)) (all g at) (done g at).whole

pub returns-clause-counted : goal.returns-clause-counted
returns-clause-counted g c =
    let e = done g (goal.at.returns-clause-counted g c).In_ok-append-2 in
    let mine = c.split_off.ensures.first in let lent = c.split_off.ensures.second in
    let back = c.absorb.ensures.joined in
    let n = length (tasks_of c.args.work.batches.items) in
    let counts : HasCounted c.args.seat.now n c.absorb.new.seat = (
      ap (λ s. s.tally) back ∙ search rules,
      omega (
        arith,
        ap (λ s. s.count) back,
        ap (λ s. s.count) mine,
        ap (λ s. s.count) lent,
        e.count,
      ),
      omega (
        arith,
        ap (λ s. s.allowance) back,
        ap (λ s. s.allowance) mine,
        ap (λ s. s.allowance) lent,
        e.left,
        c.left-all.ensures.value,
      ),
    )
    in
    counts
