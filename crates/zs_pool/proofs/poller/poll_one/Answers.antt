use Rattle.std.proofs.Common.{◌≡◌, ◌⊎◌, subst}
use Rattle.std.specs.Prelude.{false, true, ⊤}
use Rattle.zs_drive.specs.Tasks.{TaskValue, current_timeline, polled, reply_of, MatchMemory, IsDue}
use Rattle.zs_pool.proofs.Polls.{is_polled}
use Rattle.zs_pool.proofs.poller.poll_one.Goals as goal

pub returns-clause-polled : goal.returns-clause-polled
returns-clause-polled g c =
    let r = c.poll-answer.result in let after : TaskValue = c.poll-answer.new.self in
    let Found : TaskValue → Type 0 = λ s. MatchMemory r ⊤ ((s.broken ≡ false) × (after ≡ polled s)
    × (r ≡ reply_of (current_timeline after).ending)) in
    let Lost : TaskValue → Type 0 =
    λ s. MatchMemory r (((s.broken ≡ true) ⊎ IsDue s) × (after ≡ record s { broken = true }))
    ⊤ in
    is_polled c.args.now c.args.task.now after r _ _ _ c.requires.pollable
    (subst Found c.see.ensures.value c.poll-answer.ensures.answered)
    (subst Lost c.see.ensures.value c.poll-answer.ensures.memory)
