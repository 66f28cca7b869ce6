use Rattle.zs_term.specs.Schedule.{schedule_of}
use Rattle.zs_term.proofs.Verdicts.{term_refused, term_accepted}
use Rattle.zs_term.proofs.reader.judge.Goals as goal

pub returns-clause-ok : goal.returns-clause-ok
returns-clause-ok c =
    let r = rw c.as_bytes.ensures.value at c.in_ok-term.ensures.ok in
    term_accepted schedule_of c.args.text.now c.in_ok-term.term r c.check_small.result
    c.check_small.ensures.ok c.check_small.ensures.schedule

pub returns-clause-err : goal.returns-clause-err
returns-clause-err c =
    let r = rw c.as_bytes.ensures.value at c.in_ok-term.ensures.ok in
    term_refused c.args.text.now (schedule_of c.in_ok-term.term) r c.check_small.result
    c.check_small.ensures.err

pub check_small-requires : goal.check_small-requires
check_small-requires c = let r =
    rw c.as_bytes.ensures.value at c.in_ok-term.ensures.ok in record { within = r.within }
