use Rattle.std.proofs.Common.{◌≡◌, refl, arith}
use Rattle.std.specs.Prelude.{Result, Ok, Err, OnOk, Some}
use Rattle.zs_term.specs.Output.{output_of}
use Rattle.zs_step.specs.Answer.{answer}
use Rattle.zs_step.specs.declared.decision.Decision.TheVariants.{Next}
use Rattle.zs_drive.specs.declared.progress.Phase.TheVariants.{Waiting, Over}
use Rattle.zs_drive.specs.Timeline.{ended_attempt}
use Rattle.zs_drive.specs.Progress.{job_in}
use Rattle.zs_drive.proofs.Timing.{AllContinued-append}
use Rattle.zs_drive.proofs.Steps.{stops, waits, restarts}
use Rattle.zs_drive.proofs.Advancing.{ran, end-advances, restart-advances, asked-answer}
use Rattle.zs_drive.proofs.Advancing.{IsStepped-asked}
use Rattle.zs_drive.proofs.progress.Progress.follow.Goals as goal

pub returns-in-Stop-clause-ok : goal.returns-in-Stop-clause-ok
returns-in-Stop-clause-ok c =
    let p = c.args.self.now in
    let r = ran p c.args.outcome p.phase refl c.requires.progress c.requires.running in
    let output = output_of c.args.out in
    let answered = asked-answer p c.args.outcome r _ (rw c.in-Stop.is at c.requires.answer) in
    end-advances p c.end.new.self c.args.outcome (Some (answer output c.args.decision))
    (Over c.end_by_schedule-ending.result) r
    c.requires.progress c.requires.script c.end.ensures.rest c.end.ensures.ended
    (rw (c.in-Stop.is, c.end_by_schedule-ending.ensures.value)
    (stops (job_in p) p.seen r.others r.s r.w c.args.outcome r.all r.soon r.own
    c.requires.goes_on output answered)) tt tt

pub returns-in-Next-clause-ok : goal.returns-in-Next-clause-ok
returns-in-Next-clause-ok c =
    let p = c.args.self.now in
    let r = ran p c.args.outcome p.phase refl c.requires.progress c.requires.running in
    let output = output_of c.args.out in
    let step = answer output (Next c.in-Next.due) in
    let answered = asked-answer p c.args.outcome r step (rw c.in-Next.is at c.requires.answer) in
    end-advances p c.end-in-Next.new.self c.args.outcome (Some step) (Waiting c.in-Next.due) r
    c.requires.progress c.requires.script c.end-in-Next.ensures.rest
    (rw c.in-Next.is at c.end-in-Next.ensures.ended)
    (waits (job_in p) p.seen r.others r.s r.w c.args.outcome r.all r.soon r.own c.requires.goes_on
    output c.in-Next.due answered c.if-due-self.true)
    (AllContinued-append r.others (ended_attempt r.s p.seen c.args.outcome (Some step)) r.all refl)
    (IsStepped-asked p c.args.outcome r (Some step) c.requires.state)

-- combines two facts about a success
from_both : {T E : Type 0} {A B C : Type 0} (r : Result T E) → OnOk r A → OnOk r B →
    (A → B → C) → OnOk r C
from_both (Ok x) a b f = f a b
from_both (Err e) a b f = tt

pub returns-in-Next-2-clause-ok : goal.returns-in-Next-2-clause-ok
returns-in-Next-2-clause-ok c =
    let p = c.args.self.now in
    let r = ran p c.args.outcome p.phase refl c.requires.progress c.requires.running in
    let output = output_of c.args.out in
    let step = answer output (Next c.in-Next.due) in
    let answered = asked-answer p c.args.outcome r step (rw c.in-Next.is at c.requires.answer) in
    from_both c.restart.result c.restart.ensures.rest (rw c.in-Next.is at c.restart.ensures.ended)
    (λ rest ended.
    restart-advances p c.restart.new.self c.args.outcome (Some step) r refl c.requires.progress
    c.requires.script c.requires.state rest ended
    (restarts (job_in p) p.seen r.others r.s r.w c.args.outcome r.all r.soon r.own
    c.requires.goes_on output c.in-Next.due answered (omega arith)))
