use Rattle.std.proofs.Common.{◌≡◌, ◌∙◌, refl, sym}
use Rattle.std.specs.Prelude.{None, Some}
use Rattle.zs_drive.specs.declared.progress.Phase.TheVariants.{Over}
use Rattle.zs_drive.specs.Timeline.{ending_by_outcome}
use Rattle.zs_drive.specs.Progress.{job_in}
use Rattle.zs_drive.proofs.Steps.{ends-by_outcome}
use Rattle.zs_drive.proofs.Advancing.{ran, end-advances}
use Rattle.zs_drive.proofs.progress.Progress.finish.Goals as goal

-- the outcome itself ends the job
pub returns-in-Some-clause-ok : goal.returns-in-Some-clause-ok
returns-in-Some-clause-ok c =
    let p = c.args.self.now in
    let r = ran p c.args.outcome p.phase refl c.requires.progress c.requires.running in
    let by : ending_by_outcome p.mode c.args.outcome ≡ Some c.in-Some.ending =
    sym c.end_by_outcome.ensures.value ∙ c.in-Some.is in
    end-advances p c.end.new.self c.args.outcome None (Over c.in-Some.ending) r c.requires.progress
    c.requires.script
    c.end.ensures.rest c.end.ensures.ended
    (ends-by_outcome (job_in p) p.seen r.others r.s r.w c.args.outcome r.all r.soon r.own
    c.in-Some.ending by) tt tt
