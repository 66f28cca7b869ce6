use Rattle.zs_term.specs.Schedule.{schedule_of}
use Rattle.zs_term.proofs.Computed.{verdict_said}
use Rattle.zs_term.proofs.reader.read.Goals as goal

pub returns-clause-verdict : goal.returns-clause-verdict
returns-clause-verdict c =
    verdict_said c.args.text.now schedule_of c.judge.result c.judge.ensures.ok c.judge.ensures.err
