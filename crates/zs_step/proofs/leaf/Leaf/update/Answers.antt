use Rattle.zs_step.proofs.Steps.{exponential-stands}
use Rattle.zs_step.proofs.leaf.Leaf.update.Goals as goal

pub returns-in-Exponential-clause-stands : goal.returns-in-Exponential-clause-stands
returns-in-Exponential-clause-stands c =
    exponential-stands c.args.self.now c.in-Exponential.base c.in-Exponential.factor
    c.in-Exponential.last c.in-Exponential.next c.saturating_mul.result c.args.now c.args.input
    c.in-Exponential.is c.saturating_mul.ensures
