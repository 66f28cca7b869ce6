use Rattle.std.proofs.Common.{refl}
use Rattle.zs_term.specs.Machine.{start}
use Rattle.zs_term.specs.Parts.{stack_of}
use Rattle.zs_term.proofs.Totals.{watches}
use Rattle.zs_term.proofs.parser.Parser.watch.Goals as goal

pub returns-in-Start : goal.returns-in-Start
returns-in-Start c =
    let d = c.drop_past in
    let now = c.args.self.now in
    record {
      value = rw c.in-Start.is (watches d.result now.build d.new.self.build (stack_of now)
          (stack_of d.new.self) start start d.ensures.same d.ensures.built d.ensures.past
          d.ensures.sizes (λ e. refl) (λ e. refl));
    }
