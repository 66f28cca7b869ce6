use Rattle.std.proofs.Common.{arith}
use Rattle.zs_term.proofs.Stacks.{bare_first, joined_push}
use Rattle.zs_term.proofs.parser.Parser.parse_after_term.Goals as goal

-- a `(` gets its operator
pub returns-in_ok-push-in-Operator-clause-value : goal.returns-in_ok-push-in-Operator-clause-value
returns-in_ok-push-in-Operator-clause-value c =
    rw c.in-Operator.is (rw (bare_first c.args.self.now.bare _ (omega (arith, c.if-self-gt0.true)))
    (rw c.in_ok-push-in-Operator.ensures.items (rw (joined_push _ _))))
