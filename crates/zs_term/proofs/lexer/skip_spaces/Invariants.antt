use Rattle.std.proofs.Common.{◌≡◌, ◌≤◌, ◌-◌, length, drop}
use Rattle.zs_term.specs.Token.{lex}
use Rattle.zs_term.proofs.lexer.skip_spaces.Given as goal

abbrev pub invariant-loop-at : goal.invariant-loop-at
invariant-loop-at l = record {
  forward : l.from ≤ l.at;
  within : l.at ≤ length l.text;
  same : lex 0 l.from (drop l.from l.text) ≡ lex 0 l.at (drop l.at l.text);
}

abbrev pub decreases-loop-at : goal.decreases-loop-at
decreases-loop-at l = length l.text - l.at
