use Rattle.std.proofs.Common.{◌≡◌, take}
use Rattle.std.specs.Str.Parse.{digits_value}
use Rattle.zs_term.specs.Number.{fit}
use Rattle.zs_term.proofs.lexer.value.Given as goal

abbrev pub invariant-loop-digit : goal.invariant-loop-digit
invariant-loop-digit l = l.sum ≡ fit (digits_value 10 (take l.digit-index l.digits))
