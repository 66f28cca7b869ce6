use Rattle.std.proofs.Common.{refl}
use Rattle.std.specs.Str.Parse.{digits_value}
use Rattle.zs_term.specs.Token.{number}
use Rattle.zs_term.proofs.Lexing.{number_found, some_digits}
use Rattle.zs_term.proofs.lexer.number.Goals as goal

pub returns : goal.returns
returns c =
    let ds = c.digits-digits.result.now in
    let some = some_digits c.args.bytes.now c.requires.digit in
    let e = c.digits-digits.ensures.value in
    record {
      value = (
        number (digits_value 10 ds),
        (digits_value 10 ds, refl, c.value.ensures.value),
        number_found c.args.bytes.now ds e (rw c.is_padded.ensures.value at c.if-is_padded.false),
        rw e some,
        c.digits-digits.ensures.within,
      );
    }
