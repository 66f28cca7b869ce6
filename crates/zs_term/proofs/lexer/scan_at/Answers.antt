use Rattle.std.proofs.Common.{◌<◌, ◌∙◌, length, arith, length-drop}
use Rattle.zs_term.proofs.Lexing.{lex_stuck, lex_found}
use Rattle.zs_term.proofs.lexer.scan_at.Goals as goal

pub returns-in-None : goal.returns-in-None
returns-in-None c =
    let text = c.args.text.now in
    let at = c.skip_spaces-at.result in
    let spaces = c.skip_spaces-at.ensures in
    let inside : at < length text = omega arith in
    record {
      value = spaces.same ∙ lex_stuck text at inside (spaces.no_space inside)
          (rw c.text_from-rest.ensures.value at c.in-None.ensures.value);
    }

pub returns-in-Some : goal.returns-in-Some
returns-in-Some c =
    let text = c.args.text.now in
    let at = c.skip_spaces-at.result in
    let spaces = c.skip_spaces-at.ensures in
    let inside : at < length text = omega arith in
    let found = rw c.text_from-rest.ensures.value at c.in-Some.ensures.value in
    record {
      value = (
        found.0,
        found.1,
        spaces.same ∙ lex_found text at c.in-Some.found.len found.0 inside (spaces.no_space inside)
            found.3 found.2,
        omega (arith, found.3),
        omega (arith, found.4, length-drop at text),
      );
    }
