use Rattle.std.proofs.Common.{sym, subst, [], arith}
use Rattle.zs_term.specs.Parts.{state_in, joined_onto}
use Rattle.zs_term.specs.Reading.{SoFar}
use Rattle.zs_term.proofs.Stacks.{bare_within}
use Rattle.zs_term.proofs.Progress.{at_first, watched, finished, not_finished, no_token_here}
use Rattle.zs_term.proofs.Progress.{no_more, one_more}
use Rattle.zs_term.proofs.reader.whole.Goals as goal

pub loop-parser-init : goal.loop-parser-init
loop-parser-init c = rw c.new.ensures.items (at_first c.args.text.now)

pub returns-in-Some-clause-ok : goal.returns-in-Some-clause-ok
returns-in-Some-clause-ok c =
    let l = c.loop-parser in
    finished l.parser.build c.args.text.now (state_in l.parser l.stage) l.huge l.from l.invariant
    c.in-End.ensures.value _ c.in-Some.ensures.value

pub returns-in-None-clause-err : goal.returns-in-None-clause-err
returns-in-None-clause-err c =
    let l = c.loop-parser in
    not_finished l.parser.build c.args.text.now (state_in l.parser l.stage) l.huge l.from
    l.invariant c.in-End.ensures.value c.in-None.ensures.value

pub returns-in-Stuck-clause-err : goal.returns-in-Stuck-clause-err
returns-in-Stuck-clause-err c =
    let l = c.loop-parser in
    no_token_here l.parser.build c.args.text.now (state_in l.parser l.stage) l.huge l.from
    l.invariant c.in-Stuck.place c.in-Stuck.ensures.value

-- each open form takes a byte
pub after_lexeme-requires : goal.after_lexeme-requires
after_lexeme-requires c =
    let l = c.loop-parser in
    let t = c.in-Next.ensures.value in
    let forms = bare_within l.parser.bare (joined_onto [] l.parser.joined.items) in
    record { room = omega (arith, l.invariant.nested, forms, t.3, t.4) }

pub returns-in-Ok-None-clause-err : goal.returns-in-Ok-None-clause-err
returns-in-Ok-None-clause-err c =
    let l = c.loop-parser in
    let t = c.in-Next.ensures.value in
    let stepped = rw c.in-Ok-None.field-0-is at (c.in-Ok-None.ensures.value t.0 t.1) in
    no_more l.parser.build c.args.text.now (state_in l.parser l.stage) l.huge l.from l.invariant
    c.in-Next.place c.in-Next.end t.0 t.2 (sym stepped)

pub loop-parser-preserved : goal.loop-parser-preserved
loop-parser-preserved c =
    let l = c.loop-parser in
    let t = c.in-Next.ensures.value in
    let stepped = rw c.in-Ok-Some.field-0-is at (c.in-Ok-Some.ensures.value t.0 t.1) in
    let next = one_more l.parser.build c.args.text.now (state_in l.parser l.stage) l.huge l.from
    l.invariant c.in-Next.place c.in-Next.end t.0 _ c.huge_after-huge.result t.2 t.3 t.4
    (sym stepped) (c.huge_after-huge.ensures.value t.0 t.1) in
    watched c.after_lexeme.new.self.build c.watch.new.self.build c.args.text.now _ _
    c.huge_after-huge.result c.in-Next.end
    (subst (λ b. SoFar b c.args.text.now (state_in c.after_lexeme.new.self c.in-Ok-Some.next)
    c.huge_after-huge.result c.in-Next.end) (sym c.in-Ok-Some.ensures.build) next)
    c.watch.ensures.value
