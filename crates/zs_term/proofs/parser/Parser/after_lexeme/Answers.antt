use Rattle.zs_term.proofs.parser.Parser.after_lexeme.Goals as goal

pub returns-in-Number-clause-value : goal.returns-in-Number-clause-value
returns-in-Number-clause-value c = λ t h.
    let k = rw c.in-Number.is at h in
    let e = k.2 in
    let stepped = rw e at c.after_number.ensures.value in
    rw k.1 stepped
