use Rattle.std.proofs.Common.{◌≡◌, ◌++◌, ◌∷◌, [], ap, ◌∙◌, List, ℕ}
use Rattle.zs_population.proofs.LastLines.{split-found, split-whole}
use Rattle.zs_population.proofs.report.split_last_line.Goals as goal

-- a line comes before the last one
pub returns-in-Some-clause-some : goal.returns-in-Some-clause-some
returns-in-Some-clause-some c =
    let rest : List ℕ = c.in_ok-last.rest.now in
    let is : c.args.text.now ≡ rest ++ 10 ∷ [] =
    c.in_ok-last.ensures.cases.0 ∙ ap (λ b. rest ++ b ∷ []) c.if-last-ne10.false in
    rw (c.split_at.ensures.front, c.split_at.ensures.back)
    (split-found c.args.text.now rest c.in-Some.at is c.in-Some.ensures.0.high c.in-Some.ensures.1
    c.in-Some.ensures.0.after)

-- there is one line
pub returns-in-None-clause-some : goal.returns-in-None-clause-some
returns-in-None-clause-some c =
    let rest : List ℕ = c.in_ok-last.rest.now in
    let is : c.args.text.now ≡ rest ++ 10 ∷ [] =
    c.in_ok-last.ensures.cases.0 ∙ ap (λ b. rest ++ b ∷ []) c.if-last-ne10.false in
    rw (c.split_at-in-None.ensures.front, c.split_at-in-None.ensures.back)
    (split-whole c.args.text.now rest is c.in-None.ensures)
