use Rattle.std.proofs.Common.{◌≡◌, [], map, ap, ◌∙◌, rules}
use Rattle.std.proofs.lemmas.List.{with_items_is, places}
use Rattle.zs_term.specs.Parts.{without_term, bare_onto, joined_onto}
use Rattle.zs_term.proofs.Stacks.{stack_sizes}
use Rattle.zs_term.proofs.parser.Parser.drop_past.Goals as goal

pub returns-clause-sizes : goal.returns-clause-sizes
returns-clause-sizes c = λ past.
    let now = c.args.self.now in
    let forms : c.drop_terms.new.forms ≡ map without_term now.joined.items =
    c.drop_terms.ensures.value ∙ ap (map without_term) c.deref_mut.ensures.value in
    ap (λ ks. bare_onto now.bare (joined_onto [] ks))
    (with_items_is now.joined c.drop_terms.new.forms (search (rules, places)) ∙ forms)
    ∙ stack_sizes now.bare now.joined.items
