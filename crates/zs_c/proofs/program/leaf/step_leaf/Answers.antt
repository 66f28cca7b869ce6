use Rattle.std.proofs.Common.{◌+◌, ◌∷◌, ℕ, sym, ap, ◌∙◌, subst}
use Rattle.zs_term.specs.Saturating.{saturated}
use Rattle.zs_step.specs.Answer.{Answer, leaf_answer}
use Rattle.zs_step.specs.LeafState.{state_leaf, LeafRepresents}
use Rattle.zs_c.proofs.Leaves.{loaded-same, loaded-stands, leaf-stepped}
use Rattle.zs_c.proofs.program.leaf.step_leaf.Goals as goal

pub returns-clause-held : goal.returns-clause-held
returns-clause-held c h held =
    let p : ℕ × ℕ = (c.args.step.now.moment, c.args.step.now.input) in
    let from = c.load.ensures.value in
    let rule = ap state_leaf from ∙ loaded-same c.args.leaf c.args.words.now in
    let stood = subst (λ s. LeafRepresents s h) (sym from)
    (loaded-stands c.args.leaf h c.args.words.now held) in
    let step = c.step-decision.ensures in
    leaf-stepped (state_leaf c.args.leaf) c.step-decision.new.self h p c.step-decision.result
    c.args.words.now c.store.new.words c.saturating_add.result (step.same ∙ rule) held
    (step.stands h stood)
    (step.answered h stood ∙ ap (λ l. leaf_answer l (p ∷ h)) rule)
    (c.saturating_add.ensures ∙ ap (λ w. saturated (w + 1)) c.word.ensures.value)
    c.store.ensures.stored

pub returns-clause-decides : goal.returns-clause-decides
returns-clause-decides c h held =
    let p : ℕ × ℕ = (c.args.step.now.moment, c.args.step.now.input) in
    let from = c.load.ensures.value in
    let stood = subst (λ s. LeafRepresents s h) (sym from)
    (loaded-stands c.args.leaf h c.args.words.now held) in
    ap (λ (a : Answer). a.decision) (c.step-decision.ensures.answered h stood)
    ∙ ap (λ l. (leaf_answer l (p ∷ h)).decision)
    (ap state_leaf from ∙ loaded-same c.args.leaf c.args.words.now)
