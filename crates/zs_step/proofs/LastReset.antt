-- The last step that reset a schedule.
use Rattle.std.proofs.Common.{◌≡◌, ℕ, true, [], ◌∷◌, ◌++◌, refl, sym, ap, ◌∙◌}
use Rattle.std.proofs.lemmas.List.{append-nil}
use Rattle.zs_term.specs.declared.term.Test.{Test}
use Rattle.zs_term.specs.declared.term.Pick.{Pick}
use Rattle.zs_step.specs.History.{History}
use Rattle.zs_step.specs.Answer.{Answer, since_reset, reset_if}
use Rattle.zs_step.specs.Laws.{IsWithoutReset, resets_at}

-- steps that don't reset extend the part since the last reset
pub since_reset-behind : (a : History → Answer) (k : Pick) (t : Test) (later before : History) →
    IsWithoutReset a k t later before →
    since_reset a k t (later ++ before) ≡ later ++ since_reset a k t before
since_reset-behind a k t [] before without = refl
since_reset-behind a k t (p ∷ later) before without =
    ap (λ b. reset_if b p (since_reset a k t (later ++ before))) (without [] later p refl)
    ∙ ap (λ h. p ∷ h) (since_reset-behind a k t later before
    (λ x y q whole. without (p ∷ x) y q (ap (λ h. p ∷ h) whole)))

-- the part from the last reset on
pub since_reset-last : (a : History → Answer) (k : Pick) (t : Test) (later before : History)
    (p : ℕ × ℕ) → resets_at a k t (p ∷ before) ≡ true →
    IsWithoutReset a k t later (p ∷ before) →
    since_reset a k t (later ++ p ∷ before) ≡ later ++ p ∷ []
since_reset-last a k t later before p resets without =
    since_reset-behind a k t later (p ∷ before) without
    ∙ ap (λ b. later ++ reset_if b p (since_reset a k t before)) resets

-- a history in which no step resets
pub since_reset-none : (a : History → Answer) (k : Pick) (t : Test) (h : History) →
    IsWithoutReset a k t h [] → since_reset a k t h ≡ h
since_reset-none a k t h without =
    ap (since_reset a k t) (sym (append-nil h)) ∙ since_reset-behind a k t h [] without
    ∙ append-nil h
