-- The policy of a line, by its parts.
use Rattle.std.proofs.Common.{◌≡◌, ◌==◌, ℕ, List, [], ◌∷◌, ◌++◌, Bool, true, false, Result, Ok, Err, None, if◌then◌else◌, refl, sym, ap, ◌∙◌}
use Rattle.std.specs.Prelude.{IsUtf8}
use Rattle.std.specs.Str.{is_utf8}
use Rattle.std.proofs.lemmas.Bool.{eqb-true}
use Rattle.std.proofs.lemmas.Str.{is_utf8-from_IsUtf8, IsUtf8-from_is_utf8}
use Rattle.zs_term.specs.Schedule.{Schedule}
use Rattle.zs_term.specs.Verdict.{verdict_of}
use Rattle.zs_term.specs.declared.fault.TermFault.{TermFault}
use Rattle.zs_bounds_lines.specs.Policies.{is_passed_over, judged, policy_in, policy_of, without_return}
use Rattle.zs_bounds_lines.specs.declared.fault.PolicyFault.TheVariants.{NotUtf8}

-- ---- the text of a line

-- a line by its last byte
pub without-last : (rest : List ℕ) (b : ℕ) → without_return (rest ++ b ∷ []) ≡ (if b == 13 then rest else rest ++ b ∷ [])
without-last [] b = refl
without-last (c ∷ []) b = elim (b == 13) as (λ t. c ∷ (if t then [] else b ∷ []) ≡ (if t then c ∷ [] else c ∷ b ∷ [])) [ true ↦ refl | false ↦ refl ]
without-last (c ∷ (d ∷ rest)) b =
    ap (λ bs. c ∷ bs) (without-last (d ∷ rest) b)
    ∙ elim (b == 13) as (λ t. c ∷ (if t then d ∷ rest else (d ∷ rest) ++ b ∷ []) ≡ (if t then c ∷ d ∷ rest else (c ∷ d ∷ rest) ++ b ∷ [])) [ true ↦ refl | false ↦ refl ]

not-true : (b : Bool) → (b ≡ true → ⊥) → b ≡ false
not-true true not = absurd (not refl)
not-true false not = refl

-- its last byte is a carriage return
pub without-cut : (line rest : List ℕ) (b : ℕ) → line ≡ rest ++ b ∷ [] → b ≡ 13 → without_return line ≡ rest
without-cut line rest b is return = ap without_return is ∙ without-last rest b ∙ (rw return refl)

-- it is another one
pub without-kept : (line rest : List ℕ) (b : ℕ) → line ≡ rest ++ b ∷ [] → (b ≡ 13 → ⊥) → without_return line ≡ line
without-kept line rest b is other =
    ap without_return is ∙ without-last rest b ∙ (rw (not-true (b == 13) (λ t. other (eqb-true b 13 t))) (sym is))

-- ---- the policy of a line

-- the line is UTF-8
pub policy-in : (line text : List ℕ) → text ≡ without_return line → IsUtf8 text → policy_of line ≡ policy_in text
unfolding policy_of
policy-in line text is utf8 = rw (sym is, is_utf8-from_IsUtf8 text utf8) refl

-- it isn't
pub policy-not : (line text : List ℕ) → text ≡ without_return line → (IsUtf8 text → ⊥) → policy_of line ≡ Err NotUtf8
unfolding policy_of
policy-not line text is never = rw (sym is, not-true (is_utf8 text) (λ t. never (IsUtf8-from_is_utf8 text t))) refl

pub no-policy : (text : List ℕ) → is_passed_over text ≡ true → policy_in text ≡ Ok None
no-policy text is = rw is refl

pub judged-policy : (text : List ℕ) (verdict : Result Schedule TermFault) → is_passed_over text ≡ false → verdict_of text ≡ verdict → policy_in text ≡ judged verdict
judged-policy text verdict other is = rw (other, is) refl
