-- Infix forms that are opened, continued and closed.
use Rattle.std.proofs.Common.{◌≡◌, ℕ, zero, suc, ◌<◌, ◌≤◌, ◌-◌, List, [], ◌∷◌, ◌++◌, ◌+◌, length}
use Rattle.std.proofs.Common.{Option, Some, None, refl, ap, ◌∙◌, arith, add-one}
use Rattle.std.specs.Prelude.{option_map, map}
use Rattle.zs_term.specs.Machine.{Stage, at, Frame, left, right}
use Rattle.zs_term.specs.Parts.{Kept, kept_of, stage_of, bare_onto, joined_onto, sizes_of}
use Rattle.zs_term.specs.Parts.{sizes_frame, without_term}
use Rattle.zs_term.specs.Totals.{whole}
use Rattle.zs_term.specs.declared.parser.Stage.{Stage as StageKept}
use Rattle.zs_term.specs.declared.parser.Joined.{Joined}

-- one more `(`
pub bare_more : (n : ℕ) (fs : List (Frame Kept)) → bare_onto (n + 1) fs ≡ left ∷ bare_onto n fs
bare_more n fs = ap (λ k. bare_onto k fs) (add-one n)

-- the innermost of some `(` without an operator
pub bare_first : (n : ℕ) (fs : List (Frame Kept)) → 0 < n →
    bare_onto n fs ≡ left ∷ bare_onto (n - 1) fs
bare_first n fs h = let e : n ≡ (n - 1) + 1 = omega (arith, h) in
    ap (λ k. bare_onto k fs) e ∙ bare_more (n - 1) fs

-- no `(` without an operator is open
pub bare_none : (n : ℕ) (fs : List (Frame Kept)) → n ≤ 0 → bare_onto n fs ≡ fs
bare_none zero fs h = refl
bare_none (suc n) fs h = absurd (omega (arith, h))

-- one more form whose operator was read
onto_push : (fs : List (Frame Kept)) (ks : List Joined) (k : Joined) →
    joined_onto fs (ks ++ k ∷ []) ≡ right k.form (kept_of k.left)
    ∷ bare_onto k.before (joined_onto fs ks)
onto_push fs [] k = refl
onto_push fs (j ∷ ks) k = onto_push (right j.form (kept_of j.left) ∷ bare_onto j.before fs) ks k

pub joined_push : (ks : List Joined) (k : Joined) →
    joined_onto [] (ks ++ k ∷ []) ≡ right k.form (kept_of k.left)
    ∷ bare_onto k.before (joined_onto [] ks)
joined_push ks k = onto_push [] ks k

-- no form is open
bare_length : (n : ℕ) (fs : List (Frame Kept)) → length fs ≤ length (bare_onto n fs)
bare_length zero fs = omega arith
bare_length (suc n) fs = omega (arith, bare_length n fs)

onto_length : (fs : List (Frame Kept)) (ks : List Joined) →
    length ks + length fs ≤ length (joined_onto fs ks)
onto_length fs [] = omega arith
onto_length fs (k ∷ ks) =
    omega (
      arith,
      onto_length (right k.form (kept_of k.left) ∷ bare_onto k.before fs) ks,
      bare_length k.before fs,
    )

pub stack_empty : (n : ℕ) (ks : List Joined) → bare_onto n (joined_onto [] ks) ≡ [] →
    (n ≡ 0) × (length ks ≡ 0)
stack_empty zero ks h = (refl, omega (arith, onto_length [] ks, ap length h))
stack_empty (suc n) ks h = omega (arith, ap length h)

pub map_map : (fs : List (Frame Kept)) (o : Option StageKept) (q : Option (Stage Kept (Option ℕ))) →
    option_map stage_of o ≡ q →
    option_map (λ m. at fs (stage_of m)) o ≡ option_map (λ next. at fs next) q
map_map fs None q e = ap (option_map (λ next. at fs next)) e
map_map fs (Some k) q e = ap (option_map (λ next. at fs next)) e

-- `(` without an operator add nothing to the sizes
pub whole_bare : (n : ℕ) (fs : List (Frame Kept)) (p : ℕ × ℕ) →
    whole (bare_onto n fs) p ≡ whole fs p
whole_bare zero fs p = refl
whole_bare (suc n) fs p = whole_bare n fs p

-- no more `(` than forms are open
pub bare_within : (n : ℕ) (fs : List (Frame Kept)) → n ≤ length (bare_onto n fs)
bare_within zero fs = omega arith
bare_within (suc n) fs = omega (arith, bare_within n fs)

bare_sizes : (n : ℕ) (fs : List (Frame Kept)) →
    bare_onto n (map sizes_frame fs) ≡ map sizes_frame (bare_onto n fs)
bare_sizes zero fs = refl
bare_sizes (suc n) fs = ap (λ gs. left ∷ gs) (bare_sizes n fs)

onto_sizes : (fs : List (Frame Kept)) (ks : List Joined) →
    joined_onto (map sizes_frame fs) (map without_term ks) ≡ map sizes_frame (joined_onto fs ks)
onto_sizes fs [] = refl
onto_sizes fs (k ∷ ks) = ap (λ gs. joined_onto (right k.form (sizes_of (kept_of k.left)) ∷ gs)
    (map without_term ks)) (bare_sizes k.before fs)
    ∙ onto_sizes (right k.form (kept_of k.left) ∷ bare_onto k.before fs) ks

-- all open forms without their terms
pub stack_sizes : (n : ℕ) (ks : List Joined) → bare_onto n (joined_onto [] (map without_term ks))
    ≡ map sizes_frame (bare_onto n (joined_onto [] ks))
stack_sizes n ks = ap (bare_onto n) (onto_sizes [] ks) ∙ bare_sizes n (joined_onto [] ks)
