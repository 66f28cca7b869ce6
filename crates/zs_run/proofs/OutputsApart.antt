-- The text of an output determines the output and its end.
use Rattle.std.proofs.Common.{◌≡◌, ◌++◌, inl, inr, ℕ, List, ◌∷◌, codes, refl, sym, ap, ◌∙◌, arith}
use Rattle.std.proofs.Common.{append_assoc}
use Rattle.zs_term.specs.Output.{Output, Outputs, number, pair, left, right, listed, none, more}
use Rattle.zs_term.specs.OutputText.{output_text, outputs_text, behind_text}
use Rattle.zs_run.specs.Distinct.{OutputFits, OutputsFit}
use Rattle.zs_run.proofs.Splits.{EndsNumber, clash, rest_of_both, number_split, number_begins}

-- ---- texts with what follows them

pair_text : (a b : Output) (r : List ℕ)
    → output_text (pair a b) ++ r ≡ 40 ∷ (output_text a ++ (44 ∷ (output_text b ++ (41 ∷ r))))
pair_text a b r = simp append_assoc

left_text : (a : Output) (r : List ℕ) →
    output_text (left a) ++ r ≡ codes "Left(" ++ (output_text a ++ (41 ∷ r))
left_text a r = simp append_assoc

right_text : (a : Output) (r : List ℕ) →
    output_text (right a) ++ r ≡ codes "Right(" ++ (output_text a ++ (41 ∷ r))
right_text a r = simp append_assoc

list_text : (xs : Outputs) (r : List ℕ) →
    output_text (listed xs) ++ r ≡ 91 ∷ (outputs_text xs ++ (93 ∷ r))
list_text xs r = simp append_assoc

more_text : (x : Output) (xs : Outputs) (r : List ℕ) →
    outputs_text (more x xs) ++ r ≡ output_text x ++ (behind_text xs ++ r)
more_text x xs r = simp append_assoc

behind_more : (x : Output) (xs : Outputs) (r : List ℕ) →
    behind_text (more x xs) ++ r ≡ 44 ∷ (output_text x ++ (behind_text xs ++ r))
behind_more x xs r = simp append_assoc

-- ---- an output doesn't begin like the text after a list

no_bracket : (x : Output) (r s : List ℕ) → OutputFits x → output_text x ++ r ≡ 93 ∷ s → ⊥
no_bracket (number n) r s fits h = number_begins n r s 93 fits (inr (omega arith)) h
no_bracket (pair a b) r s fits h = absurd (clash 40 93 _ s refl (sym (pair_text a b r) ∙ h))
no_bracket (left a) r s fits h = absurd (clash 76 93 _ s refl (sym (left_text a r) ∙ h))
no_bracket (right a) r s fits h = absurd (clash 82 93 _ s refl (sym (right_text a r) ∙ h))
no_bracket (listed xs) r s fits h = absurd (clash 91 93 _ s refl (sym (list_text xs r) ∙ h))

behind_ends : (xs : Outputs) (r : List ℕ) → EndsNumber (behind_text xs ++ (93 ∷ r))
behind_ends none r = inr (omega arith)
behind_ends (more x xs) r = inl (omega arith)

-- ---- outputs

mutual
  -- the text of an output, without a digit after it, determines the output and the rest
  pub output_split : (x y : Output) (r s : List ℕ) → OutputFits x → OutputFits y → EndsNumber r
      → EndsNumber s
      → output_text x ++ r ≡ output_text y ++ s → (x ≡ y) × (r ≡ s)
  output_split (number m) (number n) r s p q d e h = let same = number_split m n r s p q d e h in
      (ap number same.0, same.1)
  output_split (number m) (pair a b) r s p q d e h =
      absurd (number_begins m r _ 40 p (inl (omega arith)) (h ∙ pair_text a b s))
  output_split (number m) (left a) r s p q d e h =
      absurd (number_begins m r _ 76 p (inr (omega arith)) (h ∙ left_text a s))
  output_split (number m) (right a) r s p q d e h =
      absurd (number_begins m r _ 82 p (inr (omega arith)) (h ∙ right_text a s))
  output_split (number m) (listed xs) r s p q d e h =
      absurd (number_begins m r _ 91 p (inr (omega arith)) (h ∙ list_text xs s))
  output_split (pair a b) (number n) r s p q d e h =
      absurd (number_begins n s _ 40 q (inl (omega arith)) (sym h ∙ pair_text a b r))
  output_split (pair a b) (pair c f) r s p q d e h =
      let parts : output_text a ++ (44 ∷ (output_text b ++ (41 ∷ r)))
      ≡ output_text c ++ (44 ∷ (output_text f ++ (41 ∷ s))) =
      rest_of_both 40 40 _ _ (sym (pair_text a b r) ∙ h ∙ pair_text c f s) in
      let first = output_split a c _ _ p.0 q.0 (inl (omega arith)) (inl (omega arith)) parts in
      let second = output_split b f (41 ∷ r) (41 ∷ s) p.1 q.1 (inl (omega arith))
      (inl (omega arith)) (rest_of_both 44 44 _ _ first.1) in
      ((λ i. pair (first.0 i) (second.0 i)), rest_of_both 41 41 r s second.1)
  output_split (pair a b) (left c) r s p q d e h =
      absurd (clash 40 76 _ _ refl (sym (pair_text a b r) ∙ h ∙ left_text c s))
  output_split (pair a b) (right c) r s p q d e h =
      absurd (clash 40 82 _ _ refl (sym (pair_text a b r) ∙ h ∙ right_text c s))
  output_split (pair a b) (listed xs) r s p q d e h =
      absurd (clash 40 91 _ _ refl (sym (pair_text a b r) ∙ h ∙ list_text xs s))
  output_split (left a) (number n) r s p q d e h =
      absurd (number_begins n s _ 76 q (inr (omega arith)) (sym h ∙ left_text a r))
  output_split (left a) (pair b c) r s p q d e h =
      absurd (clash 76 40 _ _ refl (sym (left_text a r) ∙ h ∙ pair_text b c s))
  output_split (left a) (left b) r s p q d e h =
      let parts : output_text a ++ (41 ∷ r) ≡ output_text b ++ (41 ∷ s) = let g =
      sym (left_text a r) ∙ h ∙ left_text b s in cc in
      let inner = output_split a b (41 ∷ r) (41 ∷ s) p q (inl (omega arith))
      (inl (omega arith)) parts in
      (ap left inner.0, rest_of_both 41 41 r s inner.1)
  output_split (left a) (right b) r s p q d e h =
      absurd (clash 76 82 _ _ refl (sym (left_text a r) ∙ h ∙ right_text b s))
  output_split (left a) (listed xs) r s p q d e h =
      absurd (clash 76 91 _ _ refl (sym (left_text a r) ∙ h ∙ list_text xs s))
  output_split (right a) (number n) r s p q d e h =
      absurd (number_begins n s _ 82 q (inr (omega arith)) (sym h ∙ right_text a r))
  output_split (right a) (pair b c) r s p q d e h =
      absurd (clash 82 40 _ _ refl (sym (right_text a r) ∙ h ∙ pair_text b c s))
  output_split (right a) (left b) r s p q d e h =
      absurd (clash 82 76 _ _ refl (sym (right_text a r) ∙ h ∙ left_text b s))
  output_split (right a) (right b) r s p q d e h =
      let parts : output_text a ++ (41 ∷ r) ≡ output_text b ++ (41 ∷ s) = let g =
      sym (right_text a r) ∙ h ∙ right_text b s in cc in
      let inner = output_split a b (41 ∷ r) (41 ∷ s) p q (inl (omega arith))
      (inl (omega arith)) parts in
      (ap right inner.0, rest_of_both 41 41 r s inner.1)
  output_split (right a) (listed xs) r s p q d e h =
      absurd (clash 82 91 _ _ refl (sym (right_text a r) ∙ h ∙ list_text xs s))
  output_split (listed xs) (number n) r s p q d e h =
      absurd (number_begins n s _ 91 q (inr (omega arith)) (sym h ∙ list_text xs r))
  output_split (listed xs) (pair b c) r s p q d e h =
      absurd (clash 91 40 _ _ refl (sym (list_text xs r) ∙ h ∙ pair_text b c s))
  output_split (listed xs) (left b) r s p q d e h =
      absurd (clash 91 76 _ _ refl (sym (list_text xs r) ∙ h ∙ left_text b s))
  output_split (listed xs) (right b) r s p q d e h =
      absurd (clash 91 82 _ _ refl (sym (list_text xs r) ∙ h ∙ right_text b s))
  output_split (listed xs) (listed ys) r s p q d e h =
      let inner = outputs_split xs ys r s p q
      (rest_of_both 91 91 _ _ (sym (list_text xs r) ∙ h ∙ list_text ys s)) in
      (ap listed inner.0, inner.1)

  -- the same for the text of a list, up to its bracket
  outputs_split : (xs ys : Outputs) (r s : List ℕ) → OutputsFit xs → OutputsFit ys
      → outputs_text xs ++ (93 ∷ r) ≡ outputs_text ys ++ (93 ∷ s) → (xs ≡ ys) × (r ≡ s)
  outputs_split none none r s p q h = (refl, rest_of_both 93 93 r s h)
  outputs_split none (more y ys) r s p q h =
      absurd (no_bracket y _ r q.0 (sym (h ∙ more_text y ys (93 ∷ s))))
  outputs_split (more x xs) none r s p q h =
      absurd (no_bracket x _ s p.0 (sym (more_text x xs (93 ∷ r)) ∙ h))
  outputs_split (more x xs) (more y ys) r s p q h =
      let texts = sym (more_text x xs (93 ∷ r)) ∙ h ∙ more_text y ys (93 ∷ s) in
      let first = output_split x y _ _ p.0 q.0 (behind_ends xs r) (behind_ends ys s) texts in
      let behind = behind_split xs ys r s p.1 q.1 first.1 in
      ((λ i. more (first.0 i) (behind.0 i)), behind.1)

  behind_split : (xs ys : Outputs) (r s : List ℕ) → OutputsFit xs → OutputsFit ys
      → behind_text xs ++ (93 ∷ r) ≡ behind_text ys ++ (93 ∷ s) → (xs ≡ ys) × (r ≡ s)
  behind_split none none r s p q h = (refl, rest_of_both 93 93 r s h)
  behind_split none (more y ys) r s p q h =
      absurd (clash 93 44 r _ refl (h ∙ behind_more y ys (93 ∷ s)))
  behind_split (more x xs) none r s p q h =
      absurd (clash 44 93 _ s refl (sym (behind_more x xs (93 ∷ r)) ∙ h))
  behind_split (more x xs) (more y ys) r s p q h =
      let texts = rest_of_both 44 44 _ _
      (sym (behind_more x xs (93 ∷ r)) ∙ h ∙ behind_more y ys (93 ∷ s)) in
      let first = output_split x y _ _ p.0 q.0 (behind_ends xs r) (behind_ends ys s) texts in
      let behind = behind_split xs ys r s p.1 q.1 first.1 in
      ((λ i. more (first.0 i) (behind.0 i)), behind.1)
