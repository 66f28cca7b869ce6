-- A change of one view among those of all passes: as the rules see it, that view is the first.
use Rattle.std.proofs.Common.{◌≡◌, ℕ, zero, suc, ◌+◌, List, [], ◌∷◌, ◌++◌, set, refl, sym, ap, ◌∙◌}
use Rattle.std.proofs.Common.{subst, arith, append_assoc, flat_map, sum_by, IsPermutation}
use mathlib.Core.Option.{some, some-injective, some-ne-none}
use lib.ListN.{get_elem?}
use Rattle.std.proofs.lemmas.List.Sums.{sum_by-cons}
use Rattle.std.proofs.lemmas.List.Sorted.{IsPermutation-refl, IsPermutation-trans}
use Rattle.std.proofs.lemmas.List.Sorted.{IsPermutation-append_left, IsPermutation-append_right}
use Rattle.std.proofs.lemmas.List.Sorted.{IsPermutation-append_comm, IsPermutation-to_front}
use Rattle.std.proofs.lemmas.List.Sorted.{IsPermutation-pop_more}
use Rattle.zs_pool.specs.Runs.{Every}

-- the same views in another order
pub data Moved {V : Type 0} : List V → List V → Type 0 where
  same : (xs : List V) → Moved xs xs
  turn : (x y : V) (xs : List V) → Moved (x ∷ y ∷ xs) (y ∷ x ∷ xs)
  later : (x : V) (xs ys : List V) → Moved xs ys → Moved (x ∷ xs) (x ∷ ys)
  both : (xs ys zs : List V) → Moved xs ys → Moved ys zs → Moved xs zs

aside : {A : Type 0} (xs ys zs : List A) → IsPermutation (xs ++ (ys ++ zs)) (ys ++ (xs ++ zs))
aside xs ys zs = rw (← append_assoc xs ys zs, ← append_assoc ys xs zs)
    (IsPermutation-append_left zs (xs ++ ys) (ys ++ xs) (IsPermutation-append_comm xs ys))

module _ {V : Type 0} where
  pub total_two : (f : V → ℕ) (x y : V) (xs : List V) →
      sum_by f (x ∷ y ∷ xs) ≡ (f x + f y) + sum_by f xs
  total_two f x y xs = omega (arith, sum_by-cons f x (y ∷ xs), sum_by-cons f y xs)

  pub total_moved : (f : V → ℕ) (xs ys : List V) → Moved xs ys → sum_by f ys ≡ sum_by f xs
  total_moved f _ _ (same xs) = refl
  total_moved f _ _ (turn x y xs) = omega (arith, total_two f x y xs, total_two f y x xs)
  total_moved f _ _ (later x xs ys m) =
      omega (arith, total_moved f xs ys m, sum_by-cons f x xs, sum_by-cons f x ys)
  total_moved f _ _ (both xs ys zs m n) = total_moved f ys zs n ∙ total_moved f xs ys m

  pub every_moved : (P : V → Type 0) (xs ys : List V) → Moved xs ys → Every P xs → Every P ys
  every_moved P _ _ (same xs) h = h
  every_moved P _ _ (turn x y xs) h = (h.1.0, (h.0, h.1.1))
  every_moved P _ _ (later x xs ys m) h = (h.0, every_moved P xs ys m h.1)
  every_moved P _ _ (both xs ys zs m n) h = every_moved P ys zs n (every_moved P xs ys m h)

  pub lists_moved : {A : Type 0} (g : V → List A) (xs ys : List V) → Moved xs ys →
      IsPermutation (flat_map g xs) (flat_map g ys)
  lists_moved g _ _ (same xs) = IsPermutation-refl _
  lists_moved g _ _ (turn x y xs) = aside (g x) (g y) (flat_map g xs)
  lists_moved g _ _ (later x xs ys m) = IsPermutation-append_right (g x) _ _ (lists_moved g xs ys m)
  lists_moved g _ _ (both xs ys zs m n) =
      IsPermutation-trans _ _ _ (lists_moved g xs ys m) (lists_moved g ys zs n)

  pub every_map : (P Q : V → Type 0) (step : (u : V) → P u → Q u) (views : List V) → Every P views →
      Every Q views
  every_map P Q step [] h = tt
  every_map P Q step (x ∷ xs) h = (step x h.0, every_map P Q step xs h.1)

  -- if the views have no part of the total, another fact about each of them is enough
  pub every_idle : (P Q : V → Type 0) (f : V → ℕ) (idle : (u : V) → f u ≡ 0 → P u → Q u)
      (views : List V) → sum_by f views ≡ 0 → Every P views → Every Q views
  every_idle P Q f idle [] none h = tt
  every_idle P Q f idle (x ∷ xs) none h =
      let e = sum_by-cons f x xs in
      (idle x (omega arith) h.0, every_idle P Q f idle xs (omega arith) h.1)

  pub total_none : (g : V → ℕ) (views : List V) → Every (λ u. g u ≡ 0) views → sum_by g views ≡ 0
  total_none g [] h = refl
  total_none g (x ∷ xs) h = omega (arith, h.0, total_none g xs h.1, sum_by-cons g x xs)

  pub lists_none : {A : Type 0} (g : V → List A) (views : List V) → Every (λ u. g u ≡ []) views →
      flat_map g views ≡ []
  lists_none g [] h = refl
  lists_none g (x ∷ xs) h = λ i. h.0 i ++ lists_none g xs h.1 i

  -- one view as the first, before and after a change of it
  record Alone (views : List V) (pass : ℕ) (v : V) : Type 0 where
    pub rest : List V
    pub was : Moved views (v ∷ rest)
    pub becomes : (w : V) → Moved (w ∷ rest) (set views pass w)

  alone : (views : List V) (pass : ℕ) (v : V) → get_elem? views pass ≡ some v → Alone views pass v
  alone [] pass v at = absurd (some-ne-none v (sym at))
  alone (x ∷ xs) zero v at = let P : V → Type 0 =
      λ u. Moved (x ∷ xs) (u ∷ xs) in record {
        rest = xs;
        was = subst P (some-injective x v at) (same _);
        becomes = λ w. same _;
      }
  alone (x ∷ xs) (suc n) v at = let o = alone xs n v at in record {
    rest = x ∷ o.rest;
    was = both _ _ _ (later x _ _ o.was) (turn x v o.rest);
    becomes = λ w. both _ _ _ (turn w x o.rest) (later x _ _ (o.becomes w));
  }

  -- two views as the first, before and after they become a and b
  record Pair (views : List V) (pass other : ℕ) (v w a b : V) : Type 0 where
    pub rest : List V
    pub was : Moved views (v ∷ w ∷ rest)
    pub becomes : Moved (a ∷ b ∷ rest) (set (set views pass a) other b)

  pair : (views : List V) (pass other : ℕ) (v w a b : V) → get_elem? views pass ≡ some v →
      ¬ (other ≡ pass) → get_elem? (set views pass a) other ≡ some w → Pair views pass other v w a b
  pair [] pass other v w a b at apart at_other = absurd (some-ne-none v (sym at))
  pair (x ∷ xs) zero zero v w a b at apart at_other = absurd (apart refl)
  pair (x ∷ xs) zero (suc n) v w a b at apart at_other =
      let o = alone xs n w at_other in let P : V → Type 0 = λ u. Moved (x ∷ xs) (u ∷ w ∷ o.rest) in
      record {
        rest = o.rest;
        was = subst P (some-injective x v at) (later x _ _ o.was);
        becomes = later a _ _ (o.becomes b);
      }
  pair (x ∷ xs) (suc n) zero v w a b at apart at_other =
      let o = alone xs n v at in let P : V → Type 0 = λ u. Moved (x ∷ xs) (v ∷ u ∷ o.rest) in
      record {
        rest = o.rest;
        was = subst P (some-injective x w at_other)
            (both _ _ _ (later x _ _ o.was) (turn x v o.rest));
        becomes = both _ _ _ (turn a b o.rest) (later b _ _ (o.becomes a));
      }
  pair (x ∷ xs) (suc n) (suc m) v w a b at apart at_other =
      let o = pair xs n m v w a b at (λ e. apart (ap suc e)) at_other in
      record {
        rest = x ∷ o.rest;
        was = both _ _ _ (later x _ _ o.was)
            (both _ _ _ (turn x v (w ∷ o.rest)) (later v _ _ (turn x w o.rest)));
        becomes = both _ _ _ (later a _ _ (turn b x o.rest))
            (both _ _ _ (turn a x (b ∷ o.rest)) (later x _ _ o.becomes));
      }

  to_back : (x : V) (xs : List V) → Moved (x ∷ xs) (xs ++ x ∷ [])
  to_back x [] = same _
  to_back x (y ∷ ys) = both _ _ _ (turn x y ys) (later y _ _ (to_back x ys))

-- a rule H of some items and the views, which no order of the views changes
module _ {I V : Type 0} (H : I → List V → Type 0)
    (moved : (i : I) (xs ys : List V) → Moved xs ys → H i xs → H i ys) where
  -- what the rule says of the first view
  pub knows : (i : I) (views : List V) (pass : ℕ) (v : V) (F : Type 0) →
      ((rest : List V) → H i (v ∷ rest) → F) → H i views → get_elem? views pass ≡ some v → F
  knows i views pass v F step h at = let o = alone views pass v at in
      step o.rest (moved i _ _ o.was h)

  -- a step of one view
  pub changes : (i j : I) (views : List V) (pass : ℕ) (v : V) (Then : V → Type 0) →
      ((rest : List V) → H i (v ∷ rest) → (w : V) × H j (w ∷ rest) × Then w) → H i views →
      get_elem? views pass ≡ some v → (w : V) × H j (set views pass w) × Then w
  changes i j views pass v Then step h at = let o = alone views pass v at in
      let s = step o.rest (moved i _ _ o.was h) in (s.0, moved j _ _ (o.becomes s.0) s.1, s.2)

  -- one view becomes l, and a new view is r
  pub forked : (i : I) (views : List V) (pass : ℕ) (v l r : V) →
      ((rest : List V) → H i (v ∷ rest) → H i (r ∷ l ∷ rest)) → H i views →
      get_elem? views pass ≡ some v → H i (set views pass l ++ r ∷ [])
  forked i views pass v l r step h at = let o = alone views pass v at in
      moved i _ _ (both _ _ _ (later r _ _ (o.becomes l)) (to_back r _))
      (step o.rest (moved i _ _ o.was h))

  -- two views become a and b
  pub merged : (i : I) (views : List V) (pass other : ℕ) (v w a b : V) →
      ((rest : List V) → H i (v ∷ w ∷ rest) → H i (a ∷ b ∷ rest)) → H i views →
      get_elem? views pass ≡ some v → ¬ (other ≡ pass) →
      get_elem? (set views pass a) other ≡ some w → H i (set (set views pass a) other b)
  merged i views pass other v w a b step h at apart at_other = let o =
      pair views pass other v w a b at apart at_other in
      moved i _ _ o.becomes (step o.rest (moved i _ _ o.was h))

-- one more item, after those of the first view
pub grown : {A : Type 0} (base own rest : List A) (x : A) → IsPermutation base (own ++ rest) →
    IsPermutation (base ++ x ∷ []) ((own ++ x ∷ []) ++ rest)
grown base own rest x was = IsPermutation-pop_more _ own (rest ++ x ∷ []) rest x (rw append_assoc at
    (IsPermutation-append_left (x ∷ []) base (own ++ rest) was)) (IsPermutation-to_front rest x)

-- the only word of a table is written
pub one_word : (words : List ℕ) (t n : ℕ) → words ≡ t ∷ [] → set words 0 n ≡ n ∷ []
one_word words t n is = rw is
