-- A text that spells no term fails at exactly one place.
use Rattle.std.proofs.Common.{◌≡◌, ℕ, List, [], ◌∷◌, ◌++◌, Some, None, sym, ap, ◌∙◌, subst}
use Rattle.std.proofs.Common.{append_assoc, refl}
use Rattle.zs_term.specs.Schedule.{Schedule}
use Rattle.zs_term.specs.Token.{Token, Placed, lexed}
use Rattle.zs_term.specs.Grammar.{Spells, IsOpen}
use Rattle.zs_term.specs.Causes.{tokens_of, TextSpells, IsNoTermAt, refused, no_token, unfinished}
use Rattle.zs_term.proofs.Progress.{tokens_append}

-- a text that spells a term fails at no place
pub spells_or_not : (text : List ℕ) (t : Schedule) (at : ℕ) → TextSpells text t →
    IsNoTermAt text at → ⊥
spells_or_not text t _ s (refused before p behind e o n) =
    let shape : tokens_of (lexed text).tokens ≡ (tokens_of before ++ p.token ∷ [])
    ++ tokens_of behind =
    ap tokens_of e ∙ tokens_append before (p ∷ behind)
    ∙ sym (append_assoc (tokens_of before) (p.token ∷ []) (tokens_of behind)) in
    n (tokens_of behind, t, subst (λ ts. Spells ts t) shape s.spelled)
spells_or_not text t _ s (no_token at e o) = let never : None ≡ Some at = sym s.to_the_end ∙ e in cc
spells_or_not text t _ s (unfinished e o n) = n t s.spelled

-- if tokens begin a spelling, the first of them do too
longer_open : (xs ys : List Token) → IsOpen (xs ++ ys) → IsOpen xs
longer_open xs ys o = (ys ++ o.0, o.1, subst (λ ts. Spells ts o.1) (append_assoc xs ys o.0) o.2)

inside : (before : List Placed) (p : Placed) (behind : List Placed) →
    tokens_of (before ++ p ∷ behind) ≡ (tokens_of before ++ p.token ∷ []) ++ tokens_of behind
inside before p behind = tokens_append before (p ∷ behind) ∙ sym (append_assoc (tokens_of before)
    (p.token ∷ []) (tokens_of behind))

front_open : (all before : List Placed) (p : Placed) (behind : List Placed) →
    all ≡ before ++ p ∷ behind → IsOpen (tokens_of all) → IsOpen (tokens_of before ++ p.token ∷ [])
front_open all before p behind e o =
    longer_open (tokens_of before ++ p.token ∷ []) (tokens_of behind)
    (subst IsOpen (ap tokens_of e ∙ inside before p behind) o)

-- of two places, one is before the other, or they are equal
data Places (b : List Placed) (p : Placed) (c : List Placed) (q : Placed) : Type 0 where
  one : p ≡ q → Places b p c q
  first : (rest : List Placed) → c ≡ b ++ p ∷ rest → Places b p c q
  second : (rest : List Placed) → b ≡ c ++ q ∷ rest → Places b p c q

head_one : (p q : Placed) (xs ys : List Placed) → p ∷ xs ≡ q ∷ ys → p ≡ q
head_one p q xs ys e = cc

tail_one : (p q : Placed) (xs ys : List Placed) → p ∷ xs ≡ q ∷ ys → xs ≡ ys
tail_one p q xs ys e = cc

next : (x y : Placed) (b c : List Placed) (p q : Placed) → x ≡ y → Places b p c q →
    Places (x ∷ b) p (y ∷ c) q
next x y b c p q e (one f) = one f
next x y b c p q e (first rest f) = first rest cc
next x y b c p q e (second rest f) = second rest cc

places : (b c : List Placed) (p q : Placed) (hb hc : List Placed) → b ++ p ∷ hb ≡ c ++ q ∷ hc →
    Places b p c q
places [] [] p q hb hc e = one (head_one p q hb hc e)
places [] (y ∷ c) p q hb hc e = first c (ap (λ x. x ∷ c) (sym (head_one p y hb (c ++ q ∷ hc) e)))
places (x ∷ b) [] p q hb hc e = second b (ap (λ z. z ∷ b) (head_one x q (b ++ p ∷ hb) hc e))
places (x ∷ b) (y ∷ c) p q hb hc e =
    next x y b c p q (head_one x y (b ++ p ∷ hb) (c ++ q ∷ hc) e)
    (places b c p q hb hc (tail_one x y (b ++ p ∷ hb) (c ++ q ∷ hc) e))

same_place : (b c : List Placed) (p q : Placed) → Places b p c q → IsOpen (tokens_of b)
    → (IsOpen (tokens_of b ++ p.token ∷ []) → ⊥)
    → IsOpen (tokens_of c) → (IsOpen (tokens_of c ++ q.token ∷ []) → ⊥) → p.place ≡ q.place
same_place b c p q (one e) ob nb oc nc = ap (λ x. x.place) e
same_place b c p q (first rest e) ob nb oc nc = absurd (nb (front_open c b p rest e oc))
same_place b c p q (second rest e) ob nb oc nc = absurd (nc (front_open b c q rest e ob))

pub one_place : (text : List ℕ) (a b : ℕ) → IsNoTermAt text a → IsNoTermAt text b → a ≡ b
one_place text _ _ (refused b p hb e ob nb) (refused c q hc f oc nc) =
    same_place b c p q (places b c p q hb hc (sym e ∙ f)) ob nb oc nc
one_place text _ _ (refused b p hb e ob nb) (no_token at s o) =
    absurd (nb (front_open (lexed text).tokens b p hb e o))
one_place text _ _ (refused b p hb e ob nb) (unfinished s o n) =
    absurd (nb (front_open (lexed text).tokens b p hb e o))
one_place text _ _ (no_token at s o) (refused b p hb e ob nb) =
    absurd (nb (front_open (lexed text).tokens b p hb e o))
one_place text _ _ (no_token at s o) (no_token at2 s2 o2) = let same : Some at ≡ Some at2 =
    sym s ∙ s2 in cc
one_place text _ _ (no_token at s o) (unfinished s2 o2 n) = let never : None ≡ Some at =
    sym s2 ∙ s in absurd cc
one_place text _ _ (unfinished s o n) (refused b p hb e ob nb) =
    absurd (nb (front_open (lexed text).tokens b p hb e o))
one_place text _ _ (unfinished s o n) (no_token at s2 o2) = let never : None ≡ Some at =
    sym s ∙ s2 in absurd cc
one_place text _ _ (unfinished s o n) (unfinished s2 o2 n2) = refl
