-- Results of steps, one after another.
use Rattle.std.proofs.Common.{◌≡◌, ℕ, ◌+◌, ◌<◌, ◌≤◌, List, [], ◌∷◌, ◌++◌, length, take, drop}
use Rattle.std.proofs.Common.{get_or, sym, ap, ◌∙◌, arith, subst, below_more}
use Rattle.std.proofs.lemmas.List.{get_or_append_left, get_or_at}
use Rattle.zs_term.specs.Schedule.{Schedule}
use Rattle.zs_step.specs.declared.stepped.Stepped.{Stepped}
use Rattle.zs_step.specs.History.{History, history_of, last_moment, IsInOrder}
use Rattle.zs_step.specs.Compiled.{IsAnswer}
use Rattle.zs_step.proofs.Histories.{history-take}
use Rattle.zs_step.proofs.Sequels.{history-cut}

-- the earlier part of a history in order is in order
order-behind : (k h : History) → IsInOrder (k ++ h) → IsInOrder h
order-behind [] h o = o
order-behind (p ∷ k) h o = order-behind k h o.1

-- in a list whose moments don't fall, each moment is at or after the one before it
pub order-at : (xs : List (ℕ × ℕ)) (i : ℕ) (d : ℕ × ℕ) → i < length xs → IsInOrder (history_of xs) →
    last_moment (history_of (take i xs)) ≤ (get_or xs i d).0
order-at xs i d lt order =
    let whole : IsInOrder (history_of (drop (i + 1) xs) ++ history_of (take (i + 1) xs)) =
    subst IsInOrder (history-cut xs (i + 1)) order in
    let part : IsInOrder (get_or xs i d ∷ history_of (take i xs)) =
    subst IsInOrder (history-take xs i d lt)
    (order-behind (history_of (drop (i + 1) xs)) (history_of (take (i + 1) xs)) whole) in
    part.0

-- one more result
pub answers-push : (t : Schedule) (xs : List (ℕ × ℕ)) (ys zs : List Stepped) (i : ℕ) (r : Stepped) →
    zs ≡ ys ++ r ∷ [] → length ys ≡ i →
    ((j : ℕ) (d : Stepped) → j < i → IsAnswer t (history_of (take (j + 1) xs)) (get_or ys j d)) →
    IsAnswer t (history_of (take (i + 1) xs)) r →
    (j : ℕ) (d : Stepped) → j < i + 1 → IsAnswer t (history_of (take (j + 1) xs)) (get_or zs j d)
answers-push t xs ys zs i r pushed long before now j d lt =
    let P : ℕ → Type 0 = λ k. IsAnswer t (history_of (take (k + 1) xs)) (get_or zs k d) in
    let below : (k : ℕ) → k < i → P k = λ k h.
    let l : k < length ys = omega arith in
    subst (IsAnswer t (history_of (take (k + 1) xs)))
    (sym (ap (λ l. get_or l k d) pushed ∙ get_or_append_left ys (r ∷ []) d k l))
    (before k d h) in
    let here : P i = subst (IsAnswer t (history_of (take (i + 1) xs)))
    (sym (ap (λ l. get_or l i d) pushed ∙ get_or_at ys r [] d i long)) now in
    below_more P i below here j lt

-- the first pairs of a list in order are in order
pub order-take : (xs : List (ℕ × ℕ)) (i : ℕ) → IsInOrder (history_of xs) →
    IsInOrder (history_of (take i xs))
order-take xs i order =
    order-behind (history_of (drop i xs)) (history_of (take i xs))
    (subst IsInOrder (history-cut xs i) order)
