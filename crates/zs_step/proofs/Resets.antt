-- The step at which a schedule was last reset.
use Rattle.std.proofs.Common.{◌≡◌, ℕ, ◌+◌, ◌<◌, ◌≤◌, Bool, true, false, List, [], ◌∷◌, length, take}
use Rattle.std.proofs.Common.{drop, get_or, sym, ap, ◌∙◌, arith}
use Rattle.std.proofs.lemmas.List.{take_more, drop-append-le, drop_all, length-take}
use Rattle.zs_term.specs.Output.{passes, picked}
use Rattle.zs_term.specs.declared.term.Test.{Test}
use Rattle.zs_term.specs.declared.term.Pick.{Pick}
use Rattle.zs_step.specs.History.{History, history_of}
use Rattle.zs_step.specs.Answer.{Answer, since_reset, reset_if}
use Rattle.zs_step.proofs.Histories.{history-push, history-take}

-- the part of a list from one index up to another, as a history with one more pair
part-more : (xs : List (ℕ × ℕ)) (s i : ℕ) (d : ℕ × ℕ) → i < length xs → s ≤ i →
    history_of (drop s (take (i + 1) xs)) ≡ get_or xs i d ∷ history_of (drop s (take i xs))
part-more xs s i d lt le =
    let n : s ≤ length (take i xs) = simp length-take (omega arith) in
    ap history_of (ap (drop s) (take_more xs i d lt) ∙ drop-append-le s (take i xs)
    (get_or xs i d ∷ []) n)
    ∙ history-push (drop s (take i xs)) (get_or xs i d)

-- one more step after the last reset
reset-turn : (f : History → Answer) (k : Pick) (t : Test) (xs : List (ℕ × ℕ)) (i s : ℕ) (a : Answer)
    (b : Bool) (d : ℕ × ℕ) → i < length xs → s ≤ i →
    since_reset f k t (history_of (take i xs)) ≡ history_of (drop s (take i xs)) →
    a ≡ f (history_of (drop s (take (i + 1) xs))) →
    b ≡ passes t (picked k a.output) →
    since_reset f k t (history_of (take (i + 1) xs))
    ≡ reset_if b (get_or xs i d) (history_of (drop s (take i xs)))
reset-turn f k t xs i s a b d lt le before is test =
    let p = get_or xs i d in
    let g = history_of (drop s (take i xs)) in
    let now : b ≡ passes t (picked k (f (p ∷ g)).output) =
    test ∙ ap (λ (x : Answer). passes t (picked k x.output))
    (is ∙ ap f (part-more xs s i d lt le)) in
    ap (since_reset f k t) (history-take xs i d lt)
    ∙ ap (λ h. reset_if (passes t (picked k (f (p ∷ h)).output)) p h) before
    ∙ ap (λ c. reset_if c p g) (sym now)

-- a step at which the test fails belongs to the part since the last reset
pub reset-goes-on : (f : History → Answer) (k : Pick) (t : Test) (xs : List (ℕ × ℕ)) (i s : ℕ)
    (a : Answer) (b : Bool) → i < length xs → s ≤ i →
    since_reset f k t (history_of (take i xs)) ≡ history_of (drop s (take i xs)) →
    a ≡ f (history_of (drop s (take (i + 1) xs))) →
    b ≡ passes t (picked k a.output) → b ≡ false →
    since_reset f k t (history_of (take (i + 1) xs)) ≡ history_of (drop s (take (i + 1) xs))
reset-goes-on f k t xs i s a b lt le before is test fails =
    reset-turn f k t xs i s a b (0, 0) lt le before is test
    ∙ ap (λ c. reset_if c (get_or xs i (0, 0)) (history_of (drop s (take i xs)))) fails
    ∙ sym (part-more xs s i (0, 0) lt le)

-- a step at which the test passes starts that part over
pub reset-begins : (f : History → Answer) (k : Pick) (t : Test) (xs : List (ℕ × ℕ)) (i s : ℕ)
    (a : Answer) (b : Bool) → i < length xs → s ≤ i →
    since_reset f k t (history_of (take i xs)) ≡ history_of (drop s (take i xs)) →
    a ≡ f (history_of (drop s (take (i + 1) xs))) →
    b ≡ passes t (picked k a.output) → b ≡ true →
    since_reset f k t (history_of (take (i + 1) xs)) ≡ history_of (drop i (take (i + 1) xs))
reset-begins f k t xs i s a b lt le before is test passed =
    let n : length (take i xs) ≤ i = simp length-take (omega arith) in
    reset-turn f k t xs i s a b (0, 0) lt le before is test
    ∙ ap (λ c. reset_if c (get_or xs i (0, 0)) (history_of (drop s (take i xs)))) passed
    ∙ ap (λ h. get_or xs i (0, 0) ∷ history_of h) (sym (drop_all i (take i xs) n))
    ∙ sym (part-more xs i i (0, 0) lt (omega arith))
