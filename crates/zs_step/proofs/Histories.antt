-- Lists of pairs, oldest first, as histories.
use Rattle.std.proofs.Common.{◌≡◌, ℕ, ◌+◌, ◌-◌, ◌<◌, ◌≤◌, List, [], ◌∷◌, ◌++◌, length, take, get_or}
use Rattle.std.proofs.Common.{refl, sym, ap, ◌∙◌, arith}
use Rattle.std.proofs.lemmas.List.{reverse-append, length-reverse, length-take, take_more, take_all}
use Rattle.std.proofs.lemmas.List.{get_or-take}
use Rattle.zs_step.specs.Answer.{next_run, run_after}
use Rattle.zs_step.specs.History.{History, history_of, first_moment, earlier}

-- one more pair at the end
pub history-push : (xs : List (ℕ × ℕ)) (p : ℕ × ℕ) → history_of (xs ++ p ∷ []) ≡ p ∷ history_of xs
history-push xs p = reverse-append xs (p ∷ [])

-- the history after one more pair
pub history-take : (xs : List (ℕ × ℕ)) (i : ℕ) (d : ℕ × ℕ) → i < length xs →
    history_of (take (i + 1) xs) ≡ get_or xs i d ∷ history_of (take i xs)
history-take xs i d h =
    ap history_of (take_more xs i d h) ∙ history-push (take i xs) (get_or xs i d)

-- the last pair and the history before it
pub history-last : (xs : List (ℕ × ℕ)) (d : ℕ × ℕ) → 0 < length xs →
    history_of xs ≡ get_or xs (length xs - 1) d ∷ history_of (take (length xs - 1) xs)
history-last xs d h =
    let n : length xs - 1 < length xs = omega arith in
    let m : length xs ≤ length xs - 1 + 1 = omega arith in
    ap history_of (sym (take_all (length xs - 1 + 1) xs m)) ∙ history-take xs (length xs - 1) d n

-- a history has a step for each pair
pub length-history : (xs : List (ℕ × ℕ)) → length (history_of xs) ≡ length xs
length-history = length-reverse

-- one step fewer
pub length-earlier : (h : History) → length (earlier h) ≡ length h - 1
length-earlier [] = omega arith
length-earlier (p ∷ h) = omega arith

-- a later step doesn't change the first moment
pub first_moment-behind : (p : ℕ × ℕ) (h : History) → 0 < length h →
    first_moment (p ∷ h) ≡ first_moment h
first_moment-behind p [] l = absurd (omega arith)
first_moment-behind p (q ∷ h) l = refl

-- the first moment is that of the oldest pair
first_moment-last : (h : History) (q : ℕ × ℕ) → first_moment (h ++ q ∷ []) ≡ q.0
first_moment-last [] q = refl
first_moment-last (p ∷ []) q = refl
first_moment-last (p ∷ (r ∷ h)) q = first_moment-last (r ∷ h) q

-- the first moment of a list that isn't empty
pub first_moment-list : (xs : List (ℕ × ℕ)) (d : ℕ × ℕ) → 0 < length xs →
    (get_or xs 0 d).0 ≡ first_moment (history_of xs)
first_moment-list [] d h = absurd (omega arith)
first_moment-list (p ∷ xs) d h =
    sym (ap first_moment (reverse-append (p ∷ []) xs) ∙ first_moment-last (history_of xs) p)

-- the next run at a step after the first
next_run-behind : (period : ℕ) (p : ℕ × ℕ) (h : History) → 0 < length h →
    next_run period (p ∷ h) ≡ run_after period (first_moment h) (next_run period h) p.0
next_run-behind period p [] l = absurd (omega arith)
next_run-behind period p (q ∷ h) l = refl

-- the next run after one more pair
pub next_run-take : (period : ℕ) (xs : List (ℕ × ℕ)) (i : ℕ) (d e : ℕ × ℕ) (run r : ℕ) → 0 < i →
    i < length xs →
    run ≡ next_run period (history_of (take i xs)) →
    r ≡ run_after period (get_or xs 0 e).0 run (get_or xs i d).0 →
    r ≡ next_run period (history_of (take (i + 1) xs))
next_run-take period xs i d e run r some lt before is =
    let n : 0 < length (take i xs) = simp length-take (omega arith) in
    let m : 0 < length (history_of (take i xs)) =
    simp (length-history, length-take) (omega arith) in
    let f : (get_or xs 0 e).0 ≡ first_moment (history_of (take i xs)) =
    ap (λ (p : ℕ × ℕ). p.0) (sym (get_or-take i xs 0 e some)) ∙ first_moment-list (take i xs) e n in
    is ∙ ap (λ k. run_after period k run (get_or xs i d).0) f
    ∙ ap (λ k. run_after period (first_moment (history_of (take i xs))) k (get_or xs i d).0) before
    ∙ sym (next_run-behind period (get_or xs i d) (history_of (take i xs)) m)
    ∙ sym (ap (next_run period) (history-take xs i d lt))
