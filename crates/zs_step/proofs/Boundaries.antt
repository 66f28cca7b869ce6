-- The next boundary of a period.
use Rattle.std.proofs.Common.{◌≡◌, ℕ, suc, ◌+◌, ◌-◌, ◌*◌, ◌%◌, ◌/◌, ◌<◌, ◌≤◌, ◌⊎◌, inl, inr, true}
use Rattle.std.proofs.Common.{false, ◌||◌, nat_lt, nat_eq, if◌then◌else◌, [], ◌∷◌, refl, arith, sym}
use Rattle.std.proofs.Common.{ap, ◌∙◌}
use Rattle.std.proofs.Math.Nat.{div-add-mod, mod-lt, mul-suc, mul-le-mul_left}
use Rattle.zs_term.specs.Saturating.{saturated}
use Rattle.zs_step.specs.History.{History, first_moment, last_moment, IsInOrder}
use Rattle.zs_step.specs.Answer.{run_after, window_end}
use Rattle.zs_step.specs.Laws.{IsNextBoundary}

-- a history in order begins no later than it ends
pub first-last : (h : History) → IsInOrder h → first_moment h ≤ last_moment h
first-last [] order = omega arith
first-last (p ∷ []) order = omega arith
first-last (p ∷ (q ∷ h)) order = omega (arith, order.0, first-last (q ∷ h) order.1)

-- a number is at most another one, or greater
at_most_or_past : (k q : ℕ) → (k ≤ q) ⊎ (suc q ≤ k)
at_most_or_past k q = grind arith

-- no boundary is after the last one at or before a moment and before the next one
boundary-past : (n first now q k : ℕ) → first + n * q ≤ now → now < first + n * k →
    first + n * suc q ≤ first + n * k
boundary-past n first now q k before after =
    elim (at_most_or_past k q) [
      | inl small ↦ omega (arith, mul-le-mul_left n small, before, after)
      | inr large ↦ omega (arith, mul-le-mul_left n large)
    ]

-- the next boundary, after some whole periods and a remainder
boundary-from : (n first now x q r : ℕ) → first ≤ now → n * q + r ≡ now - first → r < n →
    IsNextBoundary n first now x → x ≡ now + n - r
boundary-from n first now x q r le past rest b =
    let step = mul-suc n q in
    let upper : x ≤ first + n * suc q =
    b.least (first + n * suc q) (record { periods = suc q; is = refl })
    (omega (arith, step, past, rest, le)) in
    let after : now < first + n * b.boundary.periods = omega (arith, b.later, b.boundary.is) in
    let lower = boundary-past n first now q b.boundary.periods (omega (arith, past, le)) after in
    omega (arith, upper, lower, b.boundary.is, step, past, rest, le)

-- the first boundary after the first moment
pub first-boundary : (n now x : ℕ) → 1 ≤ n → IsNextBoundary n now now x → now + n ≡ x
first-boundary n now x pos b =
    let e = boundary-from n now now x 0 0 (omega arith) (omega arith) pos b in
    omega (arith, e)

-- the next boundary, by the remainder of a division
next-boundary : (n first now x : ℕ) → 1 ≤ n → first ≤ now → IsNextBoundary n first now x →
    x ≡ now + n - (now - first) % n
next-boundary n first now x pos le b =
    boundary-from n first now x ((now - first) / n) ((now - first) % n) le
    (div-add-mod (now - first) n) (mod-lt (now - first) pos) b

nonzero : (n : ℕ) → 1 ≤ n → nat_eq n 0 ≡ false
nonzero n pos = grind arith

-- the end of a window
pub window_end-is : (n first now x : ℕ) → 1 ≤ n → first ≤ now → IsNextBoundary n first now x →
    window_end n first now ≡ saturated x
window_end-is n first now x pos le b =
    ap (λ c. if c then now else saturated (now + n - (now - first) % n)) (nonzero n pos)
    ∙ ap saturated (sym (next-boundary n first now x pos le b))

not_behind : (a b : ℕ) → b ≤ a → nat_lt a b ≡ false
not_behind a b le = grind arith

is_behind : (a b : ℕ) → a < b → nat_lt a b ≡ true
is_behind a b lt = grind arith

-- the next run at a step that isn't late
pub run_after-is : (n first run now x : ℕ) → 1 ≤ n → first ≤ now → now ≤ run + n →
    IsNextBoundary n first now x → run_after n first run now ≡ saturated x
run_after-is n first run now x pos le timely b =
    let early : nat_lt (run + n) now || nat_eq n 0 ≡ false =
    ap (λ c. c || nat_eq n 0) (not_behind (run + n) now timely) ∙ nonzero n pos in
    ap (λ c. if c then now else saturated (now + n - (now - first) % n)) early
    ∙ ap saturated (sym (next-boundary n first now x pos le b))

-- the next run at a step that is late
pub run_after-behind : (n first run now : ℕ) → run + n < now → run_after n first run now ≡ now
run_after-behind n first run now late =
    ap (λ c. if c || nat_eq n 0 then now else saturated (now + n - (now - first) % n))
    (is_behind (run + n) now late)
