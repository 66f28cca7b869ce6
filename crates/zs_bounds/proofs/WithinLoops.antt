-- The turns of the loop of `attempts_within`.
use Rattle.std.proofs.Common.{◌≡◌, ℕ, suc, ◌+◌, ◌-◌, ◌<◌, ◌≤◌, true, false, nat_lt, Some, None, sym}
use Rattle.std.proofs.Common.{ap}
use Rattle.std.proofs.Common.{◌∙◌, arith}
use Rattle.zs_term.specs.Schedule.{Schedule}
use Rattle.zs_bounds.specs.declared.driver.Driver.{Driver}
use Rattle.zs_bounds.specs.declared.span.Span.{Span}
use Rattle.zs_bounds.specs.declared.decisions.Decisions.{Decisions}
use Rattle.zs_bounds.specs.StateRange.{StateRange, next_range, next_state}
use Rattle.zs_bounds.specs.BoundsOf.{real_decisions, time_between}
use Rattle.zs_bounds.specs.WithinOf.{most_within, unless_late, after_begin, within_from}

-- what follows after one more step
abbrev rest_of : Schedule → Driver → ℕ → ℕ → StateRange → ℕ → Span → ℕ → ℕ
rest_of s a time more c n later at =
    within_from s a time more (next_state s c later) (next_range s c later).decision at (n + 1)

-- one of some more steps
within_from-more : (s : Schedule) (a : Driver) (time n k : ℕ) (c : StateRange) (d : Decisions)
    (passed m : ℕ) → n ≡ suc k →
    within_from s a time n c d passed m
    ≡ after_begin a (real_decisions a d).waits time passed m (rest_of s a time k c m)
within_from-more s a time n k c d passed m is = ap (λ x. within_from s a time x c d passed m) is

-- no step remains
pub within_end : (s : Schedule) (a : Driver) (time steps k : ℕ) (c : StateRange) (d : Decisions)
    (passed m : ℕ) → steps ≤ k →
    most_within a time ≡ within_from s a time (steps - k) c d passed m
within_end s a time steps k c d passed m le =
    let none : 0 ≡ steps - k = omega arith in ap (λ x. within_from s a time x c d passed m) none

-- a step that can't go on
pub within_ends : (s : Schedule) (a : Driver) (time steps k : ℕ) (c : StateRange) (d e : Decisions)
    (passed m : ℕ) → e ≡ real_decisions a d → k < steps → e.waits ≡ None →
    m ≡ within_from s a time (steps - k) c d passed m
within_ends s a time steps k c d e passed m real lt none =
    let more : steps - k ≡ suc (steps - k - 1) = omega arith in
    let is : (real_decisions a d).waits ≡ None =
    sym (ap (λ (x : Decisions). x.waits) real) ∙ none in
    sym (within_from-more s a time (steps - k) (steps - k - 1) c d passed m more
    ∙ ap (λ w. after_begin a w time passed m (rest_of s a time (steps - k - 1) c m)) is)

late-true : (x y : ℕ) → x < y → nat_lt x y ≡ true
late-true x y lt = grind arith

late-false : (x y : ℕ) → y ≤ x → nat_lt x y ≡ false
late-false x y le = grind arith

-- a step after which the next attempt begins after the time
pub within_late : (s : Schedule) (a : Driver) (time steps k : ℕ) (c : StateRange) (d e : Decisions)
    (passed m : ℕ) (w : Span) → e ≡ real_decisions a d → k < steps → e.waits ≡ Some w →
    time < passed + (time_between a w).low →
    m ≡ within_from s a time (steps - k) c d passed m
within_late s a time steps k c d e passed m w real lt some late =
    let more : steps - k ≡ suc (steps - k - 1) = omega arith in
    let later = time_between a w in
    let is : (real_decisions a d).waits ≡ Some w =
    sym (ap (λ (x : Decisions). x.waits) real) ∙ some in
    sym (within_from-more s a time (steps - k) (steps - k - 1) c d passed m more
    ∙ ap (λ x. after_begin a x time passed m (rest_of s a time (steps - k - 1) c m)) is
    ∙ ap (λ x. unless_late x m
    (λ _. rest_of s a time (steps - k - 1) c m later (passed + later.low)))
    (late-true time (passed + later.low) late))

-- what a turn of the loop leaves unchanged
pub within_keeps : (s t : Schedule) (a : Driver) (time steps k : ℕ) (c c' : StateRange)
    (d e d' : Decisions) (passed at : ℕ) (later : Span) (m all : ℕ) (w : Span) → k < steps →
    e ≡ real_decisions a d → e.waits ≡ Some w → later ≡ time_between a w →
    at ≡ passed + later.low → at ≤ time → t ≡ s → c' ≡ next_state s c later →
    d' ≡ (next_range s c later).decision →
    within_from s a time (steps - k) c d passed m ≡ all →
    within_from t a time (steps - (k + 1)) c' d' at (m + 1) ≡ all
within_keeps s t a time steps k c c' d e d' passed at later m all w lt real some late is_at within
    same state decides before =
    let more : steps - k ≡ suc (steps - (k + 1)) = omega arith in
    let is : (real_decisions a d).waits ≡ Some w =
    sym (ap (λ (x : Decisions). x.waits) real) ∙ some in
    let now = time_between a w in
    let low : later.low ≡ now.low = ap (λ (x : Span). x.low) late in
    let turn =
    within_from-more s a time (steps - k) (steps - (k + 1)) c d passed m more
    ∙ ap (λ x. after_begin a x time passed m (rest_of s a time (steps - (k + 1)) c m)) is
    ∙ ap (λ x. unless_late x m
    (λ _. rest_of s a time (steps - (k + 1)) c m now (passed + now.low)))
    (late-false time (passed + now.low) (omega (arith, within, is_at, low))) in
    let moved =
    ap (λ x. within_from x a time (steps - (k + 1)) c' d' at (m + 1)) same
    ∙ ap (λ x. within_from s a time (steps - (k + 1)) x d' at (m + 1)) state
    ∙ ap (λ x. within_from s a time (steps - (k + 1)) (next_state s c later) x at (m + 1)) decides
    ∙ ap (λ x. within_from s a time (steps - (k + 1)) (next_state s c later)
    (next_range s c later).decision x (m + 1)) is_at
    ∙ ap (λ x. within_from s a time (steps - (k + 1)) (next_state s c x) (next_range s c x).decision
    (passed + x.low) (m + 1)) late in
    moved ∙ sym turn ∙ before
