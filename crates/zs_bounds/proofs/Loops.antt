-- The turns of the loop of `bounds`.
use Rattle.std.proofs.Common.{◌≡◌, ℕ, suc, ◌+◌, ◌-◌, ◌<◌, ◌≤◌, min, true, false, nat_lt, Option}
use Rattle.std.proofs.Common.{Some, None, sym, ap, ◌∙◌, arith}
use Rattle.zs_term.specs.Schedule.{Schedule}
use Rattle.zs_bounds.specs.declared.driver.Driver.{Driver}
use Rattle.zs_bounds.specs.declared.told.Bounds.{Bounds}
use Rattle.zs_bounds.specs.declared.span.Span.{Span}
use Rattle.zs_bounds.specs.declared.decisions.Decisions.{Decisions}
use Rattle.zs_bounds.specs.Driven.{max_tick}
use Rattle.zs_bounds.specs.StateRange.{StateRange, next_range, next_state}
use Rattle.zs_bounds.specs.BoundsOf.{latest_of, wait_limit, with_step, complete, ended, unended}
use Rattle.zs_bounds.specs.BoundsOf.{real_decisions}
use Rattle.zs_bounds.specs.BoundsOf.{time_between, unless_past, after_waits, bounds_from}

-- what follows after one more step
abbrev rest_of : Schedule → Driver → ℕ → StateRange → Bounds → Span → ℕ → Bounds
rest_of s a n c b later time =
    bounds_from s a n (next_state s c later) (next_range s c later).decision time b

-- one of some more steps
bounds_from-more : (s : Schedule) (a : Driver) (n k : ℕ) (c : StateRange) (d : Decisions)
    (passed : ℕ) (b : Bounds) → n ≡ suc k →
    bounds_from s a n c d passed b
    ≡ after_waits a (real_decisions a d).waits passed
    (with_step (latest_of s a) a (real_decisions a d) b)
    (rest_of s a k c (with_step (latest_of s a) a (real_decisions a d) b))
bounds_from-more s a n k c d passed b is = ap (λ m. bounds_from s a m c d passed b) is

-- no step remains
pub loop_end : (s : Schedule) (l w : Option ℕ) (a : Driver) (steps k : ℕ) (c : StateRange)
    (d : Decisions) (passed : ℕ) (b : Bounds) → l ≡ latest_of s a →
    w ≡ wait_limit s → steps ≤ k → unended l w a b ≡ bounds_from s a (steps - k) c d passed b
loop_end s l w a steps k c d passed b limit longest le =
    let none : 0 ≡ steps - k = omega arith in
    ap (λ x. unended x w a b) limit
    ∙ ap (λ x. unended (latest_of s a) x a b) longest
    ∙ ap (λ m. bounds_from s a m c d passed b) none

-- a step with its limit and the driver's waits
step-is : (s : Schedule) (l : Option ℕ) (a : Driver) (d e : Decisions) (b : Bounds) →
    l ≡ latest_of s a → e ≡ real_decisions a d →
    with_step l a e b ≡ with_step (latest_of s a) a (real_decisions a d) b
step-is s l a d e b limit real =
    ap (λ x. with_step x a e b) limit ∙ ap (λ x. with_step (latest_of s a) a x b) real

-- a step that can't go on
pub loop_ends : (s : Schedule) (l : Option ℕ) (a : Driver) (steps k : ℕ) (c : StateRange)
    (d e : Decisions) (passed : ℕ) (b : Bounds) → l ≡ latest_of s a →
    e ≡ real_decisions a d → k < steps → e.waits ≡ None →
    ended (with_step l a e b) ≡ bounds_from s a (steps - k) c d passed b
loop_ends s l a steps k c d e passed b limit real lt none =
    let more : steps - k ≡ suc (steps - k - 1) = omega arith in
    let step = with_step (latest_of s a) a (real_decisions a d) b in
    let is : (real_decisions a d).waits ≡ None =
    sym (ap (λ (x : Decisions). x.waits) real) ∙ none in
    ap ended (step-is s l a d e b limit real)
    ∙ sym (bounds_from-more s a (steps - k) (steps - k - 1) c d passed b more
    ∙ ap (λ w. after_waits a w passed step (rest_of s a (steps - k - 1) c step)) is)

past-true : (x y : ℕ) → x < y → nat_lt x y ≡ true
past-true x y lt = grind arith

past-false : (x y : ℕ) → y ≤ x → nat_lt x y ≡ false
past-false x y le = grind arith

-- a step after which every clock has ended
pub loop_past : (s : Schedule) (l : Option ℕ) (a : Driver) (steps k : ℕ) (c : StateRange)
    (d e : Decisions) (passed : ℕ) (b : Bounds) (w : Span) → l ≡ latest_of s a →
    e ≡ real_decisions a d → k < steps → e.waits ≡ Some w →
    max_tick < passed + (time_between a w).low →
    complete (with_step l a e b) ≡ bounds_from s a (steps - k) c d passed b
loop_past s l a steps k c d e passed b w limit real lt some past =
    let more : steps - k ≡ suc (steps - k - 1) = omega arith in
    let later = time_between a w in
    let step = with_step (latest_of s a) a (real_decisions a d) b in
    let is : (real_decisions a d).waits ≡ Some w =
    sym (ap (λ (x : Decisions). x.waits) real) ∙ some in
    ap complete (step-is s l a d e b limit real)
    ∙ sym (bounds_from-more s a (steps - k) (steps - k - 1) c d passed b more
    ∙ ap (λ x. after_waits a x passed step (rest_of s a (steps - k - 1) c step)) is
    ∙ ap (λ x. unless_past x step
    (λ _. rest_of s a (steps - k - 1) c step later (passed + later.low)))
    (past-true max_tick (passed + later.low) past))

-- a step that may go on
pub loop_goes_on : (s : Schedule) (a : Driver) (steps k : ℕ) (c : StateRange) (d : Decisions)
    (passed : ℕ) (b : Bounds) (w : Span) → k < steps →
    (real_decisions a d).waits ≡ Some w → passed + (time_between a w).low ≤ max_tick →
    bounds_from s a (steps - (k + 1)) (next_state s c (time_between a w))
    (next_range s c (time_between a w)).decision (passed + (time_between a w).low)
    (with_step (latest_of s a) a (real_decisions a d) b)
    ≡ bounds_from s a (steps - k) c d passed b
loop_goes_on s a steps k c d passed b w lt some within =
    let more : steps - k ≡ suc (steps - (k + 1)) = omega arith in
    let later = time_between a w in
    let step = with_step (latest_of s a) a (real_decisions a d) b in
    sym (bounds_from-more s a (steps - k) (steps - (k + 1)) c d passed b more
    ∙ ap (λ x. after_waits a x passed step (rest_of s a (steps - (k + 1)) c step)) some
    ∙ ap (λ x. unless_past x step
    (λ _. rest_of s a (steps - (k + 1)) c step later (passed + later.low)))
    (past-false max_tick (passed + later.low) within))

-- what a turn of the loop leaves unchanged
pub loop_keeps : (s t : Schedule) (l : Option ℕ) (a : Driver) (steps k : ℕ) (c c' : StateRange)
    (d e d' : Decisions) (passed time : ℕ) (later : Span) (b b' all : Bounds)
    (w : Span) → k < steps → e ≡ real_decisions a d → e.waits ≡ Some w → later ≡ time_between a w →
    time ≡ min (passed + later.low) 18446744073709551615 →
    time ≤ max_tick → t ≡ s → c' ≡ next_state s c later → d' ≡ (next_range s c later).decision →
    b' ≡ with_step l a e b → l ≡ latest_of s a →
    bounds_from s a (steps - k) c d passed b ≡ all →
    bounds_from t a (steps - (k + 1)) c' d' time b' ≡ all
loop_keeps s t l a steps k c c' d e d' passed time later b b' all w lt real some late timed within
    same state decides told limit before =
    let now = time_between a w in
    let low : later.low ≡ now.low = ap (λ (x : Span). x.low) late in
    let is_time : time ≡ passed + now.low = omega (arith, timed, within, low) in
    let c-is : c' ≡ next_state s c now = state ∙ ap (λ x. next_state s c x) late in
    let d-is : d' ≡ (next_range s c now).decision =
    decides ∙ ap (λ x. (next_range s c x).decision) late in
    let is : (real_decisions a d).waits ≡ Some w =
    sym (ap (λ (x : Decisions). x.waits) real) ∙ some in
    let moved : bounds_from t a (steps - (k + 1)) c' d' time b'
    ≡ bounds_from s a (steps - (k + 1)) (next_state s c now) (next_range s c now).decision
    (passed + now.low) (with_step (latest_of s a) a (real_decisions a d) b) =
    ap (λ x. bounds_from x a (steps - (k + 1)) c' d' time b') same
    ∙ ap (λ x. bounds_from s a (steps - (k + 1)) x d' time b') c-is
    ∙ ap (λ x. bounds_from s a (steps - (k + 1)) (next_state s c now) x time b') d-is
    ∙ ap (λ x. bounds_from s a (steps - (k + 1)) (next_state s c now) (next_range s c now).decision
    x b') is_time
    ∙ ap (λ x. bounds_from s a (steps - (k + 1)) (next_state s c now) (next_range s c now).decision
    (passed + now.low) x) (told ∙ step-is s l a d e b limit real) in
    moved ∙ loop_goes_on s a steps k c d passed b w lt is (omega (arith, is_time, within)) ∙ before
