-- The results of leaves are within their ranges, by the number of steps and the time since the
-- first one.
use Rattle.std.proofs.Common.{◌≡◌, ℕ, zero, suc, ◌+◌, ◌-◌, ◌*◌, ◌%◌, ◌^◌, ◌<◌, ◌≤◌, min, Bool, true}
use Rattle.std.proofs.Common.{false, ◌||◌, nat_lt, nat_le, nat_eq, if◌then◌else◌, Some, None, []}
use Rattle.std.proofs.Common.{◌∷◌, length, refl, sym, subst, arith}
use Rattle.std.proofs.Math.Nat.{pow-le-pow_right, mul-le-mul_left, mod-lt, mod-le}
use Rattle.zs_term.specs.Saturating.{saturated, max_moment}
use Rattle.zs_term.specs.Schedule.{Leaf, plain, counted, exponential, has_factor}
use Rattle.zs_term.specs.declared.forms.Plain.TheVariants.{Forever, Identity, Elapsed}
use Rattle.zs_term.specs.declared.forms.Counted.TheVariants.{Recurs, Spaced, Fixed, Fibonacci}
use Rattle.zs_term.specs.declared.forms.Counted.TheVariants.{Linear, Windowed}
use Rattle.zs_step.specs.declared.decision.Decision.TheVariants.{Next}
use Rattle.zs_step.specs.History.{History, first_moment, last_moment}
use Rattle.zs_step.specs.Answer.{fibonacci_number, leaf_answer, next_run, run_after, window_end}
use Rattle.zs_step.specs.Answer.{only_if}
use Rattle.zs_bounds.specs.declared.span.Span.{Span}
use Rattle.zs_bounds.specs.Driven.{max_tick, IsStep}
use Rattle.zs_bounds.specs.Span.{IsIn, span}
use Rattle.zs_bounds.specs.DecisionRange.{IsWaitIn, IsDecisionIn, decisions}
use Rattle.zs_bounds.specs.AnswerRange.{IsAnswerIn, leaf_range, delays, at_once, uncut_wait}
use Rattle.zs_bounds.specs.AnswerRange.{earlier_steps, period_waits, span_of}
use Rattle.zs_bounds.proofs.Spans.{in-itself}
use Rattle.zs_bounds.proofs.Outputs.{saturated-rises}

-- The number of a history's steps, and the time since the first one, are within two spans.
pub record Counts (n t : Span) (h : History) : Type 0 where
  pub some : 0 < length h
  pub steps : IsIn (length h) n
  pub early : first_moment h + t.low ≤ last_moment h
  pub late : last_moment h ≤ first_moment h + t.high

-- ---- numbers of steps

-- the number of earlier steps
earlier-in : (n : Span) (p : ℕ × ℕ) (h : History) → length (p ∷ h) ≤ max_moment →
    IsIn (length (p ∷ h)) n →
    IsIn (saturated (length h)) (earlier_steps n)
earlier-in n p h small h_in = record {
  low = omega (arith, h_in.low);
  high = omega (arith, h_in.high);
}

-- the same, if it isn't cut
earlier-exact : (n : Span) (p : ℕ × ℕ) (h : History) → IsIn (length (p ∷ h)) n →
    IsIn (length h) (earlier_steps n)
earlier-exact n p h h_in = record {
  low = omega (arith, h_in.low);
  high = omega (arith, h_in.high);
}

-- ---- waits

-- no wait
at_once-in : (m : ℕ) → IsWaitIn m at_once m
at_once-in m = record {
  low = omega arith;
  high = omega arith;
}

-- a delay within a span, which may be cut at the greatest moment
delay-in : (m x : ℕ) (s : Span) → m ≤ max_tick → IsIn x s →
    IsWaitIn m (delays s) (saturated (m + x))
delay-in m x s tick h = record {
  low = omega (arith, h.low);
  high = omega (arith, h.high);
}

-- ---- `recurs`

recurs-goes_on : (l n k : ℕ) → l ≤ n → nat_lt n k ≡ true → nat_lt l k ≡ true
recurs-goes_on l n k le e = grind arith

recurs-stops : (n h k : ℕ) → n ≤ h → nat_lt n k ≡ false → nat_le k h ≡ true
recurs-stops n h k le e = grind arith

recurs-in : (m n k : ℕ) (s : Span) (b : Bool) → IsIn n s → nat_lt n k ≡ b →
    IsDecisionIn m (only_if b (Next m))
    (decisions (nat_le k s.high) (if nat_lt s.low k then at_once else None))
recurs-in m n k s true h e =
    subst (λ c. IsWaitIn m (if c then at_once else None) m) (sym (recurs-goes_on s.low n k h.low e))
    (at_once-in m)
recurs-in m n k s false h e = recurs-stops n s.high k h.high e

-- ---- functions of the number of steps that don't fall

-- a function of each bound
span_of-in : (f : ℕ → ℕ) (n : ℕ) (s : Span) → ((i j : ℕ) → i ≤ j → f i ≤ f j) → IsIn n s →
    IsIn (f n) (span_of f s)
span_of-in f n s rises h = record {
  low = rises s.low n h.low;
  high = rises n s.high h.high;
}

-- a factor of at least 1
factor-some : (f : ℕ) → nat_le 1 f ≡ true → 0 < f
factor-some f e = grind arith

pub power-rises : (b f : ℕ) → 0 < f → (i j : ℕ) → i ≤ j →
    saturated (b * f ^ i) ≤ saturated (b * f ^ j)
power-rises b f some i j le =
    saturated-rises (b * f ^ i) (b * f ^ j) (mul-le-mul_left b (pow-le-pow_right some le))

linear-rises : (b i j : ℕ) → i ≤ j → saturated (b * i) ≤ saturated (b * j)
linear-rises b i j le = saturated-rises (b * i) (b * j) (mul-le-mul_left b le)

-- the numbers of Fibonacci don't fall
fibonacci-step : (n : ℕ) → fibonacci_number n ≤ fibonacci_number (suc n)
fibonacci-step zero = omega arith
fibonacci-step (suc zero) = omega arith
fibonacci-step (suc (suc n)) = omega arith

fibonacci-more : (k i : ℕ) → fibonacci_number i ≤ fibonacci_number (k + i)
fibonacci-more zero i =
    let e : zero + i ≡ i = omega arith in
    subst (λ n. fibonacci_number i ≤ fibonacci_number n) (sym e) (omega arith)
fibonacci-more (suc k) i =
    let e : suc k + i ≡ suc (k + i) = omega arith in
    let before = fibonacci-more k i in
    let after = fibonacci-step (k + i) in
    subst (λ n. fibonacci_number i ≤ fibonacci_number n) (sym e) (omega (arith, before, after))

pub fibonacci-rises : (o i j : ℕ) → i ≤ j →
    saturated (o * fibonacci_number i) ≤ saturated (o * fibonacci_number j)
fibonacci-rises o i j le =
    let e : j - i + i ≡ j = omega arith in
    let more : fibonacci_number i ≤ fibonacci_number j =
    subst (λ n. fibonacci_number i ≤ fibonacci_number n) e (fibonacci-more (j - i) i) in
    saturated-rises (o * fibonacci_number i) (o * fibonacci_number j) (mul-le-mul_left o more)

-- ---- periods

-- a choice within bounds
choice-in : (b : Bool) (l h x y : ℕ) → l ≤ x → x ≤ h → l ≤ y → y ≤ h →
    (l ≤ (if b then x else y)) × ((if b then x else y) ≤ h)
choice-in true l h x y xl xh yl yh = (xl, xh)
choice-in false l h x y xl xh yl yh = (yl, yh)

-- the rest of a period is less than it
rest-below : (p x : ℕ) → x % suc p < suc p
rest-below p x = mod-lt x (omega arith)

-- a boundary after a moment of a clock is later, and at most a period later
boundary-in : (m p x : ℕ) → m ≤ max_tick → (m + 1 ≤ saturated (m + suc p - x % suc p))
    × (saturated (m + suc p - x % suc p) ≤ m + suc p)
boundary-in m p x tick =
    let below = rest-below p x in
    (omega (arith, below), omega (arith, below))

-- a choice with true in it
or-true : (b : Bool) → (b || true) ≡ true
or-true true = refl
or-true false = refl

-- a next run after the first step is at most a period later
run_after-in : (m p first run : ℕ) → m ≤ max_tick →
    (m ≤ run_after p first run m) × (run_after p first run m ≤ m + p)
run_after-in m zero first run tick =
    let b = nat_lt (run + 0) m in
    subst (λ c. (m ≤ (if c then m else saturated (m + 0 - (m - first) % 0)))
    × ((if c then m else saturated (m + 0 - (m - first) % 0)) ≤ m + 0))
    (sym (or-true (nat_lt (run + 0) m))) (omega arith, omega arith)
run_after-in m (suc p) first run tick =
    let some = boundary-in m p (m - first) tick in
    choice-in (nat_lt (run + suc p) m || nat_eq (suc p) 0) m (m + suc p) m
    (saturated (m + suc p - (m - first) % suc p))
    (omega arith) (omega arith) (omega (arith, some.0)) some.1

-- the end of a window
window-in : (m p first : ℕ) → m ≤ max_tick → (m + min 1 p ≤ window_end p first m)
    × (window_end p first m ≤ m + p)
window-in m zero first tick = (omega arith, omega arith)
window-in m (suc p) first tick =
    let some = boundary-in m p (m - first) tick in
    let e : nat_eq (suc p) 0 ≡ false = grind arith in
    subst (λ c. (m + min 1 (suc p) ≤ (if c then m else saturated (m + suc p - (m - first) % suc p)))
    × ((if c then m else saturated (m + suc p - (m - first) % suc p)) ≤ m + suc p))
    (sym e) (omega (arith, some.0), some.1)

-- no time has no remainder
no-rest : (m p : ℕ) → (m - m) % p ≡ 0
no-rest m p = let le = mod-le (m - m) p in omega (arith, le)

-- the end of the first window is a whole one later
first-window : (m p : ℕ) → m ≤ max_tick → (m + min p uncut_wait ≤ window_end p m m)
    × (window_end p m m ≤ m + p)
first-window m zero tick = (omega arith, omega arith)
first-window m (suc p) tick =
    let rest = no-rest m (suc p) in
    let e : nat_eq (suc p) 0 ≡ false = grind arith in
    subst
    (λ c. (m + min (suc p) uncut_wait
    ≤ (if c then m else saturated (m + suc p - (m - m) % suc p)))
    × ((if c then m else saturated (m + suc p - (m - m) % suc p)) ≤ m + suc p))
    (sym e) (omega (arith, rest), omega (arith, rest))

-- the waits up to the end of a period, at the first step or at a later one
period-in : (m p some : ℕ) (n : Span) (x : ℕ) (b : Bool) → nat_le n.high 1 ≡ b →
    (b ≡ true → m + min p uncut_wait ≤ x) → m + min some p ≤ x →
    x ≤ m + p → IsWaitIn m (Some (span (if b then min p uncut_wait else min some p) p)) x
period-in m p some n x true e first low high = record {
  low = first refl;
  high = high;
}
period-in m p some n x false e first low high = record {
  low = low;
  high = high;
}

-- two steps aren't one
not-one : (n : ℕ) → 2 ≤ n → nat_le n 1 ≡ true → ⊥
not-one n le e = grind arith

-- a history of two steps at least has a span that isn't that of the first step
later-in : (m p x : ℕ) (n : Span) (q r : ℕ × ℕ) (h : History) → IsIn (length (q ∷ (r ∷ h))) n →
    nat_le n.high 1 ≡ true → m + min p uncut_wait ≤ x
later-in m p x n q r h steps e = absurd (not-one n.high (omega (arith, steps.high)) e)

fixed-in : (p : ℕ) (n : Span) (q : ℕ × ℕ) (h : History) → q.0 ≤ max_tick → IsIn (length (q ∷ h)) n →
    IsWaitIn q.0 (period_waits p 0 n) (next_run p (q ∷ h))
fixed-in p n q [] tick steps =
    period-in q.0 p 0 n (saturated (q.0 + p)) (nat_le n.high 1) refl (λ e. omega arith)
    (omega arith) (omega arith)
fixed-in p n q (r ∷ h) tick steps =
    let run = run_after-in q.0 p (first_moment (r ∷ h)) (next_run p (r ∷ h)) tick in
    period-in q.0 p 0 n (next_run p (q ∷ (r ∷ h))) (nat_le n.high 1) refl
    (later-in q.0 p (next_run p (q ∷ (r ∷ h))) n q r h steps) (omega (arith, run.0)) run.1

windowed-in : (p : ℕ) (n : Span) (q : ℕ × ℕ) (h : History) → q.0 ≤ max_tick →
    IsIn (length (q ∷ h)) n →
    IsWaitIn q.0 (period_waits p 1 n) (window_end p (first_moment (q ∷ h)) q.0)
windowed-in p n q [] tick steps =
    let first = first-window q.0 p tick in
    let end = window-in q.0 p q.0 tick in
    period-in q.0 p 1 n (window_end p q.0 q.0) (nat_le n.high 1) refl (λ e. first.0) end.0 end.1
windowed-in p n q (r ∷ h) tick steps =
    let end = window-in q.0 p (first_moment (r ∷ h)) tick in
    period-in q.0 p 1 n (window_end p (first_moment (r ∷ h)) q.0) (nat_le n.high 1) refl
    (later-in q.0 p (window_end p (first_moment (r ∷ h)) q.0) n q r h steps) end.0 end.1

-- ---- all leaves

-- the time since the first step
elapsed-in : (n t : Span) (h : History) → Counts n t h → IsIn (last_moment h - first_moment h) t
elapsed-in n t h c = record {
  low = omega (arith, c.early);
  high = omega (arith, c.late);
}

-- the result of a leaf
pub leaf-in : (l : Leaf) (n t : Span) (p : ℕ × ℕ) (h : History) → has_factor l ≡ true → IsStep p →
    length (p ∷ h) ≤ max_moment → Counts n t (p ∷ h) →
    IsAnswerIn p.0 (leaf_answer l (p ∷ h)) (leaf_range l n t)
leaf-in (plain Forever) n t p h factor step small c = record {
  output = earlier-in n p h small c.steps;
  decision = at_once-in p.0;
}
leaf-in (counted Recurs k) n t p h factor step small c = record {
  output = earlier-in n p h small c.steps;
  decision = recurs-in p.0 (length h) k (earlier_steps n) (nat_lt (length h) k)
      (earlier-exact n p h c.steps) refl;
}
leaf-in (counted Spaced d) n t p h factor step small c = record {
  output = earlier-in n p h small c.steps;
  decision = delay-in p.0 d (span d d) step.tick (in-itself d);
}
leaf-in (counted Fixed d) n t p h factor step small c = record {
  output = earlier-in n p h small c.steps;
  decision = fixed-in d n p h step.tick c.steps;
}
leaf-in (exponential b f) n t p h factor step small c =
    let x = span_of-in (λ k. saturated (b * f ^ k)) (length h) (earlier_steps n)
    (power-rises b f (factor-some f factor)) (earlier-exact n p h c.steps) in
    record {
      output = x;
      decision = delay-in p.0 (saturated (b * f ^ length h))
          (span_of (λ k. saturated (b * f ^ k)) (earlier_steps n)) step.tick x;
    }
leaf-in (counted Fibonacci o) n t p h factor step small c =
    let x = span_of-in (λ k. saturated (o * fibonacci_number k)) (length (p ∷ h)) n
    (fibonacci-rises o) c.steps in
    record {
      output = x;
      decision = delay-in p.0 (saturated (o * fibonacci_number (length (p ∷ h))))
          (span_of (λ k. saturated (o * fibonacci_number k)) n) step.tick x;
    }
leaf-in (plain Identity) n t p h factor step small c = record {
  output = record { low = omega arith; high = step.input };
  decision = at_once-in p.0;
}
leaf-in (plain Elapsed) n t p h factor step small c = record {
  output = elapsed-in n t (p ∷ h) c;
  decision = at_once-in p.0;
}
leaf-in (counted Linear b) n t p h factor step small c =
    let x = span_of-in (λ k. saturated (b * k)) (length (p ∷ h)) n (linear-rises b) c.steps in
    record {
      output = x;
      decision = delay-in p.0 (saturated (b * length (p ∷ h))) (span_of (λ k. saturated (b * k)) n)
          step.tick x;
    }
leaf-in (counted Windowed d) n t p h factor step small c = record {
  output = earlier-in n p h small c.steps;
  decision = windowed-in d n p h step.tick c.steps;
}
