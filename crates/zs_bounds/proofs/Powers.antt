-- Powers and numbers of Fibonacci that are cut at the greatest number, and stay there.
use Rattle.std.proofs.Common.{◌≡◌, ℕ, zero, suc, ◌+◌, ◌-◌, ◌*◌, ◌^◌, ◌<◌, ◌≤◌, ◌⊎◌, inl, inr, min}
use Rattle.std.proofs.Common.{arith, sym, ap, ◌∙◌}
use Rattle.std.proofs.Math.Nat.{pow-zero, pow-suc, mul_assoc, pow-le-pow_left, pow-le-pow_right}
use Rattle.std.proofs.Math.Nat.{mul-le-mul_right}
use Rattle.std.proofs.lemmas.Nat.{pow-add}
use Rattle.zs_term.specs.Saturating.{saturated}
use Rattle.zs_step.specs.Answer.{fibonacci_number}
use Rattle.zs_bounds.proofs.LeafRanges.{power-rises, fibonacci-rises}

-- ---- powers

-- no factor
pub power_none : (b f : ℕ) → b ≤ 18446744073709551615 → b ≡ saturated (b * f ^ 0)
power_none b f fits =
    let e = pow-zero f in
    let m : b * f ^ 0 ≡ b * 1 = ap (λ x. b * x) e in
    omega (arith, m)

-- factors of 1
one-pow : (n : ℕ) → 1 ^ n ≡ 1
one-pow zero = pow-zero 1
one-pow (suc n) =
    let e = pow-suc 1 n in
    let before = one-pow n in
    omega (arith, e, before)

pub power_ones : (b f n : ℕ) → b ≤ 18446744073709551615 → f ≡ 1 → b ≡ saturated (b * f ^ n)
power_ones b f n fits is =
    let e : f ^ n ≡ 1 = ap (λ x. x ^ n) is ∙ one-pow n in
    let m : b * f ^ n ≡ b * 1 = ap (λ x. b * x) e in
    omega (arith, m)

-- a number is cut or not
small_or_large : (x : ℕ) → (saturated x ≡ x) ⊎ ((saturated x ≡ 18446744073709551615)
    × (18446744073709551615 ≤ x))
small_or_large x = grind arith

saturated-large : (x : ℕ) → 18446744073709551615 ≤ x → saturated x ≡ 18446744073709551615
saturated-large x h = omega arith

times-suc-le : (m x f : ℕ) → m ≤ x → m ≤ x * suc f
times-suc-le m x f h = grind arith

-- a product may be cut on the way
saturated-product : (x f : ℕ) → saturated (saturated x * f) ≡ saturated (x * f)
saturated-product x zero = omega arith
saturated-product x (suc f) =
    elim (small_or_large x) [
      | inl e ↦ ap (λ y. saturated (y * suc f)) e
      | inr h ↦ ap (λ y. saturated (y * suc f)) h.0
          ∙ saturated-large (18446744073709551615 * suc f)
          (times-suc-le 18446744073709551615 18446744073709551615 f (omega arith))
          ∙ sym (saturated-large (x * suc f) (times-suc-le 18446744073709551615 x f h.1))
    ]

-- one more factor
pub power_turn : (b f n d r : ℕ) → d ≡ saturated (b * f ^ n) →
    r ≡ min (d * f) 18446744073709551615 → r ≡ saturated (b * f ^ (n + 1))
power_turn b f n d r before is =
    let more : n + 1 ≡ suc n = omega arith in
    is ∙ ap (λ y. saturated (y * f)) before ∙ saturated-product (b * f ^ n) f
    ∙ ap saturated (mul_assoc b (f ^ n) f ∙ ap (λ y. b * y) (sym (pow-suc f n)))
    ∙ ap (λ k. saturated (b * f ^ k)) (sym more)

-- 0 stays
zero-cut : (x : ℕ) → 0 ≡ saturated x → x ≡ 0
zero-cut x e = omega arith

pub power_zero : (b f k n d : ℕ) → k ≤ n → d ≡ saturated (b * f ^ k) → d ≡ 0 →
    d ≡ saturated (b * f ^ n)
power_zero b f k n d le is none =
    let x : b * f ^ k ≡ 0 = zero-cut (b * f ^ k) (sym none ∙ is) in
    let e : k + (n - k) ≡ n = omega arith in
    let all : b * f ^ n ≡ 0 =
    ap (λ m. b * f ^ m) (sym e) ∙ ap (λ y. b * y) (pow-add f k (n - k))
    ∙ sym (mul_assoc b (f ^ k) (f ^ (n - k)))
    ∙ ap (λ y. y * f ^ (n - k)) x ∙ omega arith in
    omega (arith, none, all)

-- what is cut stays
pub power_cut : (b f k n d : ℕ) → k ≤ n → 0 < f → d ≡ saturated (b * f ^ k) →
    d ≡ 18446744073709551615 → d ≡ saturated (b * f ^ n)
power_cut b f k n d le some is cut =
    let rises = power-rises b f some k n le in
    omega (arith, rises, is, cut)

-- a factor of 2 or more exceeds the greatest number within 64 turns
pub power_large : (b f n d : ℕ) → 0 < b → 1 < f → 63 < n → d ≡ 18446744073709551615 →
    d ≡ saturated (b * f ^ n)
power_large b f n d some many long is =
    let twos : 2 ^ 64 ≤ 2 ^ n =
    pow-le-pow_right {n = 2} (omega arith) {i = 64} {j = n} (omega arith) in
    let powers : 2 ^ n ≤ f ^ n = pow-le-pow_left {n = 2} {m = f} (omega arith) n in
    let whole : 1 * f ^ n ≤ b * f ^ n = mul-le-mul_right (f ^ n) (omega arith) in
    omega (arith, is, twos, powers, whole)

-- ---- numbers of Fibonacci

pub fibonacci_none : (o n : ℕ) → o ≡ 0 → 0 ≡ saturated (o * fibonacci_number n)
fibonacci_none o n is =
    let e : o * fibonacci_number n ≡ 0 = ap (λ x. x * fibonacci_number n) is ∙ omega arith in
    omega (arith, e)

saturated-sum : (x y : ℕ) → saturated (saturated x + saturated y) ≡ saturated (x + y)
saturated-sum x y = omega arith

-- one more number of Fibonacci
pub fibonacci_turn : (o n x y r : ℕ) → x ≡ saturated (o * fibonacci_number n) →
    y ≡ saturated (o * fibonacci_number (suc n)) →
    r ≡ min (x + y) 18446744073709551615 → r ≡ saturated (o * fibonacci_number (suc (n + 1)))
fibonacci_turn o n x y r first second is =
    let more : suc (suc n) ≡ suc (n + 1) = omega arith in
    let e : o * fibonacci_number n + o * fibonacci_number (suc n)
    ≡ o * (fibonacci_number n + fibonacci_number (suc n)) = omega arith in
    let s = saturated-sum (o * fibonacci_number n) (o * fibonacci_number (suc n)) in
    let t : r ≡ saturated
    (saturated (o * fibonacci_number n) + saturated (o * fibonacci_number (suc n))) = cc in
    t ∙ s ∙ ap saturated e ∙ ap (λ k. saturated (o * fibonacci_number k)) more

pub fibonacci_next : (o n y : ℕ) → y ≡ saturated (o * fibonacci_number (suc n)) →
    y ≡ saturated (o * fibonacci_number (n + 1))
fibonacci_next o n y is = let e : suc n ≡ n + 1 = omega arith in
    is ∙ ap (λ k. saturated (o * fibonacci_number k)) e

-- what is cut stays
pub fibonacci_cut : (o k n d : ℕ) → k ≤ n → d ≡ saturated (o * fibonacci_number k) →
    d ≡ 18446744073709551615 → d ≡ saturated (o * fibonacci_number n)
fibonacci_cut o k n d le is cut =
    let rises = fibonacci-rises o k n le in
    omega (arith, rises, is, cut)

-- the second number after a number is at least twice as large
fibonacci-doubles : (k : ℕ) → 2 ^ k ≤ fibonacci_number (suc (k + k))
fibonacci-doubles zero = let e = pow-zero 2 in omega (arith, e)
fibonacci-doubles (suc k) =
    let before = fibonacci-doubles k in
    let power = pow-suc 2 k in
    let index : suc (suc k + suc k) ≡ suc (suc (suc (k + k))) = omega arith in
    let is : fibonacci_number (suc (suc k + suc k)) ≡ fibonacci_number (suc (k + k))
    + (fibonacci_number (k + k) + fibonacci_number (suc (k + k))) =
    ap fibonacci_number index in
    omega (arith, before, power, is)

-- a number that is cut, and all after it
cut-from : (o m n d : ℕ) → 0 < o → 2 ^ 64 ≤ fibonacci_number m → m ≤ n → d ≡ 18446744073709551615 →
    d ≡ saturated (o * fibonacci_number n)
cut-from o m n d some large le is =
    let one : 1 ≤ o = omega (arith, some) in
    let whole : 1 * fibonacci_number m ≤ o * fibonacci_number m =
    mul-le-mul_right {m = 1} {n = o} (fibonacci_number m) one in
    let rises = fibonacci-rises o m n le in
    omega (arith, is, large, whole, rises)

-- the 129th number and those after it are cut
pub fibonacci_large : (o n d : ℕ) → 0 < o → 128 < n → d ≡ 18446744073709551615 →
    d ≡ saturated (o * fibonacci_number n)
fibonacci_large o n d some long is =
    let large : 2 ^ 64 ≤ fibonacci_number 129 = fibonacci-doubles 64 in
    cut-from o 129 n d some large (omega (arith, long)) is
