-- Sums and products that saturate on the way.
use Rattle.std.proofs.Common.{◌≡◌, ℕ, zero, suc, ◌+◌, ◌-◌, ◌*◌, ◌^◌, ◌≤◌, ◌⊎◌, inl, inr, min, arith}
use Rattle.std.proofs.Common.{sym, ap, ◌∙◌}
use Rattle.std.proofs.Math.Nat.{pow-suc, mul_assoc}
use Rattle.zs_term.specs.Saturating.{saturated}
use Rattle.zs_step.specs.Answer.{fibonacci_number}

-- saturation of the terms doesn't change a saturated sum
pub saturated-sum : (x y : ℕ) → saturated (saturated x + saturated y) ≡ saturated (x + y)
saturated-sum x y = omega arith

-- a number saturates or doesn't
small_or_large : (x : ℕ) → (saturated x ≡ x) ⊎ ((saturated x ≡ 18446744073709551615)
    × (18446744073709551615 ≤ x))
small_or_large x = grind arith

-- a number that saturates
saturated-large : (x : ℕ) → 18446744073709551615 ≤ x → saturated x ≡ 18446744073709551615
saturated-large x h = omega arith

-- a product with a factor of at least 1 is no smaller
times-suc-le : (m x f : ℕ) → m ≤ x → m ≤ x * suc f
times-suc-le m x f h = grind arith

-- saturation of a factor doesn't change a saturated product
pub saturated-product : (x f : ℕ) → saturated (saturated x * f) ≡ saturated (x * f)
saturated-product x zero = omega arith
saturated-product x (suc f) =
    elim (small_or_large x) [
      | inl e ↦ ap (λ y. saturated (y * suc f)) e
      | inr h ↦ ap (λ y. saturated (y * suc f)) h.0
          ∙ saturated-large (18446744073709551615 * suc f)
          (times-suc-le 18446744073709551615 18446744073709551615 f (omega arith))
          ∙ sym (saturated-large (x * suc f) (times-suc-le 18446744073709551615 x f h.1))
    ]

-- one more factor
pub power-turn : (b f n d r : ℕ) → d ≡ saturated (b * f ^ n) → r ≡ min (d * f) (2 ^ 64 - 1) →
    r ≡ saturated (b * f ^ (suc n))
power-turn b f n d r before is =
    is ∙ ap (λ y. saturated (y * f)) before ∙ saturated-product (b * f ^ n) f
    ∙ ap saturated (mul_assoc b (f ^ n) f ∙ ap (λ y. b * y) (sym (pow-suc f n)))

-- one more Fibonacci number
pub fibonacci_number-turn : (o n x y r : ℕ) → x ≡ saturated (o * fibonacci_number n) →
    y ≡ saturated (o * fibonacci_number (suc n)) → r ≡ min (x + y) (2 ^ 64 - 1) →
    r ≡ saturated (o * fibonacci_number (suc (suc n)))
fibonacci_number-turn o n x y r first second is =
    let e : o * fibonacci_number n + o * fibonacci_number (suc n)
    ≡ o * (fibonacci_number n + fibonacci_number (suc n)) = omega arith in
    let s : saturated
    (saturated (o * fibonacci_number n) + saturated (o * fibonacci_number (suc n)))
    ≡ saturated (o * fibonacci_number n + o * fibonacci_number (suc n)) =
    saturated-sum (o * fibonacci_number n) (o * fibonacci_number (suc n)) in
    let t : r ≡ saturated
    (saturated (o * fibonacci_number n) + saturated (o * fibonacci_number (suc n))) = cc in
    t ∙ s ∙ ap saturated e
