-- Begins that are planned: what jitter takes off, and how long they let a schedule wait.
use Rattle.std.proofs.Common.{◌≡◌, ℕ, ◌+◌, ◌-◌, ◌*◌, ◌/◌, min, ◌<◌, ◌≤◌, ap, arith}
use Rattle.std.proofs.lemmas.Nat.{mul-le}
use Rattle.std.proofs.Math.Nat.{div-mul-le_self, mul-le-mul_left}
use Rattle.zs_c.specs.declared.turn.Turn.{Turn}
use Rattle.zs_c.specs.Plan.{nanos, share_of, begin_of, IsFair}

-- a share of a wait is no more than the wait
pub cut-below : (w s : ℕ) → s < 4294967296 → w * s / 4294967296 ≤ w
cut-below w s small =
    let up : w * s ≤ w * 4294967296 = mul-le-mul_left w (omega arith) in
    let back = div-mul-le_self (w * s) 4294967296 in
    omega (arith, up, back)

-- jitter takes off no more than its percentage of a wait
pub cut-percent : (turn : Turn) (w : ℕ) → turn.draw < 4294967296
    → w * share_of turn / 4294967296 * 100 ≤ w * min turn.percent 100
cut-percent turn w small =
    let p = min turn.percent 100 in
    let s = share_of turn in
    let parts : s * 100 ≤ p * turn.draw = div-mul-le_self (p * turn.draw) 100 in
    let all : p * turn.draw ≤ p * 4294967296 = mul-le-mul_left p (omega arith) in
    let up : w * (s * 100) ≤ w * (p * 4294967296) = mul-le-mul_left w (omega (arith, parts, all)) in
    let back = div-mul-le_self (w * s) 4294967296 in
    omega (arith, up, back)

-- a product of nanoseconds and a share fits 128 bits
pub product-fits : (n s : ℕ) → n ≤ 18446744073709551615000000 → s < 4294967296
    → n * s < 340282366920938463463374607431768211456
product-fits n s fits small =
    let up = mul-le n s 18446744073709551615000000 4294967295 fits (omega arith) in
    omega (arith, up)

-- the begin of the next attempt is fair
pub fair-begin : (turn : Turn) (moment next : ℕ) → turn.draw < 4294967296
    → IsFair turn moment next (begin_of turn moment next)
fair-begin turn moment next small =
    let w = nanos (next - moment) in
    let p = min turn.percent 100 in
    let q = 100 - turn.percent in
    let cut = w * share_of turn / 4294967296 in
    let part : cut * 100 ≤ w * p = cut-percent turn w small in
    let whole : w * (p + q) ≡ w * 100 = ap (λ k. w * k) (omega arith) in
    let some : w * q ≤ w * 100 = mul-le-mul_left w (omega arith) in
    record {
      after = omega arith;
      asked = omega arith;
      step = omega arith;
      exact = λ none. let nothing : w * p ≡ w * 0 = ap (λ k. w * k) (omega (arith, none)) in
          omega (arith, part, nothing);
      least = omega (arith, part, whole, some);
      most = omega arith;
    }
