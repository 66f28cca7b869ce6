-- The waits of a driver rise with those of the schedule.
use Rattle.std.proofs.Common.{ℕ, ◌*◌, ◌/◌, ◌≤◌, arith}
use Rattle.std.specs.Int.{div_ceil}
use Rattle.std.proofs.lemmas.Grind.{div_ceil_times}
use Rattle.std.proofs.lemmas.Nat.{le-div}
use Rattle.std.proofs.Math.Nat.{div-mul-le_self}
use Rattle.zs_bounds.specs.declared.waits.Waits.{Waits}
use Rattle.zs_bounds.specs.BoundsOf.{shortest_wait, longest_wait}

pub parts-rise : (x y p : ℕ) → x ≤ y → x * p ≤ y * p
parts-rise x y p le = grind arith

-- the shortest wait rises with the schedule's
pub short-rises : (v : Waits) (x y : ℕ) → x ≤ y → shortest_wait v x ≤ y * v.least_percent / 100
short-rises v x y le =
    let less = div-mul-le_self (x * v.least_percent) 100 in
    let rises = parts-rise x y v.least_percent le in
    let parts =
    le-div (x * v.least_percent / 100) (y * v.least_percent) 100 (omega arith)
    (omega (arith, less, rises)) in
    omega (arith, parts)

ceil-rises : (x y : ℕ) → x ≤ y → div_ceil x 100 ≤ div_ceil y 100
ceil-rises x y le =
    let low = div_ceil_times x 100 (omega arith) in
    let high = div_ceil_times y 100 (omega arith) in
    omega (arith, le, low.1, high.0)

-- and so does the longest one
pub long-rises : (v : Waits) (x y : ℕ) → x ≤ y → longest_wait v x ≤ longest_wait v y
long-rises v x y le = let rises =
    ceil-rises (x * v.most_percent) (y * v.most_percent) (parts-rise x y v.most_percent le) in
    omega (arith, rises)
