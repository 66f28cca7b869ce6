-- A clock is made exactly of ticks that pass the tests.
use Rattle.std.proofs.Common.{◌≡◌, ◌≤◌, ◌↔◌, ℕ, List, Bool, true, false, Option, Some, None}
use Rattle.std.proofs.Common.{if◌then◌else◌, refl}
use Rattle.std.specs.Prelude.{IsSome, IfSome}
use Rattle.zs_agenda.specs.Ticks.{Ticks, every_ms, listed, IsClock, IsTickList, max_horizon}
use Rattle.zs_agenda.specs.Tests.{is_clock}
use Rattle.zs_agenda.proofs.TestLemmas.{clock_passes, clock_passed}

-- a clock, if these ticks are valid
clock_where : (clock : Option Ticks) (ticks : Ticks) → (IsSome clock ↔ IsClock ticks)
    → IfSome clock (λ c. c ≡ ticks)
    → clock ≡ (if is_clock ticks then Some ticks else None)
clock_where (Some c) ticks within value = rw (clock_passes ticks (within.0 refl), value) refl
clock_where None ticks within value = by_test (is_clock ticks) refl
  where
    by_test : (b : Bool) → is_clock ticks ≡ b → None ≡ (if b then Some ticks else None)
    by_test true pass = absurd (let e : false ≡ true = within.1 (clock_passed ticks pass) in cc)
    by_test false fail = refl

-- a clock of milliseconds
pub clock_of_horizon : (clock : Option Ticks) (last : ℕ) → (IsSome clock ↔ last ≤ max_horizon)
    → IfSome clock (λ c. c ≡ every_ms last)
    → clock ≡ (if is_clock (every_ms last) then Some (every_ms last) else None)
clock_of_horizon clock last = clock_where clock (every_ms last)

-- a clock of listed ticks
pub clock_of_list : (clock : Option Ticks) (ticks : List ℕ) → (IsSome clock ↔ IsTickList ticks)
    → IfSome clock (λ c. c ≡ listed ticks)
    → clock ≡ (if is_clock (listed ticks) then Some (listed ticks) else None)
clock_of_list clock ticks = clock_where clock (listed ticks)
