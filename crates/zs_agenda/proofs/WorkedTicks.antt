-- Worked examples of the definitions of a clock, proved by computing them.
use Rattle.std.proofs.Common.{◌≡◌, ℕ, List, [], ◌∷◌, Some, None, refl}
use Rattle.zs_agenda.specs.Ticks.{every_ms, listed, first_tick, horizon}

-- each millisecond up to 100: a moment is its tick, and no tick is after the last
last_millisecond : first_tick (every_ms 100) 100 ≡ Some 100
last_millisecond = refl

past_the_last_millisecond : first_tick (every_ms 100) 101 ≡ None
past_the_last_millisecond = refl

last_of_milliseconds : horizon (every_ms 100) ≡ 100
last_of_milliseconds = refl

-- a clock of the one tick 0
only_zero : first_tick (every_ms 0) 0 ≡ Some 0
only_zero = refl

-- listed ticks: a moment between two waits for the later one
abbrev some_ticks : List ℕ
some_ticks = 0 ∷ 8 ∷ 20 ∷ 40 ∷ []

between_ticks : first_tick (listed some_ticks) 9 ≡ Some 20
between_ticks = refl

at_a_tick : first_tick (listed some_ticks) 8 ≡ Some 8
at_a_tick = refl

at_the_last_tick : first_tick (listed some_ticks) 40 ≡ Some 40
at_the_last_tick = refl

past_the_last_tick : first_tick (listed some_ticks) 41 ≡ None
past_the_last_tick = refl

last_of_list : horizon (listed some_ticks) ≡ 40
last_of_list = refl

-- a list need not begin at 0
before_the_first_tick : first_tick (listed (3 ∷ 10 ∷ [])) 0 ≡ Some 3
before_the_first_tick = refl
