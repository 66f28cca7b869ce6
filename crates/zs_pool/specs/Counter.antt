-- The rule of a counter beside a queue: its word is the sum of what all seats counted, modulo
-- 2^64, and no seat saw more than the sum.
use Rattle.std.specs.Prelude.{◌≡◌, ℕ, ◌+◌, ◌-◌, ◌%◌, ◌^◌, ◌≤◌, max, List, [], ◌∷◌, sum_by}
use Rattle.atomic_table.specs.Seated.{TableId}
use Rattle.atomic_table.specs.Table.{State, Step, Me}
use Rattle.zs_pool.specs.Runs.{Every}
use Rattle.zs_term.specs.Saturating.{max_moment}
use Rattle.zs_pool.specs.declared.board.counter_rule.Count.{Count}

-- a seat: its share, how often it counted, and the greatest value seen
abbrev pub counted : ℕ → ℕ → ℕ → Count
counted share count seen = record { share = share; count = count; seen = seen }

-- a seat saw no more than the total, and a spent one counted nothing
abbrev pub Sound : ℕ → Count → Type 0
Sound total v = (v.seen ≤ total) × (v.share ≡ 0 → v.count ≡ 0)

-- the rule: the word is the sum of all counts modulo 2^64, and all shares add up to `max_moment`
pub record CountRun (words : List ℕ) (views : List Count) : Type 0 where
  pub word : words ≡ (sum_by (λ v. v.count) views % 2 ^ 64) ∷ []
  pub shares : sum_by (λ v. v.share) views ≡ max_moment
  pub each : Every (Sound (sum_by (λ v. v.count) views)) views

-- the same rule over a table of words
abbrev pub KeepsCount : Unit {0} → State (Unit {0}) Count → Type 0
KeepsCount key s = CountRun s.words s.views

-- a step that counts one more
abbrev pub Added : Step (Unit {0}) → Me (Unit {0}) Count → ℕ → Me (Unit {0}) Count → Type 0
Added st me n now = now ≡ (counted me.0.share (me.0.count + 1) me.0.seen, me.1)

-- a step that reads n: at least n were counted, and a seat with exclusive access counted everything
-- that it saw
abbrev pub Looked : Step (Unit {0}) → Me (Unit {0}) Count → ℕ → Me (Unit {0}) Count → Type 0
Looked st me n now = (me.0.share ≡ max_moment → me.0.seen ≤ me.0.count)
    × (now ≡ (counted me.0.share me.0.count (max me.0.seen n), me.1))

-- a seat, as contracts know it
pub record Counting : Type 0 where
  pub counter : TableId
  pub share : ℕ
  pub count : ℕ
  pub seen : ℕ

-- the seat with these parts
abbrev pub counting : TableId → ℕ → ℕ → ℕ → Counting
counting counter share count seen =
    record { counter = counter; share = share; count = count; seen = seen }

-- the seat after another was split off
abbrev pub split_counting : TableId → Counting → Counting
split_counting counter s = counting counter (s.share - 1) s.count s.seen

-- two seats as one
abbrev pub joined_counting : TableId → Counting → Counting → Counting
joined_counting counter s t =
    counting counter (s.share + t.share) (s.count + t.count) (max s.seen t.seen)
