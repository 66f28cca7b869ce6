-- The rule of a shelf: what was put is a permutation of what was taken and what is queued.
use Rattle.std.specs.Prelude.{◌≡◌, ℕ, ◌+◌, ◌-◌, List, [], ◌++◌, length, flat_map, sum_by}
use Rattle.std.specs.Prelude.{IsPermutation}
use Rattle.atomic_table.specs.Seated.{TableId}
use Rattle.zs_pool.specs.Messages.{PolledValue}
use Rattle.zs_pool.specs.Runs.{Every}
use Rattle.zs_term.specs.Saturating.{max_moment}
use Rattle.zs_pool.specs.declared.shelf.rule.Hands.{Hands}

module _ {T : Type 0} where
  -- a pass: its share, what it put and what it took
  abbrev pub hands : ℕ → List T → List T → Hands T
  hands share put taken = record { share = share; put = put; taken = taken }

  -- a spent pass put and took nothing
  abbrev pub IdleIsEmpty : Hands T → Type 0
  IdleIsEmpty v = v.share ≡ 0 → (v.put ≡ []) × (v.taken ≡ [])

  -- the rule: each value that was put is taken or queued, and all shares add up to `max_moment`
  pub record ShelfRun (items : List T) (views : List (Hands T)) : Type 0 where
    pub moved : IsPermutation (flat_map (λ v. v.put) views) (flat_map (λ v. v.taken) views ++ items)
    pub shares : sum_by (λ v. v.share) views ≡ max_moment
    pub each : Every IdleIsEmpty views

  -- what a pass with exclusive access knows about the queue
  abbrev pub IsLeft : Hands T → List T → Type 0
  IsLeft v items = v.share ≡ max_moment → IsPermutation v.put (v.taken ++ items)

-- a pass, as contracts know it: its shelf, its share, what it put and what it took
pub record Shelver : Type 0 where
  pub shelf : TableId
  pub share : ℕ
  pub put : List PolledValue
  pub taken : List PolledValue

-- the pass with these parts
abbrev pub shelver : TableId → ℕ → List PolledValue → List PolledValue → Shelver
shelver shelf share put taken = record { shelf = shelf; share = share; put = put; taken = taken }

-- the pass after another was split off
abbrev pub split_shelver : TableId → Shelver → Shelver
split_shelver shelf p = shelver shelf (p.share - 1) p.put p.taken

-- two passes as one, which put and took what both did
abbrev pub joined_shelver : TableId → Shelver → Shelver → Shelver
joined_shelver shelf p q = shelver shelf (p.share + q.share) (p.put ++ q.put) (p.taken ++ q.taken)

-- what the pass put and did not take fills the shelf
abbrev pub FillsShelf : TableId → Shelver → Type 0
FillsShelf shelf p = length p.put ≡ length p.taken + shelf.slots
