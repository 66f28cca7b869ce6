-- The rule of a board: batches are claimed from the front, each once; the rest is queued in order.
use Rattle.std.specs.Prelude.{◌≡◌, ℕ, ◌<◌, ◌≤◌, ◌+◌, ◌-◌, ◌||◌, List, [], ◌∷◌, ◌++◌, length, drop}
use Rattle.std.specs.Prelude.{Some, slice_get, All, Bool, true, false}
use Rattle.std.specs.List.{flat_map, sum_by}
use Rattle.atomic_table.specs.Seated.{TableId}
use Rattle.zs_pool.specs.Batches.{BatchValue, AreNumbered, IsEachOnce}
use Rattle.zs_pool.specs.Counter.{Counting}
use Rattle.zs_pool.specs.Runs.{Every}
use Rattle.zs_term.specs.Saturating.{max_moment}
use Rattle.zs_pool.specs.declared.board.rule.Claims.{Claims}

module _ {T : Type 0} where
  -- a pass: its share, the batches that were put, and the numbers of those that it took
  abbrev pub claims : ℕ → List T → List ℕ → Claims T
  claims share batches taken = record { share = share; batches = batches; taken = taken }

  -- a pass with a share knows the batches; one without is spent, and took nothing
  abbrev pub Fits : List T → Claims T → Type 0
  Fits batches v = (0 < v.share → v.batches ≡ batches) × (v.share ≡ 0 → v.taken ≡ [])

  -- the rule: the first `count` batches were taken, the rest is queued, and all shares add up to
  -- `max_moment`
  pub record BoardRun (items : List T) (views : List (Claims T)) : Type 0 where
    pub batches : List T
    pub count : ℕ
    pub within : count ≤ length batches
    -- the batches from `count` on are queued, in order
    pub left : items ≡ drop count batches
    -- the numbers taken by all passes are 0 .. count - 1, each once
    pub taken : IsEachOnce count (flat_map (λ v. v.taken) views)
    pub shares : sum_by (λ v. v.share) views ≡ max_moment
    pub each : Every (Fits batches) views

  -- x was taken, as batch k: it is the k-th that was put, and after everything that the pass took
  abbrev pub Took : Claims T → T → Claims T → Type 0
  Took v x w = (k : ℕ) × (w ≡ claims v.share v.batches (v.taken ++ k ∷ [])) × (slice_get v.batches k
      ≡ Some x) × All (λ j. j < k) v.taken × (v.share ≡ max_moment → k ≡ length v.taken)

  -- what a pass with exclusive access knows: what is queued, and what it took
  abbrev pub IsRest : Claims T → List T → Type 0
  IsRest v items = v.share ≡ max_moment → (length v.taken ≤ length v.batches)
      × (items ≡ drop (length v.taken) v.batches) × IsEachOnce (length v.taken) v.taken

-- the identity of a board
pub record BoardId : Type 0 where
  pub queue : TableId
  pub counter : TableId
  pub size : ℕ

-- a pass, as contracts know it: its board, its share, the batches that were put, the numbers of
-- those that it took, and whether one of its claims returned `None`
pub record Claimer : Type 0 where
  pub board : BoardId
  pub share : ℕ
  pub batches : List BatchValue
  pub taken : List ℕ
  pub none : Bool

-- the pass with these parts
abbrev pub claimer : BoardId → ℕ → List BatchValue → List ℕ → Bool → Claimer
claimer board share batches taken none =
    record { board = board; share = share; batches = batches; taken = taken; none = none }

-- a pass that claimed nothing so far
abbrev pub fresh_claimer : BoardId → ℕ → List BatchValue → Claimer
fresh_claimer board share batches = claimer board share batches [] false

-- the pass after another was split off
abbrev pub split_claimer : BoardId → Claimer → Claimer
split_claimer board p = claimer board (p.share - 1) p.batches p.taken p.none

-- the pass that is split off: it took nothing, and has seen a `None` if the first has
abbrev pub new_claimer : BoardId → Claimer → Claimer
new_claimer board p = claimer board 1 p.batches [] p.none

-- two passes as one, which took what both took
abbrev pub joined_claimer : BoardId → Claimer → Claimer → Claimer
joined_claimer board p q =
    claimer board (p.share + q.share) p.batches (p.taken ++ q.taken) (p.none || q.none)

-- The pass claimed the batch b: one of the board's, unchanged, and later than everything that the
-- pass took. No claim of the pass had returned `None`.
abbrev pub HasClaimed : BoardId → Claimer → BatchValue → Claimer → Type 0
HasClaimed board before b after = (before.none ≡ false)
    × (slice_get before.batches b.number ≡ Some b) × All (λ k. k < b.number) before.taken
    × (after ≡ claimer board before.share before.batches (before.taken ++ b.number ∷ []) false)

-- the pass took each batch once
abbrev pub HasTakenAll : Claimer → Type 0
HasTakenAll p = IsEachOnce (length p.batches) p.taken

-- how the parts of a pass are related
pub record IsFit (v : Claims BatchValue) (seat : Counting) (none : Bool) : Type 0 where
  pub share : 0 < v.share
  pub same_share : seat.share ≡ v.share
  pub same_count : seat.count ≡ length v.taken
  pub numbered : AreNumbered v.batches
  pub all_seen : none ≡ true → length v.batches ≤ seat.seen
