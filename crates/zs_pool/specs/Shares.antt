-- What a thread of a round gets, and what it returns.
use Rattle.std.specs.Prelude.{◌≡◌, ℕ, zero, suc, ◌+◌, ◌≤◌, length, true, false, List, [], ◌∷◌, ◌++◌}
use Rattle.std.specs.Prelude.{All, Result, IfOk, Vec, sum_by, IsPermutation}
use Rattle.std.specs.Borrow.{Bor}
use Rattle.std.specs.Global.{Global}
use Rattle.std.specs.declared.alloc.AllocError.{AllocError}
use Rattle.zs_term.specs.Saturating.{max_moment}
use Rattle.zs_pool.specs.Limits.{max_workers}
use Rattle.zs_pool.specs.Batches.{BatchValue, AllPollable, tasks_in}
use Rattle.zs_pool.specs.Messages.{PolledValue, IsPollAmong, numbers_of}
use Rattle.zs_pool.specs.Board.{BoardId, fresh_claimer}
use Rattle.zs_pool.specs.Shelf.{shelver}
use Rattle.zs_pool.specs.Tally.{Seating}
use Rattle.atomic_table.specs.Seated.{TableId}
use Rattle.zs_pool.specs.declared.rounds.shared.Shared.{Shared}
use Rattle.zs_pool.specs.declared.rounds.shared.Rights.{Rights}

-- the messages for which the shelf had no room, unless storing them ran out of memory
abbrev pub Overflow : Type 0
Overflow = Result (Vec PolledValue Global) AllocError

-- n tasks were polled and counted
abbrev pub HasCounted : Seating → ℕ → Seating → Type 0
HasCounted before n after = (after.tally ≡ before.tally)
    × (after.count ≡ before.count + n) × (after.allowance + n ≡ before.allowance)

-- the seat counted nothing, and n of its allowance was split off
abbrev pub HasLent : TableId → Seating → ℕ → Seating → Type 0
HasLent tally before n after =
    (after.tally ≡ tally) × (after.count ≡ before.count) × (after.allowance + n ≡ before.allowance)

-- the number of tasks of batch k, or 0 if there is no such batch
abbrev pub size_at : List BatchValue → ℕ → ℕ
size_at [] k = 0
size_at (b ∷ bs) zero = length b.tasks
size_at (b ∷ bs) (suc k) = size_at bs k

-- the number of tasks of the batches with these numbers
abbrev pub sizes : List BatchValue → List ℕ → ℕ
sizes batches taken = sum_by (size_at batches) taken

-- everything that the pass took is polled, and put on the shelf or stored beside it
abbrev pub Serves : ℕ → List BatchValue → List ℕ → List PolledValue → Type 0
Serves now batches taken ps = All (IsPollAmong now batches) ps × IsPermutation taken (numbers_of ps)

-- a message is handed in: it is put on the shelf, or stored beside it
abbrev pub HandsIn : List PolledValue → List PolledValue
    → PolledValue → List PolledValue → List PolledValue → Type 0
HandsIn put kept m put' kept' = IsPermutation ((put ++ kept) ++ m ∷ []) (put' ++ kept')

-- n times t
abbrev pub rooms : ℕ → ℕ → ℕ
rooms zero t = 0
rooms (suc n) t = t + rooms n t

-- the thread has taken nothing, put nothing, and not seen the board empty
abbrev pub IsNew : List BatchValue → Rights → Type 0
IsNew batches r = (r.board_pass.batches ≡ batches) × (r.board_pass.taken ≡ [])
    × (r.board_pass.none ≡ false) × (r.shelf_pass.put ≡ []) × (r.shelf_pass.taken ≡ [])

module _ {G : Type 0} where
  -- what the threads of a round share: these parts
  abbrev pub sharing : Bor G → Bor BoardId → Bor TableId → Bor TableId → ℕ → ℕ → ℕ → Shared G
  sharing gate board shelf tally moment tasks batches = record {
    gate = gate;
    board = board;
    shelf = shelf;
    tally = tally;
    moment = moment;
    tasks = tasks;
    batches = batches;
  }

  -- the passes are of the round's board and shelf, and the seat is of its tally
  abbrev pub IsOf : Shared G → Rights → Type 0
  IsOf shared r = (r.board_pass.board ≡ shared.board.now)
      × (r.shelf_pass.shelf ≡ shared.shelf.now) × (r.seat.tally ≡ shared.tally.now)

  -- The rights with which the calling thread begins: exclusive access to board and shelf, and an
  -- allowance for it and its helpers, each of which may count all tasks.
  pub record IsFirst (shared : Shared G) (count : ℕ) (r : Rights) : Type 0 where
    pub board_pass : r.board_pass ≡ fresh_claimer shared.board.now max_moment r.board_pass.batches
    pub shelf_pass : r.shelf_pass ≡ shelver shared.shelf.now max_moment [] []
    pub tally : r.seat.tally ≡ shared.tally.now
    pub helpers : count ≤ max_workers
    pub room : shared.tasks + rooms count shared.tasks ≤ r.seat.allowance
    pub tasks : tasks_in r.board_pass.batches ≤ shared.tasks
    pub pollable : AllPollable shared.moment r.board_pass.batches

  -- the rights with which a thread can serve
  pub record IsReady (shared : Shared G) (r : Rights) : Type 0 where
    pub of : IsOf shared r
    pub new : IsNew r.board_pass.batches r
    pub room : tasks_in r.board_pass.batches ≤ r.seat.allowance
    pub pollable : AllPollable shared.moment r.board_pass.batches

  -- the rights of a started worker
  pub record IsFresh (shared : Shared G) (batches : List BatchValue) (r : Rights) : Type 0 where
    pub of : IsOf shared r
    pub new : IsNew batches r
    pub board_share : r.board_pass.share ≡ 1
    pub shelf_share : r.shelf_pass.share ≡ 1
    pub count : r.seat.count ≡ 0
    pub room : tasks_in batches ≤ r.seat.allowance

-- the rights are of the same objects as before, with the same shares, and took nothing from the
-- shelf
abbrev pub IsSame : Rights → Rights → Type 0
IsSame r after =
    ((after.board_pass.board ≡ r.board_pass.board)
    × (after.shelf_pass.shelf ≡ r.shelf_pass.shelf) × (after.seat.tally ≡ r.seat.tally))
    × (after.board_pass.batches ≡ r.board_pass.batches)
    × (after.board_pass.share ≡ r.board_pass.share) × (after.shelf_pass.share ≡ r.shelf_pass.share)
    × (after.shelf_pass.taken ≡ r.shelf_pass.taken)

-- the board was seen empty; everything claimed is polled, counted, and put on the shelf or stored
-- beside it
abbrev pub HasServed : ℕ → Rights → Rights → Overflow → Type 0
HasServed now r after overflow =
    IfOk overflow
    (λ ps.
    Serves now r.board_pass.batches after.board_pass.taken (after.shelf_pass.put ++ ps.items)
    × (after.board_pass.none ≡ true)
    × (after.seat.count ≡ r.seat.count + sizes r.board_pass.batches after.board_pass.taken)
    × (after.seat.allowance + sizes r.board_pass.batches after.board_pass.taken ≡ r.seat.allowance))
