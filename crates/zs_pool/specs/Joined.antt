-- What the calling thread has while it joins the workers.
use Rattle.std.specs.Prelude.{◌≡◌, ℕ, ◌+◌, true, List, ◌++◌, Ok, IfOk, Vec, sum_by}
use Rattle.std.specs.Global.{Global}
use Rattle.std.specs.declared.thread.PromisedHandle.{PromisedHandle}
use Rattle.zs_pool.specs.Batches.{BatchValue}
use Rattle.zs_pool.specs.Messages.{PolledValue}
use Rattle.zs_term.specs.Saturating.{max_moment}
use Rattle.zs_pool.specs.declared.rounds.shared.Shared.{Shared}
use Rattle.zs_pool.specs.declared.rounds.shared.Rights.{Rights}
use Rattle.zs_pool.specs.declared.rounds.workers.Served.{Served}
use Rattle.zs_pool.specs.declared.rounds.workers.WorkerPromise.{WorkerPromise}
use Rattle.zs_pool.specs.Shares.{Overflow, IsFresh, Serves, sizes}

-- a started worker, with its result and its promise
abbrev pub Worker : Type 0
Worker = PromisedHandle Served WorkerPromise

-- the worker serves this round, and was started with fresh rights
abbrev pub Promised : {G : Type 0} → Shared G → List BatchValue → Worker → Type 0
Promised shared batches w =
    (w.promise.moment ≡ shared.moment) × IsFresh shared batches w.promise.rights.value

-- the allowances of all these workers together
abbrev pub allowed : List Worker → ℕ
allowed ws = sum_by (λ w. w.promise.rights.value.seat.allowance) ws

-- both overflows were stored, and the result is the first followed by the second
abbrev pub AreBoth : Overflow → Overflow → Vec PolledValue Global → Type 0
AreBoth overflow more v = (a : Vec PolledValue Global) × (b : Vec PolledValue Global)
    × (overflow ≡ Ok a) × (more ≡ Ok b) × (v.items ≡ a.items ++ b.items)

-- The board was seen empty. The batches that the joined threads claimed are polled and counted, and
-- put on the shelf or stored beside it. The other threads may count `spare`.
pub record IsPart (now : ℕ) (batches : List BatchValue) (first : ℕ) (room : ℕ)
    (spare : ℕ) (r : Rights) (kept : List PolledValue) : Type 0 where
  pub served : Serves now batches r.board_pass.taken (r.shelf_pass.put ++ kept)
  pub none : r.board_pass.none ≡ true
  pub count : r.seat.count ≡ first + sizes batches r.board_pass.taken
  pub left : r.seat.allowance + sizes batches r.board_pass.taken + spare ≡ room

-- n workers with shares of 1 are joined: the shares of board and shelf grew by n
abbrev pub HaveGrown : Rights → ℕ → Rights → Type 0
HaveGrown r n after = (after.board_pass.share ≡ r.board_pass.share + n)
    × (after.shelf_pass.share ≡ r.shelf_pass.share + n)

-- if the calling thread had its part while others could count `spare`, the result is the part of
-- all of them
abbrev pub IsPartOfAll : ℕ → ℕ → Served → Served → Type 0
IsPartOfAll now spare before after =
    (first room : ℕ) → IfOk before.overflow
    (λ ps. IsPart now before.rights.board_pass.batches first room spare before.rights ps.items)
    → IfOk after.overflow
    (λ ps. IsPart now before.rights.board_pass.batches first room 0 after.rights ps.items)

-- all workers are joined into the rights with which the round began; meanwhile these messages were
-- taken from the shelf
pub record IsWhole (moment : ℕ) (first : Rights) (r : Rights)
    (overflow : Overflow) (messages : List PolledValue) : Type 0 where
  pub of : (r.board_pass.board ≡ first.board_pass.board)
      × (r.shelf_pass.shelf ≡ first.shelf_pass.shelf) × (r.seat.tally ≡ first.seat.tally)
  pub same : r.board_pass.batches ≡ first.board_pass.batches
  pub shares : (r.board_pass.share ≡ max_moment) × (r.shelf_pass.share ≡ max_moment)
  pub taken : r.shelf_pass.taken ≡ messages
  pub part : IfOk overflow (λ ps.
      IsPart moment first.board_pass.batches first.seat.count first.seat.allowance 0 r ps.items)
