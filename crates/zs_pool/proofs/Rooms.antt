-- How the allowance is shared among the seats of all workers.
use Rattle.std.proofs.Common.{◌≡◌, ◌+◌, ◌*◌, ◌<◌, ◌≤◌, ℕ, suc, zero, false, List, [], ◌∷◌, ◌++◌}
use Rattle.std.proofs.Common.{length, sym, ap, ◌∙◌, subst, refl, mul-le-mul_right, arith, All}
use Rattle.std.proofs.Common.{suc-mul}
use Rattle.std.proofs.lemmas.List.Sums.{sum_by-append, sum_by-cons}
use Rattle.std.proofs.lemmas.List.Elements.{All-push}
use Rattle.zs_pool.specs.Batches.{BatchValue, AllPollable, tasks_of}
use Rattle.zs_pool.specs.Board.{Claimer, claimer}
use Rattle.zs_pool.specs.Shelf.{shelver}
use Rattle.zs_pool.specs.declared.rounds.shared.Shared.{Shared}
use Rattle.zs_pool.specs.declared.rounds.shared.Rights.{Rights}
use Rattle.zs_pool.specs.Shares.{rooms, IsFresh, IsReady}
use Rattle.zs_pool.specs.Joined.{Worker, Promised, allowed}

pub rooms_more : (n t : ℕ) → rooms (n + 1) t ≡ rooms n t + t
rooms_more n t = let e : n + 1 ≡ suc n = omega arith in ap (λ k. rooms k t) e ∙ omega arith

rooms_times : (n t : ℕ) → rooms n t ≡ n * t
rooms_times zero t = omega arith
rooms_times (suc n) t = omega (arith, rooms_times n t, suc-mul n t)

rooms_grow : (i n t : ℕ) → i ≤ n → rooms i t ≤ rooms n t
rooms_grow i n t le = let e : i * t ≤ n * t = mul-le-mul_right t le in
    omega (arith, rooms_times i t, rooms_times n t)

-- there is room for one more
pub rooms_fit : (i n t : ℕ) → i < n → rooms i t + t ≤ rooms n t
rooms_fit i n t lt = omega (arith, rooms_more i t, rooms_grow (i + 1) n t (omega arith))

-- the calling thread and its helpers are at most the workers of the cut
pub rooms_within : (helpers workers most room : ℕ) → helpers + 1 ≤ workers → workers * most ≤ room →
    most + rooms helpers most ≤ room
rooms_within helpers workers most room few fits =
    let e : helpers + 1 ≡ suc helpers = omega arith in
    omega (
      arith,
      rooms_grow (suc helpers) workers most (omega arith),
      rooms_times workers most,
      fits,
    )

pub fresh_own : {G : Type 0} (shared : Shared G) (bs : List BatchValue) (share seen : ℕ)
    (pass : Claimer) (own : Rights) → pass ≡ claimer shared.board.now share bs [] false
    → own.board_pass ≡ claimer shared.board.now 1 pass.batches [] pass.none
    → own.shelf_pass ≡ shelver shared.shelf.now 1 [] []
    → own.seat ≡ record {
      tally = shared.tally.now;
      count = 0;
      allowance = shared.tasks;
      seen = seen;
    } → length (tasks_of bs) ≤ shared.tasks → IsFresh shared bs own
fresh_own shared bs share seen pass own was board_pass shelf_pass seat fits = record {
  of = (ap (λ p. p.board) board_pass, ap (λ h. h.shelf) shelf_pass, ap (λ s. s.tally) seat);
  new = (
    ap (λ p. p.batches) board_pass ∙ ap (λ p. p.batches) was,
    ap (λ p. p.taken) board_pass,
    ap (λ p. p.none) board_pass ∙ ap (λ p. p.none) was,
    ap (λ h. h.put) shelf_pass,
    ap (λ h. h.taken) shelf_pass,
  );
  board_share = ap (λ p. p.share) board_pass;
  shelf_share = ap (λ h. h.share) shelf_pass;
  count = ap (λ s. s.count) seat;
  room = omega (arith, ap (λ s. s.allowance) seat, fits);
}

-- fresh rights are enough to serve
pub fresh_ready : {G : Type 0} (shared : Shared G) (bs : List BatchValue) (own : Rights) →
    IsFresh shared bs own → AllPollable shared.moment bs → IsReady shared own
fresh_ready shared bs own fresh pollable =
    let same = fresh.new.0 in
    let P : List BatchValue → Type 0 = AllPollable shared.moment in
    record {
      of = fresh.of;
      new = (refl, fresh.new.1, fresh.new.2, fresh.new.3, fresh.new.4);
      room = omega (arith, fresh.room, ap (λ (l : List BatchValue). length (tasks_of l)) same);
      pollable = subst P (sym same) pollable;
    }

pub allowed_push : (ws : List Worker) (w : Worker) (own : Rights) (most : ℕ) →
    w.promise.rights.value ≡ own → own.seat.allowance ≡ most →
    allowed (ws ++ w ∷ []) ≡ allowed ws + most
allowed_push ws w own most is e =
    let f : Worker → ℕ = λ x. x.promise.rights.value.seat.allowance in
    omega (arith, sum_by-append f ws (w ∷ []), sum_by-cons f w [], ap (λ r. r.seat.allowance) is, e)

pub promised_push : {G : Type 0} (shared : Shared G) (bs : List BatchValue) (ws : List Worker)
    (w : Worker) (own : Rights) → (w.promise.moment ≡ shared.moment)
    × (w.promise.rights.value ≡ own) → IsFresh shared bs own
    → All (Promised shared bs) ws → All (Promised shared bs) (ws ++ w ∷ [])
promised_push shared bs ws w own is fresh all =
    let F : Rights → Type 0 = IsFresh shared bs in
    All-push (Promised shared bs) ws w all (is.0, subst F (sym is.1) fresh)
