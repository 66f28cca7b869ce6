-- What is joined so far, while workers are joined one after the other.
use Rattle.std.proofs.Common.{◌≡◌, ◌+◌, ◌||◌, ℕ, true, Ok, Err, IfOk, List, ◌∷◌, ◌++◌, length, sym}
use Rattle.std.proofs.Common.{ap, ◌∙◌, subst, append-nil, arith, All}
use Rattle.std.proofs.Math.Bool.{or-true}
use Rattle.std.proofs.lemmas.List.Sums.{sum_by-cons}
use Rattle.std.proofs.lemmas.List.Elements.{All-head, All-tail}
use Rattle.zs_pool.specs.Batches.{BatchValue}
use Rattle.zs_pool.specs.Messages.{PolledValue}
use Rattle.zs_pool.specs.Board.{claimer}
use Rattle.zs_pool.specs.Shelf.{Shelver, shelver}
use Rattle.zs_pool.specs.declared.rounds.shared.Shared.{Shared}
use Rattle.zs_pool.specs.declared.rounds.shared.Rights.{Rights}
use Rattle.zs_pool.specs.Shares.{Overflow, IsOf, IsSame, HasServed, Serves, sizes}
use Rattle.zs_pool.specs.Joined.{Worker, Promised, allowed, AreBoth, IsPart}
use Rattle.zs_pool.proofs.Served.{serves_both, sizes_both}

pub record Joins {G : Type 0} (shared : Shared G) (first : Rights) (before : Overflow)
    (all : List Worker) (rest : List Worker) (r : Rights) (kept : Overflow) : Type 0 where
  pub each : All (Promised shared first.board_pass.batches) rest
  pub of : IsOf shared r
  pub batches : r.board_pass.batches ≡ first.board_pass.batches
  pub board_share : r.board_pass.share + length rest ≡ first.board_pass.share + length all
  pub shelf_share : r.shelf_pass.share + length rest ≡ first.shelf_pass.share + length all
  pub taken : r.shelf_pass.taken ≡ first.shelf_pass.taken
  pub part : (count room : ℕ) →
      IfOk before (λ ps. IsPart shared.moment first.board_pass.batches count room (allowed all)
      first ps.items) → IfOk kept (λ ps. IsPart shared.moment first.board_pass.batches count room
      (allowed rest) r ps.items)

-- the part of one more thread
abbrev IsTheirs : ℕ → List BatchValue → ℕ → Rights → List PolledValue → Type 0
IsTheirs now batches room u ps = Serves now batches u.board_pass.taken (u.shelf_pass.put ++ ps)
    × (u.board_pass.none ≡ true) × (u.seat.count ≡ 0 + sizes batches u.board_pass.taken)
    × (u.seat.allowance + sizes batches u.board_pass.taken ≡ room)

record Sums (r u next : Rights) : Type 0 where
  pub taken : next.board_pass.taken ≡ r.board_pass.taken ++ u.board_pass.taken
  pub none : next.board_pass.none ≡ (r.board_pass.none || u.board_pass.none)
  pub put : next.shelf_pass.put ≡ r.shelf_pass.put ++ u.shelf_pass.put
  pub count : next.seat.count ≡ r.seat.count + u.seat.count
  pub left : next.seat.allowance ≡ r.seat.allowance + u.seat.allowance

part_more : (now : ℕ) (batches : List BatchValue) (count room mine spare : ℕ) (r u next : Rights)
    (a b : List PolledValue)
    → Sums r u next → IsTheirs now batches mine u b
    → IsPart now batches count room (mine + spare) r a
    → IsPart now batches count room spare next (a ++ b)
part_more now batches count room mine spare r u next a b sums theirs ours =
    let S : List ℕ × List PolledValue → Type 0 = λ y. Serves now batches y.0 (y.1 ++ (a ++ b)) in
    let size = ap (sizes batches) sums.taken ∙ sizes_both batches r.board_pass.taken
    u.board_pass.taken in
    record {
      served = subst S (λ i. (sym sums.taken i, sym sums.put i))
          (serves_both now batches r.board_pass.taken u.board_pass.taken r.shelf_pass.put a
          u.shelf_pass.put b ours.served theirs.0);
      none = sums.none ∙ ap (λ c. r.board_pass.none || c) theirs.1 ∙ or-true r.board_pass.none;
      count = omega (arith, sums.count, ours.count, theirs.2, size);
      left = omega (arith, sums.left, ours.left, theirs.3, size);
    }

part_both : (now : ℕ) (batches : List BatchValue) (count room mine spare : ℕ) (r u next : Rights)
    (kept more both : Overflow)
    → Sums r u next → IfOk more (λ ps. IsTheirs now batches mine u ps.items)
    → IfOk both (AreBoth kept more)
    → IfOk kept (λ ps. IsPart now batches count room (mine + spare) r ps.items)
    → IfOk both (λ ps. IsPart now batches count room spare next ps.items)
part_both now batches count room mine spare r u next kept more (Err e) sums told is was = tt
part_both now batches count room mine spare r u next kept more (Ok v) sums told is was =
    let a = is.0 in let b = is.1 in
    let M : Overflow → Type 0 = λ k. IfOk k (λ ps. IsTheirs now batches mine u ps.items) in
    let K : Overflow → Type 0 =
    λ k. IfOk k (λ ps. IsPart now batches count room (mine + spare) r ps.items) in
    let theirs : M (Ok b) = subst M is.3 told in
    let ours : K (Ok a) = subst K is.2 was in
    let P : List PolledValue → Type 0 = λ ms. IsPart now batches count room spare next ms in
    subst P (sym is.4) (part_more now batches count room mine spare r u next a.items b.items sums
    theirs ours)

pub joins_more : {G : Type 0} (shared : Shared G) (first : Rights) (before : Overflow)
    (all was rest : List Worker) (w : Worker) (r u next : Rights)
    (kept more both : Overflow) (seen : ℕ)
    → was ≡ w ∷ rest → IsSame w.promise.rights.value u
    × HasServed w.promise.moment w.promise.rights.value u more
    → next.board_pass ≡ claimer shared.board.now (r.board_pass.share + u.board_pass.share)
    r.board_pass.batches (r.board_pass.taken ++ u.board_pass.taken)
    (r.board_pass.none || u.board_pass.none)
    → next.shelf_pass ≡ shelver shared.shelf.now (r.shelf_pass.share + u.shelf_pass.share)
    (r.shelf_pass.put ++ u.shelf_pass.put) (r.shelf_pass.taken ++ u.shelf_pass.taken)
    → next.seat ≡ record {
      tally = shared.tally.now;
      count = r.seat.count + u.seat.count;
      allowance = r.seat.allowance + u.seat.allowance;
      seen = seen;
    }
    → IfOk both (AreBoth kept more)
    → Joins shared first before all was r kept → Joins shared first before all rest next both
joins_more shared first before all was rest w r u next kept more both seen step told board_pass
    shelf_pass seat is j =
    let bs = first.board_pass.batches in let v = w.promise.rights.value in
    let now = shared.moment in
    let Q : List Worker → Type 0 = λ ws. Joins shared first before all ws r kept in
    let b : Q (w ∷ rest) = subst Q step j in
    let mine = All-head (Promised shared bs) w rest b.each in
    let fresh = mine.1 in let same = told.0 in
    let sums : Sums r u next = record {
      taken = ap (λ p. p.taken) board_pass;
      none = ap (λ p. p.none) board_pass;
      put = ap (λ h. h.put) shelf_pass;
      count = ap (λ s. s.count) seat;
      left = ap (λ s. s.allowance) seat;
    } in
    let H : ℕ × List BatchValue × ℕ → Type 0 = λ y.
    IfOk more (λ ps. Serves y.0 y.1 u.board_pass.taken (u.shelf_pass.put ++ ps.items)
    × (u.board_pass.none ≡ true) × (u.seat.count ≡ y.2 + sizes y.1 u.board_pass.taken)
    × (u.seat.allowance + sizes y.1 u.board_pass.taken ≡ v.seat.allowance))
    in
    let theirs : H (now, bs, 0) = subst H (λ i. (mine.0 i, fresh.new.0 i, fresh.count i)) told.1 in
    let none : r.shelf_pass.taken ++ u.shelf_pass.taken ≡ r.shelf_pass.taken =
    ap (λ l. r.shelf_pass.taken ++ l) (same.4 ∙ fresh.new.4) ∙ append-nil r.shelf_pass.taken in
    record {
      each = All-tail (Promised shared bs) w rest b.each;
      of = (ap (λ p. p.board) board_pass, ap (λ h. h.shelf) shelf_pass, ap (λ s. s.tally) seat);
      batches = ap (λ p. p.batches) board_pass ∙ b.batches;
      board_share = omega (
        arith,
        ap (λ p. p.share) board_pass,
        same.2,
        fresh.board_share,
        b.board_share,
      );
      shelf_share = omega (
        arith,
        ap (λ h. h.share) shelf_pass,
        same.3,
        fresh.shelf_share,
        b.shelf_share,
      );
      taken = ap (λ h. h.taken) shelf_pass ∙ none ∙ b.taken;
      part = λ count room h. part_both now bs count room v.seat.allowance (allowed rest) r u next
          kept more both sums theirs is
          (let P : ℕ → Type 0 = λ n. IfOk kept (λ ps. IsPart now bs count room n r ps.items) in
          subst P (sum_by-cons (λ x. x.promise.rights.value.seat.allowance) w rest)
          (b.part count room h));
    }

-- the part of the calling thread, after it collected
pub part_start : (now : ℕ) (bs : List BatchValue) (r u : Rights) (hand : Shelver) (kept : Overflow)
    (first room spare : ℕ) → r.board_pass.batches ≡ bs → hand.put ≡ u.shelf_pass.put
    → r.seat.count ≡ first → r.seat.allowance + spare ≡ room
    → HasServed now r u kept → IfOk kept (λ ps. IsPart now bs first room spare
    (record { board_pass = u.board_pass; shelf_pass = hand; seat = u.seat }) ps.items)
part_start now bs r u hand (Err e) first room spare same put count left h = tt
part_start now bs r u hand (Ok v) first room spare same put count left h =
    let S : List BatchValue × List PolledValue → Type 0 =
    λ y. Serves now y.0 u.board_pass.taken (y.1 ++ v.items) in
    let size = ap (λ l. sizes l u.board_pass.taken) same in
    record {
      served = subst S (λ i. (same i, sym put i)) h.0;
      none = h.1;
      count = omega (arith, h.2, count, size);
      left = omega (arith, h.3, left, size);
    }
