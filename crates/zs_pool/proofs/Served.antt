-- What a worker with a shelf and a seat has done.
use Rattle.std.proofs.Common.{false, ◌≡◌, ◌+◌, ◌<◌, ◌≤◌, ℕ, zero, suc, List, [], ◌∷◌, ◌++◌, length}
use Rattle.std.proofs.Common.{Some, refl, sym, ap, ◌∙◌, subst, append_assoc, length-append, arith}
use Rattle.std.proofs.Common.{All, slice_get, IsPermutation}
use Rattle.std.specs.List.{range_with_len}
use Rattle.std.proofs.lemmas.List.{map-append}
use Rattle.std.proofs.lemmas.List.Sums.{sum_by-append, sum_by-cons}
use Rattle.std.proofs.lemmas.List.Elements.{All-push, All-append, All-contains, Contains-push}
use Rattle.std.proofs.lemmas.List.Elements.{All-head, All-tail}
use Rattle.std.proofs.lemmas.List.Sorted.{All-permutation, sum_by-IsPermutation}
use Rattle.std.proofs.lemmas.List.Sorted.{IsPermutation-append, IsPermutation-append_comm}
use Rattle.std.proofs.lemmas.List.Sorted.{IsPermutation-trans, IsPermutation-append_left}
use Rattle.std.proofs.lemmas.List.Sorted.{IsPermutation-append_right, IsPermutation-map}
use Rattle.std.proofs.lemmas.List.Sorted.{IsPermutation-refl, IsPermutation-to_front}
use Rattle.zs_pool.specs.Batches.{BatchValue, tasks_of}
use Rattle.zs_pool.specs.Messages.{PolledValue, IsPollOf, IsPollAmong, numbers_of}
use Rattle.zs_pool.specs.Board.{BoardId, claimer}
use Rattle.zs_pool.specs.declared.rounds.shared.Rights.{Rights}
use Rattle.zs_pool.specs.Shares.{size_at, sizes, IsSame, HasCounted, Serves, HandsIn}

-- the number of tasks of the first n batches
abbrev pub before : List BatchValue → ℕ → ℕ
before [] n = 0
before (b ∷ bs) zero = 0
before (b ∷ bs) (suc n) = length b.tasks + before bs n

pub size_is : (bs : List BatchValue) (k : ℕ) (b : BatchValue) → slice_get bs k ≡ Some b →
    size_at bs k ≡ length b.tasks
size_is [] k b e = cc
size_is (x ∷ xs) zero b e = let same : x ≡ b = cc in ap (λ y. length y.tasks) same
size_is (x ∷ xs) (suc k) b e = size_is xs k b e

pub before_more : (bs : List BatchValue) (k n : ℕ) → k < n →
    before bs k + size_at bs k ≤ before bs n
before_more [] k n lt = omega arith
before_more (x ∷ xs) k zero lt = absurd (omega arith)
before_more (x ∷ xs) zero (suc n) lt = omega arith
before_more (x ∷ xs) (suc k) (suc n) lt = omega (arith, before_more xs k n (omega arith))

pub before_all : (bs : List BatchValue) (n : ℕ) → before bs n ≤ length (tasks_of bs)
before_all [] n = omega arith
before_all (x ∷ xs) zero = omega arith
before_all (x ∷ xs) (suc n) = omega (arith, before_all xs n, length-append x.tasks (tasks_of xs))

-- the batches taken fit before any number that is greater than theirs: they have no more tasks than
-- all batches before it
abbrev pub Fits : List BatchValue → List ℕ → Type 0
Fits bs taken = (n : ℕ) → All (λ j. j < n) taken → sizes bs taken ≤ before bs n

pub sizes_more : (bs : List BatchValue) (taken : List ℕ) (k : ℕ) →
    sizes bs (taken ++ k ∷ []) ≡ sizes bs taken + size_at bs k
sizes_more bs taken k =
    omega (arith, sum_by-append (size_at bs) taken (k ∷ []), sum_by-cons (size_at bs) k [])

pub fits_more : (bs : List BatchValue) (taken : List ℕ) (k : ℕ) → All (λ j. j < k) taken →
    Fits bs taken → Fits bs (taken ++ k ∷ [])
fits_more bs taken k below fits n all =
    let last : k < n = All-contains (λ j. j < n) (taken ++ k ∷ []) k all (Contains-push taken k) in
    omega (arith, sizes_more bs taken k, fits k below, before_more bs k n last)

pub hands_put : (put kept put' : List PolledValue) (m : PolledValue) → put' ≡ put ++ m ∷ [] →
    HandsIn put kept m put' kept
hands_put put kept put' m is =
    let one = IsPermutation-append_right put (kept ++ m ∷ []) (m ∷ kept)
    (IsPermutation-to_front kept m) in
    let P : List PolledValue × List PolledValue → Type 0 = λ y. IsPermutation y.0 y.1 in
    subst P (λ i. (
      sym (append_assoc put kept (m ∷ [])) i,
      (sym (append_assoc put (m ∷ []) kept) ∙ ap (λ l. l ++ kept) (sym is)) i,
    )) one

pub hands_keep : (put kept kept' : List PolledValue) (m : PolledValue) → kept' ≡ kept ++ m ∷ [] →
    HandsIn put kept m put kept'
hands_keep put kept kept' m is =
    let P : List PolledValue → Type 0 = λ l. IsPermutation ((put ++ kept) ++ m ∷ []) l in
    subst P (append_assoc put kept (m ∷ []) ∙ ap (λ l. put ++ l) (sym is))
    (IsPermutation-refl ((put ++ kept) ++ m ∷ []))

serves_more : (now : ℕ) (bs : List BatchValue) (taken taken' : List ℕ) (b : BatchValue)
    (m : PolledValue) (put kept put' kept' : List PolledValue)
    → slice_get bs b.number ≡ Some b → taken' ≡ taken ++ b.number ∷ [] → IsPollOf now b m
    → HandsIn put kept m put' kept' → Serves now bs taken (put ++ kept)
    → Serves now bs taken' (put' ++ kept')
serves_more now bs taken taken' b m put kept put' kept' there is poll moved h =
    let N : ℕ → Type 0 = λ n. slice_get bs n ≡ Some b in
    let among : IsPollAmong now bs m = (b, subst N (sym poll.number) there, poll) in
    let old = put ++ kept in let more = old ++ m ∷ [] in
    let one = IsPermutation-append_left (b.number ∷ []) taken (numbers_of old) h.1 in
    let two : IsPermutation taken' (numbers_of more) =
    let P : List ℕ × List ℕ → Type 0 = λ y. IsPermutation y.0 y.1 in
    subst P
    (λ i. (
      sym is i,
      ((λ j. numbers_of old ++ sym poll.number j ∷ [])
          ∙ sym (map-append (λ x. x.number) old (m ∷ []))) i,
    )) one
    in (
      All-permutation (IsPollAmong now bs) more (put' ++ kept') moved
          (All-push (IsPollAmong now bs) old m h.0 among),
      IsPermutation-trans taken' (numbers_of more) (numbers_of (put' ++ kept')) two
          (IsPermutation-map (λ x. x.number) more (put' ++ kept') moved),
    )

-- what a worker has done since it began with `first`, and which messages it stored itself
pub record Serving (now : ℕ) (first r : Rights) (kept : List PolledValue) : Type 0 where
  pub same : IsSame first r
  pub served : Serves now first.board_pass.batches r.board_pass.taken (r.shelf_pass.put ++ kept)
  pub count : r.seat.count ≡ first.seat.count + sizes first.board_pass.batches r.board_pass.taken
  pub left : r.seat.allowance + sizes first.board_pass.batches r.board_pass.taken
      ≡ first.seat.allowance
  pub fits : Fits first.board_pass.batches r.board_pass.taken

-- one more batch is claimed, polled and handed in
pub serving_more : (now : ℕ) (first r next : Rights) (kept kept' : List PolledValue)
    (b : BatchValue) (m : PolledValue) (board : BoardId)
    → slice_get r.board_pass.batches b.number ≡ Some b → All (λ j. j < b.number) r.board_pass.taken
    → board ≡ first.board_pass.board
    → next.board_pass ≡ claimer board r.board_pass.share r.board_pass.batches
    (r.board_pass.taken ++ b.number ∷ []) false
    → (next.shelf_pass.shelf ≡ first.shelf_pass.shelf)
    × (next.shelf_pass.share ≡ r.shelf_pass.share)
    × (next.shelf_pass.taken ≡ r.shelf_pass.taken)
    → HasCounted r.seat (length b.tasks) next.seat → IsPollOf now b m
    → HandsIn r.shelf_pass.put kept m next.shelf_pass.put kept' → Serving now first r kept
    → Serving now first next kept'
serving_more now first r next kept kept' b m board there below of is shelf counted poll moved was =
    let bs = first.board_pass.batches in
    let B : List BatchValue → Type 0 = λ l. slice_get l b.number ≡ Some b in
    let at : B bs = subst B was.same.1 there in
    let taken : next.board_pass.taken ≡ r.board_pass.taken ++ b.number ∷ [] =
    ap (λ p. p.taken) is in
    let size : sizes bs next.board_pass.taken ≡ sizes bs r.board_pass.taken + size_at bs b.number =
    ap (sizes bs) taken ∙ sizes_more bs r.board_pass.taken b.number in
    let F : List ℕ → Type 0 = Fits bs in
    record {
      same = (
        (ap (λ p. p.board) is ∙ of, shelf.0, counted.0 ∙ was.same.0.2),
        ap (λ p. p.batches) is ∙ was.same.1,
        ap (λ p. p.share) is ∙ was.same.2,
        shelf.1 ∙ was.same.3,
        shelf.2 ∙ was.same.4,
      );
      served = serves_more now bs r.board_pass.taken next.board_pass.taken b m r.shelf_pass.put kept
          next.shelf_pass.put kept' at taken poll moved was.served;
      count = omega (arith, counted.1, was.count, size, size_is bs b.number b at);
      left = omega (arith, counted.2, was.left, size, size_is bs b.number b at);
      fits = subst F (sym taken) (fits_more bs r.board_pass.taken b.number below was.fits);
    }

pub all_get : {X : Type 0} (P : X → Type 0) (xs : List X) (k : ℕ) (x : X) → All P xs →
    slice_get xs k ≡ Some x → P x
all_get P [] k x h e = cc
all_get P (y ∷ ys) zero x h e = let same : y ≡ x = cc in subst P same (All-head P y ys h)
all_get P (y ∷ ys) (suc k) x h e = all_get P ys k x (All-tail P y ys h) e

-- the allowance is enough for a claimed batch
pub claim_fits : (bs : List BatchValue) (taken : List ℕ) (b : BatchValue) (allowance first : ℕ)
    → slice_get bs b.number ≡ Some b → All (λ j. j < b.number) taken → Fits bs taken
    → allowance + sizes bs taken ≡ first → length (tasks_of bs) ≤ first
    → length b.tasks ≤ allowance
claim_fits bs taken b allowance first there below fits left room =
    omega (
      arith,
      fits b.number below,
      size_is bs b.number b there,
      before_more bs b.number (suc b.number) (omega arith),
      before_all bs (suc b.number),
      left,
      room,
    )

-- what two workers did, together
pub serves_both : (now : ℕ) (bs : List BatchValue) (t u : List ℕ) (p k q l : List PolledValue) →
    Serves now bs t (p ++ k) → Serves now bs u (q ++ l) →
    Serves now bs (t ++ u) ((p ++ q) ++ (k ++ l))
serves_both now bs t u p k q l one two =
    let mixed = (p ++ k) ++ (q ++ l) in let want = (p ++ q) ++ (k ++ l) in
    let inner : IsPermutation (k ++ (q ++ l)) (q ++ (k ++ l)) =
    let P : List PolledValue × List PolledValue → Type 0 = λ y. IsPermutation y.0 y.1 in
    subst P (λ i. (append_assoc k q l i, append_assoc q k l i))
    (IsPermutation-append_left l (k ++ q) (q ++ k) (IsPermutation-append_comm k q))
    in
    let moved : IsPermutation mixed want =
    let P : List PolledValue × List PolledValue → Type 0 = λ y. IsPermutation y.0 y.1 in
    subst P (λ i. (sym (append_assoc p k (q ++ l)) i, sym (append_assoc p q (k ++ l)) i))
    (IsPermutation-append_right p (k ++ (q ++ l)) (q ++ (k ++ l)) inner)
    in
    let numbers : IsPermutation (t ++ u) (numbers_of mixed) =
    let P : List ℕ → Type 0 = λ y. IsPermutation (t ++ u) y in
    subst P (sym (map-append (λ m. m.number) (p ++ k) (q ++ l)))
    (IsPermutation-append t (numbers_of (p ++ k)) u (numbers_of (q ++ l)) one.1 two.1)
    in (
      All-permutation (IsPollAmong now bs) mixed want moved
          (All-append (IsPollAmong now bs) (p ++ k) (q ++ l) one.0 two.0),
      IsPermutation-trans (t ++ u) (numbers_of mixed) (numbers_of want) numbers
          (IsPermutation-map (λ m. m.number) mixed want moved),
    )

pub sizes_both : (bs : List BatchValue) (t u : List ℕ) → sizes bs (t ++ u) ≡ sizes bs t + sizes bs u
sizes_both bs t u = sum_by-append (size_at bs) t u

-- what was collected is what the workers put; with what they stored beside it, it is all batches,
-- polled
pub collected : (now : ℕ) (bs : List BatchValue) (taken : List ℕ)
    (put kept got left : List PolledValue) → IsPermutation (range_with_len 0 (length bs)) taken
    → IsPermutation put (got ++ left) → Serves now bs taken (put ++ kept)
    → All (IsPollAmong now bs) ((got ++ left) ++ kept)
    × IsPermutation (range_with_len 0 (length bs)) (numbers_of ((got ++ left) ++ kept))
collected now bs taken put kept got left whole moved served =
    let all = IsPermutation-append_left kept put (got ++ left) moved in
    let numbers = IsPermutation-map (λ m. m.number) (put ++ kept) ((got ++ left) ++ kept) all in (
      All-permutation (IsPollAmong now bs) (put ++ kept) ((got ++ left) ++ kept) all served.0,
      IsPermutation-trans (range_with_len 0 (length bs)) taken (numbers_of ((got ++ left) ++ kept))
          whole (IsPermutation-trans taken (numbers_of (put ++ kept))
          (numbers_of ((got ++ left) ++ kept)) served.1 numbers),
    )

sizes_next : (b : BatchValue) (bs : List BatchValue) (a n : ℕ) →
    sizes (b ∷ bs) (range_with_len (suc a) n) ≡ sizes bs (range_with_len a n)
sizes_next b bs a zero = refl
sizes_next b bs a (suc n) =
    let one = sum_by-cons (size_at (b ∷ bs)) (suc a) (range_with_len (suc a + 1) n) in
    let two = sum_by-cons (size_at bs) a (range_with_len (a + 1) n) in
    let e : suc a + 1 ≡ suc (a + 1) = omega arith in
    let same : sizes (b ∷ bs) (range_with_len (suc a + 1) n) ≡ sizes bs (range_with_len (a + 1) n) =
    ap (λ k. sizes (b ∷ bs) (range_with_len k n)) e ∙ sizes_next b bs (a + 1) n in
    omega (arith, one, two, same)

sizes_all : (bs : List BatchValue) → sizes bs (range_with_len 0 (length bs)) ≡ length (tasks_of bs)
sizes_all [] = refl
sizes_all (b ∷ bs) =
    let one = sum_by-cons (size_at (b ∷ bs)) 0 (range_with_len (0 + 1) (length bs)) in
    let e : 0 + 1 ≡ suc 0 = omega arith in
    let same : sizes (b ∷ bs) (range_with_len (0 + 1) (length bs))
    ≡ sizes bs (range_with_len 0 (length bs)) =
    ap (λ k. sizes (b ∷ bs) (range_with_len k (length bs))) e ∙ sizes_next b bs 0 (length bs) in
    omega (arith, one, same, sizes_all bs, length-append b.tasks (tasks_of bs))

-- all workers together counted each task once
pub counted_all : (bs : List BatchValue) (taken : List ℕ) →
    IsPermutation (range_with_len 0 (length bs)) taken → sizes bs taken ≡ length (tasks_of bs)
counted_all bs taken whole =
    sum_by-IsPermutation (size_at bs) (range_with_len 0 (length bs)) taken whole ∙ sizes_all bs
