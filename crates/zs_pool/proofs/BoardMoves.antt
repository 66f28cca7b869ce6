-- Each step preserves the rule of a board.
use Rattle.std.proofs.Common.{◌≡◌, Bool, true, ℕ, zero, suc, ◌+◌, ◌-◌, ◌<◌, ◌≤◌, List, [], ◌∷◌}
use Rattle.std.proofs.Common.{◌++◌, length, drop, Some, refl, sym, ap, ◌∙◌, subst, arith}
use Rattle.std.proofs.Common.{append_assoc, length-append, slice_get, All, IsPermutation}
use Rattle.std.specs.List.{flat_map, sum_by, range_with_len}
use Rattle.std.proofs.lemmas.List.{drop-append-le, get_or_append_left, nil_from_length, append-nil}
use Rattle.std.proofs.lemmas.List.Sums.{sum_by-cons}
use Rattle.std.proofs.lemmas.List.FromFn.{length-range_with_len, get_or-range_with_len}
use Rattle.std.proofs.lemmas.List.Sorted.{IsPermutation-refl, IsPermutation-trans, All-permutation}
use Rattle.std.proofs.lemmas.List.Sorted.{length_permutation}
use Rattle.crossbeam_queue.specs.Fifo.{Pushes, Pops, Forks, Merges, Learns, Held}
use Rattle.zs_pool.specs.Batches.{BatchValue}
use Rattle.zs_pool.specs.Counter.{Counting}
use Rattle.zs_pool.specs.declared.board.rule.Claims.{Claims}
use Rattle.zs_term.specs.Saturating.{max_moment}
use Rattle.zs_pool.specs.Runs.{Every}
use Rattle.zs_pool.specs.Board.{claims, Fits, BoardRun, Took, IsRest, IsFit}
use Rattle.zs_pool.proofs.Views.{Moved, total_moved, total_two, lists_moved, lists_none}
use Rattle.zs_pool.proofs.Views.{every_moved, every_idle, knows, changes, forked, merged, grown}

range_more : (a n k : ℕ) → a + n ≡ k → range_with_len a (suc n) ≡ range_with_len a n ++ k ∷ []
range_more a zero k e = ap (λ j. j ∷ []) (omega arith)
range_more a (suc n) k e = ap (λ l. a ∷ l) (range_more (a + 1) n k (omega arith))

pub all_front : {X : Type 0} (P : X → Type 0) (xs ys : List X) → All P (xs ++ ys) → All P xs
all_front P xs ys h k d lt =
    subst P (get_or_append_left xs ys d k lt) (h k d (omega (arith, length-append xs ys)))

module _ {T : Type 0} where
  -- the front of the queue
  drop_front : (xs : List T) (n : ℕ) (x : T) (rest : List T) → x ∷ rest ≡ drop n xs →
      (slice_get xs n ≡ Some x) × (rest ≡ drop (suc n) xs) × (n < length xs)
  drop_front [] zero x rest e = absurd (omega (arith, ap length e))
  drop_front [] (suc n) x rest e = absurd (omega (arith, ap length e))
  drop_front (y ∷ ys) zero x rest e = ((cc), (cc), omega arith)
  drop_front (y ∷ ys) (suc n) x rest e = let r = drop_front ys n x rest e in
      (r.0, r.1, omega (arith, r.2))

  -- the rule for other views, if the batches and what is queued stay the same
  again : (items : List T) (us vs : List (Claims T)) (b : BoardRun items us) →
      IsPermutation (range_with_len 0 b.count) (flat_map (λ u. u.taken) vs) →
      sum_by (λ u. u.share) vs ≡ max_moment → Every (Fits b.batches) vs → BoardRun items vs
  again items us vs b taken shares each = record {
    batches = b.batches;
    count = b.count;
    within = b.within;
    left = b.left;
    taken = taken;
    shares = shares;
    each = each;
  }

  any_order : (items : List T) (xs ys : List (Claims T)) → Moved xs ys → BoardRun items xs →
      BoardRun items ys
  any_order items xs ys m b = again items xs ys b (IsPermutation-trans _ _ _ b.taken
      (lists_moved (λ u. u.taken) xs ys m)) (total_moved (λ u. u.share) xs ys m ∙ b.shares)
      (every_moved (Fits b.batches) xs ys m b.each)

  pub begins : BoardRun {T = T} [] (claims max_moment [] [] ∷ [])
  begins = record {
    batches = [];
    count = 0;
    within = omega arith;
    left = refl;
    taken = IsPermutation-refl [];
    shares = refl;
    each = (((λ _. refl), λ e. refl), tt);
  }

  pub puts : (n pass : ℕ) (v : Claims T) (x : T) → v.share ≡ max_moment →
      Pushes BoardRun n pass v x (λ w. w ≡ claims v.share (v.batches ++ x ∷ []) v.taken)
  puts n pass v x whole items views room b at =
      changes BoardRun any_order items (items ++ x ∷ []) views pass v _ (λ rest b.
      let now = b.batches ++ x ∷ [] in let e = sum_by-cons (λ u. u.share) v rest in (
        claims v.share (v.batches ++ x ∷ []) v.taken,
        record {
          batches = now;
          count = b.count;
          within = omega (arith, b.within, length-append b.batches (x ∷ []));
          left = ap (λ l. l ++ x ∷ []) b.left
              ∙ sym (drop-append-le b.count b.batches (x ∷ []) b.within);
          taken = b.taken;
          shares = b.shares;
          each = (
            ((λ _. ap (λ l. l ++ x ∷ []) (b.each.0.0 (omega arith))), λ z. absurd (omega arith)),
            every_idle (Fits b.batches) (Fits now) (λ u. u.share)
                (λ u z h. ((λ some. absurd (omega arith)), h.1)) rest
                (omega (arith, b.shares)) b.each.1,
          );
        },
        refl,
      )) b at

  -- a pass with exclusive access took everything that was taken
  took_all : (items : List T) (v : Claims T) (rest : List (Claims T)) → v.share ≡ max_moment →
      (b : BoardRun items (v ∷ rest)) → IsPermutation (range_with_len 0 b.count) v.taken
      × (b.count ≡ length v.taken)
  took_all items v rest whole b =
      let e = sum_by-cons (λ u. u.share) v rest in
      let none = lists_none (λ u. u.taken) rest (every_idle (Fits b.batches) (λ u. u.taken ≡ [])
      (λ u. u.share) (λ u z h. h.1 z) rest (omega (arith, b.shares)) b.each.1) in
      let own : IsPermutation (range_with_len 0 b.count) v.taken =
      rw (none, append-nil v.taken) at b.taken in (
        own,
        omega (
          arith,
          length_permutation (range_with_len 0 b.count) v.taken own,
          length-range_with_len 0 b.count,
        ),
      )

  pub takes : (pass : ℕ) (v : Claims T) → 0 < v.share → Pops BoardRun pass v (Took v)
  takes pass v some_share x items views b at =
      changes BoardRun any_order (x ∷ items) items views pass v _ (λ rest b.
      let k = b.count in let all = range_with_len 0 k in let t = flat_map (λ u. u.taken) rest in
      let same = b.each.0.0 some_share in
      let front = drop_front b.batches k x items b.left in
      let below : All (λ j. j < k) all = λ i d lt. let e =
      get_or-range_with_len 0 k i d (omega (arith, length-range_with_len 0 k)) in
      omega (arith, e, length-range_with_len 0 k) in (
        claims v.share v.batches (v.taken ++ k ∷ []),
        record {
          batches = b.batches;
          count = suc k;
          within = omega (arith, front.2);
          left = front.1;
          taken = rw (range_more 0 k k (omega arith)) (grown all v.taken t k b.taken);
          shares = b.shares;
          each = (((λ _. same), λ z. absurd (omega arith)), b.each.1);
        },
        (
          k,
          refl,
          rw same front.0,
          all_front (λ j. j < k) v.taken t (All-permutation (λ j. j < k)
              all (v.taken ++ t) b.taken below),
          λ whole. (took_all (x ∷ items) v rest whole b).1,
        ),
      )) b at

  pub learns : (pass : ℕ) (v : Claims T) → Learns BoardRun pass v (IsRest v)
  learns pass v items views b at whole =
      let step : (rest : List (Claims T)) → BoardRun items (v ∷ rest) →
      (length v.taken ≤ length v.batches) × (items ≡ drop (length v.taken) v.batches)
      × IsPermutation (range_with_len 0 (length v.taken)) v.taken = λ rest b.
      let own = took_all items v rest whole b in
      let P : ℕ × List T → Type 0 = λ y. (y.0 ≤ length y.1) × (items ≡ drop y.0 y.1)
      × IsPermutation (range_with_len 0 y.0) v.taken in
      subst P (λ i. (own.1 i, sym (b.each.0.0 (omega arith)) i)) (b.within, b.left, own.0)
      in
      knows BoardRun any_order items views pass v _ step b at

  pub forks : (pass : ℕ) (v : Claims T) → 1 < v.share →
      Forks BoardRun pass v (claims (v.share - 1) v.batches v.taken) (claims 1 v.batches [])
  forks pass v two items views b at =
      let l : Claims T = claims (v.share - 1) v.batches v.taken in
      let r : Claims T = claims 1 v.batches [] in
      forked BoardRun any_order items views pass v l r (λ rest b.
      let known = b.each.0.0 (omega arith) in
      let shares : sum_by (λ u. u.share) (r ∷ l ∷ rest) ≡ max_moment = omega (
        arith,
        b.shares,
        total_two (λ u. u.share) r l rest,
        sum_by-cons (λ u. u.share) v rest,
      ) in
      again items (v ∷ rest) (r ∷ l ∷ rest) b b.taken shares
      (((λ _. known), λ z. refl), (((λ _. known), λ z. absurd (omega arith)), b.each.1))) b at

  pub merges : (pass : ℕ) (v : Claims T) (other : ℕ) (w : Claims T) → 0 < v.share →
      Merges BoardRun pass v other w (claims (v.share + w.share) v.batches (v.taken ++ w.taken))
      (claims 0 [] [])
  merges pass v other w some_share items views b at apart at_other =
      let a : Claims T = claims (v.share + w.share) v.batches (v.taken ++ w.taken) in
      let spent : Claims T = claims 0 [] [] in
      merged BoardRun any_order items views pass other v w a spent (λ rest b.
      let shares : sum_by (λ u. u.share) (a ∷ spent ∷ rest) ≡ max_moment = omega (
        arith,
        b.shares,
        total_two (λ u. u.share) a spent rest,
        total_two (λ u. u.share) v w rest,
      ) in
      again items (v ∷ w ∷ rest) (a ∷ spent ∷ rest) b
      (rw (append_assoc v.taken w.taken (flat_map (λ u. u.taken) rest)) b.taken) shares (
        ((λ _. b.each.0.0 some_share), λ z. absurd (omega arith)),
        (((λ some. absurd (omega arith)), λ z. refl), b.each.1.1),
      )) b at apart at_other

  drop_get : (xs : List T) (k : ℕ) (x : T) → slice_get xs k ≡ Some x →
      drop k xs ≡ x ∷ drop (suc k) xs
  drop_get [] k x e = cc
  drop_get (y ∷ ys) zero x e = (cc)
  drop_get (y ∷ ys) (suc k) x e = drop_get ys k x e

  -- one more batch of the queue was taken
  pub drained : (v w : Claims T) (x : T) (left new all : List T) → v.share ≡ max_moment → Took v x w
      → new ≡ left ++ x ∷ [] → left ++ drop (length v.taken) v.batches ≡ all
      → (w.share ≡ max_moment) × (new ++ drop (length w.taken) w.batches ≡ all)
  drained v w x left new all whole took more was =
      let k = took.0 in let is = took.1 in let here : k ≡ length v.taken = took.4 whole in
      let rest : drop (length v.taken) v.batches ≡ x ∷ drop (suc k) v.batches =
      ap (λ n. drop n v.batches) (sym here) ∙ drop_get v.batches k x took.2 in
      let count : length w.taken ≡ suc k =
      ap (λ u. length u.taken) is ∙ omega (arith, length-append v.taken (k ∷ [])) in (
        ap (λ u. u.share) is ∙ whole,
        (λ i. more i ++ drop (count i) ((ap (λ u. u.batches) is) i)) ∙ append_assoc left (x ∷ [])
            (drop (suc k) v.batches) ∙ ap (λ l. left ++ l) (sym rest) ∙ was,
      )

  -- if the queue was empty, all was taken
  pub nothing_left : (v : Claims T) (left all : List T) → v.share ≡ max_moment → Held 0 (IsRest v) →
      left ++ drop (length v.taken) v.batches ≡ all → left ≡ all
  nothing_left v left all whole held was =
      let items = held.0 in let rest = held.2 whole in
      let none : drop (length v.taken) v.batches ≡ [] = sym rest.1 ∙ nil_from_length items held.1 in
      sym (append-nil left) ∙ ap (λ l. left ++ l) (sym none) ∙ was

-- a pass with exclusive access that saw the board empty took each batch once
pub whole_pass : (v : Claims BatchValue) (seat : Counting) (none : Bool) (items : List BatchValue)
    → IsFit v seat none → IsRest v items → (seat.share ≡ max_moment → seat.seen ≤ seat.count)
    → v.share ≡ max_moment → none ≡ true
    → IsPermutation (range_with_len 0 (length v.batches)) v.taken
whole_pass v seat none items fit rest settled whole was =
    let all = rest whole in let seen = fit.all_seen was in
    let counted = settled (fit.same_share ∙ whole) in
    let same : length v.taken ≡ length v.batches =
    omega (arith, all.0, seen, counted, fit.same_count) in
    let P : ℕ → Type 0 = λ n. IsPermutation (range_with_len 0 n) v.taken in
    subst P same all.2
