-- Each step preserves the rule of a shelf.
use Rattle.std.proofs.Common.{◌≡◌, ℕ, ◌+◌, ◌-◌, ◌<◌, List, [], ◌∷◌, ◌++◌, refl, sym, ap, ◌∙◌, subst}
use Rattle.std.proofs.Common.{arith, append_assoc, length, length-append, flat_map, IsPermutation}
use Rattle.std.proofs.lemmas.List.Sums.{sum_by-cons}
use Rattle.std.proofs.lemmas.List.{append-nil, nil_from_length}
use Rattle.std.proofs.lemmas.List.Sorted.{IsPermutation-refl, IsPermutation-sym}
use Rattle.std.proofs.lemmas.List.Sorted.{IsPermutation-trans, IsPermutation-append_left}
use Rattle.std.proofs.lemmas.List.Sorted.{length_permutation}
use Rattle.crossbeam_queue.specs.Fifo.{Pushes, Pops, Forks, Merges, Learns, Held}
use Rattle.zs_pool.specs.declared.shelf.rule.Hands.{Hands}
use Rattle.zs_term.specs.Saturating.{max_moment}
use Rattle.zs_pool.specs.Shelf.{hands, IdleIsEmpty, ShelfRun, IsLeft}
use Rattle.zs_pool.proofs.Views.{Moved, total_moved, total_two, lists_moved, lists_none}
use Rattle.zs_pool.proofs.Views.{every_moved, every_map, every_idle, knows, changes, forked, merged}
use Rattle.zs_pool.proofs.Views.{grown}

module _ {T : Type 0} where
  -- a full shelf, as a pass with exclusive access knows it
  pub all_full : (v : Hands T) (cap slots : ℕ) → slots ≡ cap → Held cap (IsLeft v) →
      v.share ≡ max_moment → length v.put ≡ length v.taken + slots
  all_full v cap slots same held whole =
      omega (
        arith,
        length_permutation v.put (v.taken ++ held.0) (held.2 whole),
        length-append v.taken held.0,
        held.1,
        same,
      )

  any_order : (items : List T) (xs ys : List (Hands T)) → Moved xs ys → ShelfRun items xs →
      ShelfRun items ys
  any_order items xs ys m b = record {
    moved = IsPermutation-trans _ _ _ (IsPermutation-sym _ _ (lists_moved (λ u. u.put) xs ys m))
        (IsPermutation-trans _ _ _ b.moved
        (IsPermutation-append_left items _ _ (lists_moved (λ u. u.taken) xs ys m)));
    shares = total_moved (λ u. u.share) xs ys m ∙ b.shares;
    each = every_moved IdleIsEmpty xs ys m b.each;
  }

  pub begins : ShelfRun {T = T} [] (hands max_moment [] [] ∷ [])
  begins = record { moved = IsPermutation-refl []; shares = refl; each = ((λ z. (refl, refl)), tt) }

  pub puts : (n pass : ℕ) (v : Hands T) (x : T) → 0 < v.share →
      Pushes ShelfRun n pass v x (λ w. w ≡ hands v.share (v.put ++ x ∷ []) v.taken)
  puts n pass v x has_share items views room b at =
      changes ShelfRun any_order items (items ++ x ∷ []) views pass v _ (λ rest b.
      let more = IsPermutation-append_left (x ∷ []) _ _ b.moved in (
        hands v.share (v.put ++ x ∷ []) v.taken,
        record {
          moved = IsPermutation-trans _ _ _
              (IsPermutation-sym _ _
              (grown _ v.put (flat_map (λ u. u.put) rest) x (IsPermutation-refl _)))
              (rw (append_assoc (v.taken ++ flat_map (λ u. u.taken) rest) items (x ∷ [])) at more);
          shares = b.shares;
          each = ((λ z. absurd (omega arith)), b.each.1);
        },
        refl,
      )) b at

  pub takes : (pass : ℕ) (v : Hands T) → 0 < v.share →
      Pops ShelfRun pass v (λ x w. w ≡ hands v.share v.put (v.taken ++ x ∷ []))
  takes pass v has_share x items views b at =
      changes ShelfRun any_order (x ∷ items) items views pass v _ (λ rest b.
      let t = flat_map (λ u. u.taken) rest in (
        hands v.share v.put (v.taken ++ x ∷ []),
        record {
          moved = IsPermutation-trans _ _ _
              (rw (← append_assoc (v.taken ++ t) (x ∷ []) items) at b.moved)
              (IsPermutation-append_left items _ _ (grown _ v.taken t x (IsPermutation-refl _)));
          shares = b.shares;
          each = ((λ z. absurd (omega arith)), b.each.1);
        },
        refl,
      )) b at

  pub learns : (pass : ℕ) (v : Hands T) → Learns ShelfRun pass v (IsLeft v)
  learns pass v items views b at whole =
      let step : (rest : List (Hands T)) → ShelfRun items (v ∷ rest) →
      IsPermutation v.put (v.taken ++ items) = λ rest b.
      let e = sum_by-cons (λ u. u.share) v rest in
      let idle = every_idle IdleIsEmpty (λ u. (u.put ≡ []) × (u.taken ≡ [])) (λ u. u.share)
      (λ u z h. h z) rest (omega (arith, b.shares)) b.each.1 in
      let no_puts = lists_none (λ u. u.put) rest
      (every_map _ (λ u. u.put ≡ []) (λ u h. h.0) rest idle) in
      let no_takes =
      lists_none (λ u. u.taken) rest (every_map _ (λ u. u.taken ≡ []) (λ u h. h.1) rest idle) in
      rw (no_puts, no_takes, append-nil v.put, append-nil v.taken) at b.moved
      in
      knows ShelfRun any_order items views pass v _ step b at

  pub forks : (pass : ℕ) (v : Hands T) → 1 < v.share →
      Forks ShelfRun pass v (hands (v.share - 1) v.put v.taken) (hands 1 [] [])
  forks pass v two items views b at =
      forked ShelfRun any_order items views pass v (hands (v.share - 1) v.put v.taken)
      (hands 1 [] []) (λ rest b. record {
        moved = b.moved;
        shares = omega (
          arith,
          b.shares,
          total_two (λ u. u.share) (hands 1 [] [])
              (hands (v.share - 1) v.put v.taken) rest,
          sum_by-cons (λ u. u.share) v rest,
        );
        each = ((λ z. (refl, refl)), ((λ z. absurd (omega arith)), b.each.1));
      }) b at

  pub merges : (pass : ℕ) (v : Hands T) (other : ℕ) (w : Hands T) → 0 < v.share →
      Merges ShelfRun pass v other w
      (hands (v.share + w.share) (v.put ++ w.put) (v.taken ++ w.taken)) (hands 0 [] [])
  merges pass v other w has_share items views b at apart at_other =
      let a : Hands T = hands (v.share + w.share) (v.put ++ w.put) (v.taken ++ w.taken) in
      merged ShelfRun any_order items views pass other v w a (hands 0 [] []) (λ rest b. record {
        moved = rw (
          append_assoc v.put w.put (flat_map (λ u. u.put) rest),
          append_assoc v.taken w.taken (flat_map (λ u. u.taken) rest),
        ) b.moved;
        shares = omega (
          arith,
          b.shares,
          total_two (λ u. u.share) a (hands 0 [] []) rest,
          total_two (λ u. u.share) v w rest,
        );
        each = ((λ z. absurd (omega arith)), ((λ z. (refl, refl)), b.each.1.1));
      }) b at apart at_other

  -- one more message of the queue was taken
  pub drained : (first v w : Hands T) (x : T) (left new : List T)
      → w ≡ hands v.share v.put (v.taken ++ x ∷ []) → new ≡ left ++ x ∷ []
      → (v.share ≡ max_moment) × (v.put ≡ first.put) × (v.taken ≡ first.taken ++ left)
      → (w.share ≡ max_moment) × (w.put ≡ first.put) × (w.taken ≡ first.taken ++ new)
  drained first v w x left new is more was = (
    ap (λ u. u.share) is ∙ was.0,
    ap (λ u. u.put) is ∙ was.1,
    ap (λ u. u.taken) is ∙ ap (λ l. l ++ x ∷ []) was.2 ∙ append_assoc first.taken left
        (x ∷ []) ∙ ap (λ l. first.taken ++ l) (sym more),
  )

  -- if the shelf was empty, all was taken
  pub nothing_left : (first v : Hands T) (left : List T) → Held 0 (IsLeft v) →
      (v.share ≡ max_moment) × (v.put ≡ first.put) × (v.taken ≡ first.taken ++ left) →
      IsPermutation first.put (first.taken ++ left)
  nothing_left first v left held was =
      let all = held.2 was.0 in let none = nil_from_length held.0 held.1 in
      let P : List T × List T → Type 0 = λ y. IsPermutation y.0 y.1 in
      subst P (λ i. (was.1 i, ((λ j. v.taken ++ none j) ∙ append-nil v.taken ∙ was.2) i)) all
