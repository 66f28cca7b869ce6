-- Lists that agree place by place.
use Rattle.std.proofs.Common.{◌≡◌, ℕ, ◌+◌, ◌<◌, ◌≤◌, List, [], ◌∷◌, ◌++◌, length, get_or, set, take}
use Rattle.std.proofs.Common.{refl, sym, subst, ⊎_elim, inl, inr}
use Rattle.std.specs.List.{All, AllZip}
use Rattle.std.proofs.lemmas.List.Elements.{All-nil, All-cons}
use Rattle.zs_drive.specs.Tasks.{TaskValue}
use Rattle.zs_pool.specs.Rounds.{IsPolled, polled_at, broken_at}
use Rattle.zs_pool.specs.Messages.{Saw}
use Rattle.std.proofs.lemmas.List.{take_more, take_more_set, take_all}

module _ {X Y : Type 0} (R : X → Y → Type 0) where
  pub zip_append : (xs : List X) (ys : List Y) (us : List X) (vs : List Y) → AllZip R xs ys →
      AllZip R us vs → AllZip R (xs ++ us) (ys ++ vs)
  zip_append [] [] us vs p q = q
  zip_append [] (y ∷ ys) us vs p q = absurd p
  zip_append (x ∷ xs) [] us vs p q = absurd p
  zip_append (x ∷ xs) (y ∷ ys) us vs p q = (p.0, zip_append xs ys us vs p.1 q)

  -- one more place, at which y was written
  pub zip_write : (xs : List X) (ys : List Y) (i : ℕ) (d : X) (y : Y) → i < length xs →
      i < length ys → AllZip R (take i xs) (take i ys) → R (get_or xs i d) y →
      AllZip R (take (i + 1) xs) (take (i + 1) (set ys i y))
  zip_write xs ys i d y in_x in_y before here =
      let now = zip_append (take i xs) (take i ys) (get_or xs i d ∷ []) (y ∷ []) before
      (here, tt) in
      rw (take_more xs i d in_x, take_more_set ys i y in_y) now

  pub zip_whole : (xs : List X) (ys : List Y) (i : ℕ) → length xs ≤ i → length ys ≤ i →
      AllZip R (take i xs) (take i ys) → AllZip R xs ys
  zip_whole xs ys i in_x in_y h = rw (take_all i xs in_x, take_all i ys in_y) at h

saw_one : (now : ℕ) (x y : TaskValue) → IsPolled now x y → Saw now y
saw_one now x y h =
    ⊎_elim
    (λ (e : y ≡ polled_at now x). subst (Saw now) (sym e) (refl, inr (x.moments, refl)))
    (λ (e : y ≡ broken_at now x). subst (Saw now) (sym e) (refl, inl refl)) h

-- each polled task saw the moment
pub saw_all : (now : ℕ) (xs ys : List TaskValue) → AllZip (IsPolled now) xs ys → All (Saw now) ys
saw_all now [] [] h = All-nil (Saw now)
saw_all now [] (y ∷ ys) h = absurd h
saw_all now (x ∷ xs) [] h = absurd h
saw_all now (x ∷ xs) (y ∷ ys) h =
    All-cons (Saw now) y ys (saw_one now x y h.0) (saw_all now xs ys h.1)
