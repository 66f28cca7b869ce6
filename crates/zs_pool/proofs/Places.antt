-- Messages in the slots of their numbers.
use Rattle.std.proofs.Common.{◌≡◌, ◌≢◌, ◌<◌, ◌⊎◌, true, append_assoc, length-set, ℕ, zero, suc}
use Rattle.std.proofs.Common.{List, [], ◌∷◌, ◌++◌, length, set, map, Option, Some, None, refl, sym}
use Rattle.std.proofs.Common.{ap, ◌∙◌, subst, inl, inr, ⊎_elim, arith, slice_get, Contains}
use Rattle.std.proofs.Common.{IsPermutation}
use Rattle.std.specs.List.{AllZip, range_with_len}
use Rattle.std.proofs.lemmas.Bool.Decides.{eqb_tells}
use Rattle.std.proofs.lemmas.Option.{slice_get_read, slice_get_within}
use Rattle.std.proofs.lemmas.Slice.Zip.{AllZip-long}
use Rattle.std.proofs.lemmas.List.Elements.{All-cons, All-contains, All-nil, Contains-append_cases}
use Rattle.std.proofs.lemmas.List.FromFn.{length-range_with_len, get_or-range_with_len}
use Rattle.std.proofs.lemmas.List.Sorted.{Contains-permutation}
use Rattle.std.proofs.lemmas.List.{append-nil, get_or-set_same, nil_from_length, map-append}
use Rattle.zs_drive.specs.Tasks.{TaskValue}
use Rattle.zs_pool.specs.Rounds.{IsPolled, polled_at, broken_at}
use Rattle.zs_pool.specs.Batches.{BatchValue, tasks_of}
use Rattle.zs_pool.specs.Messages.{PolledValue, IsPollAmong, IsPollOf, HasPoll, numbers_of}

same_or_not : (a b : ℕ) → (a ≡ b) ⊎ (a ≢ b)
same_or_not a b = ⊎_elim (λ h. inl h.1) (λ h. inr h.1) (eqb_tells a b)

-- each number below n is in a permutation of 0 to n - 1
has_each : (n : ℕ) (ys : List ℕ) → IsPermutation (range_with_len 0 n) ys → (k : ℕ) → k < n →
    Contains ys k
has_each n ys moved k lt = Contains-permutation (range_with_len 0 n) ys k moved (
  k,
  omega (arith, length-range_with_len 0 n),
  get_or-range_with_len 0 n k k lt ∙ omega arith,
)

pub get_set : {X : Type 0} (xs : List X) (k : ℕ) (x : X) → k < length xs →
    slice_get (set xs k x) k ≡ Some x
get_set xs k x lt = slice_get_read (set xs k x) (length xs) k x (sym (length-set xs k x)) lt
    (sym (get_or-set_same xs k x x lt))

pub get_else : {X : Type 0} (xs : List X) (i k : ℕ) (x : X) → k ≢ i →
    slice_get (set xs i x) k ≡ slice_get xs k
get_else [] i k x n = refl
get_else (y ∷ ys) zero zero x n = absurd (n refl)
get_else (y ∷ ys) zero (suc k) x n = refl
get_else (y ∷ ys) (suc i) zero x n = refl
get_else (y ∷ ys) (suc i) (suc k) x n = get_else ys i k x (λ e. n (ap suc e))

-- a list of slots, each of which contains what is related to its x
module _ {X Y : Type 0} (R : X → Y → Type 0) where
  pub zip_slots : (xs : List X) (ys : List Y) → length ys ≡ length xs →
      ((k : ℕ) (x : X) → slice_get xs k ≡ Some x → (y : Y) × (slice_get ys k ≡ Some y) × R x y) →
      AllZip R xs ys
  zip_slots [] [] e h = tt
  zip_slots [] (y ∷ ys) e h = absurd (omega arith)
  zip_slots (x ∷ xs) [] e h = absurd (omega arith)
  zip_slots (x ∷ xs) (y ∷ ys) e h =
      let first = h 0 x refl in let same : y ≡ first.0 = cc in
      (subst (R x) (sym same) first.2, zip_slots xs ys (omega arith) (λ k z at. h (suc k) z at))

-- each batch has its poll in its slot, or will get it
abbrev pub Slotted : ℕ → List BatchValue → List (Option PolledValue) → List PolledValue → Type 0
Slotted now bs slots rest =
    (length slots ≡ length bs)
    × ((k : ℕ) (b : BatchValue) → slice_get bs k ≡ Some b →
    ((o : Option PolledValue) × (slice_get slots k ≡ Some o) × HasPoll now b o)
    ⊎ Contains (numbers_of rest) k)

pub slotted_none : (now n : ℕ) (bs : List BatchValue) (slots : List (Option PolledValue))
    (rest : List PolledValue) → n ≡ length bs → length slots ≡ n →
    IsPermutation (range_with_len 0 n) (numbers_of rest) → Slotted now bs slots rest
slotted_none now n bs slots rest e f moved = (
  f ∙ e,
  λ k b at. inr
      (has_each n (numbers_of rest) moved k (omega (arith, slice_get_within bs k b at))),
)

pub slotted_more : (now : ℕ) (bs : List BatchValue) (slots new : List (Option PolledValue))
    (p : PolledValue) (was rest : List PolledValue) → was ≡ p ∷ rest →
    new ≡ set slots p.number (Some p) → IsPollAmong now bs p → Slotted now bs slots was →
    Slotted now bs new rest
slotted_more now bs slots new p was rest e written among h =
    let W : List (Option PolledValue) → Type 0 = λ l. Slotted now bs l rest in
    let at_p : BatchValue = among.0 in let I : ℕ → Type 0 = λ n. p.number ≡ n in
    let below : p.number < length slots =
    omega (arith, slice_get_within bs p.number at_p among.1, h.0) in
    let P : List PolledValue → Type 0 = λ l. (k : ℕ) (b : BatchValue) → slice_get bs k ≡ Some b →
    ((o : Option PolledValue) × (slice_get slots k ≡ Some o) × HasPoll now b o)
    ⊎ Contains (numbers_of l) k in
    let was_so : P (p ∷ rest) = subst P e h.1 in
    subst W (sym written) (
      omega (arith, length-set slots p.number (Some p), h.0),
      λ k b at.
          ⊎_elim
          (λ (same : k ≡ p.number).
          let B : ℕ → Type 0 = λ j. slice_get bs j ≡ Some b in
          let there : slice_get bs p.number ≡ Some b = subst B same at in
          let is : at_p ≡ b = cc in
          let Q : BatchValue → Type 0 = λ x. IsPollOf now x p in
          let G : ℕ → Type 0 = λ j. slice_get (set slots p.number (Some p)) j ≡ Some (Some p) in
          inl (
            Some p,
            subst G (sym same) (get_set slots p.number (Some p) below),
            (p, refl, subst Q is among.2),
          ))
          (λ (other : k ≢ p.number).
          ⊎_elim
          (λ (have : (o : Option PolledValue) × (slice_get slots k ≡ Some o) × HasPoll now b o). inl
          (have.0, get_else slots p.number k (Some p) other ∙ have.1, have.2))
          (λ (later : Contains (p.number ∷ numbers_of rest) k). inr
          (⊎_elim
          (λ x. absurd
          (other
          (sym (All-contains I (p.number ∷ []) k (All-cons I p.number [] refl (All-nil I)) x))))
          (λ (y : Contains (numbers_of rest) k). y)
          (Contains-append_cases (p.number ∷ []) (numbers_of rest) k later)))
          (was_so k b at))
          (same_or_not k p.number),
    )

pub slotted_all : (now : ℕ) (bs : List BatchValue) (slots : List (Option PolledValue))
    (rest : List PolledValue) → length rest ≡ 0 → Slotted now bs slots rest →
    AllZip (HasPoll now) bs slots
slotted_all now bs slots [] none h = zip_slots (HasPoll now) bs slots h.0 (λ k b at. ⊎_elim (λ x. x)
    (λ (x : Contains [] k). absurd (omega (arith, x.1))) (h.1 k b at))
slotted_all now bs slots (p ∷ ps) none h = absurd (omega arith)

-- no task was broken
pub sound_polls : (now : ℕ) (xs ys : List TaskValue) → AllZip (IsPolled now) xs ys →
    ((k : ℕ) (t : TaskValue) → slice_get ys k ≡ Some t → t.broken ≢ true) →
    ys ≡ map (polled_at now) xs
sound_polls now [] [] h sound = refl
sound_polls now [] (y ∷ ys) h sound = absurd h
sound_polls now (x ∷ xs) [] h sound = absurd h
sound_polls now (x ∷ xs) (y ∷ ys) h sound =
    let here : y ≡ polled_at now x = ⊎_elim (λ e. e) (λ (e : y ≡ broken_at now x). absurd
    (sound 0 y refl (ap (λ t. t.broken) e))) h.0 in
    λ i. here i ∷ sound_polls now xs ys h.1 (λ k t at. sound (suc k) t at) i

-- what is gathered, followed by the polls of the rest, is the polls of all
abbrev pub Goes : ℕ → List BatchValue → List TaskValue → List (Option PolledValue) → Type 0
Goes now all done slots =
    (bs : List BatchValue) × AllZip (HasPoll now) bs slots
    × (done ++ map (polled_at now) (tasks_of bs) ≡ map (polled_at now) (tasks_of all))

pub goes_from : (now : ℕ) (all : List BatchValue) (done : List TaskValue)
    (slots was : List (Option PolledValue)) → slots ≡ was → done ≡ [] →
    AllZip (HasPoll now) all was → Goes now all done slots
goes_from now all done slots was e none h =
    let P : List (Option PolledValue) → Type 0 = λ l. AllZip (HasPoll now) all l in
    (all, subst P (sym e) h, ap (λ l. l ++ map (polled_at now) (tasks_of all)) none)

first_some : (now : ℕ) (bs : List BatchValue) (o : Option PolledValue)
    (rest : List (Option PolledValue)) → AllZip (HasPoll now) bs (o ∷ rest) → o ≢ None
first_some now [] o rest h is = absurd h
first_some now (b ∷ bs) o rest h is = let e = h.0.1 in cc

-- the front slot is not empty
pub has_some : (now : ℕ) (all : List BatchValue) (done : List TaskValue)
    (slots rest : List (Option PolledValue)) (o : Option PolledValue) → slots ≡ o ∷ rest →
    Goes now all done slots → o ≢ None
has_some now all done slots rest o e h is =
    let P : List (Option PolledValue) → Type 0 = λ l. AllZip (HasPoll now) h.0 l in
    first_some now h.0 o rest (subst P e h.1) is

next_goes : (now : ℕ) (all : List BatchValue) (done new : List TaskValue) (bs : List BatchValue)
    (p : PolledValue) (rest : List (Option PolledValue)) → AllZip (HasPoll now) bs (Some p ∷ rest)
    → done ++ map (polled_at now) (tasks_of bs) ≡ map (polled_at now) (tasks_of all)
    → ((ts : List TaskValue) → AllZip (IsPolled now) ts p.tasks
    → new ≡ done ++ map (polled_at now) ts) → Goes now all new rest
next_goes now all done new [] p rest h was told = absurd h
next_goes now all done new (b ∷ bs) p rest h was told =
    let q = h.0.0 in let same : q ≡ p = let e = h.0.1 in cc in
    let Q : PolledValue → Type 0 = λ m. IsPollOf now b m in
    let poll : IsPollOf now b p = subst Q same h.0.2 in (
      bs,
      h.1,
      ap (λ l. l ++ map (polled_at now) (tasks_of bs)) (told b.tasks poll.tasks)
          ∙ append_assoc done (map (polled_at now) b.tasks) (map (polled_at now) (tasks_of bs))
          ∙ ap (λ l. done ++ l) (sym (map-append (polled_at now) b.tasks (tasks_of bs))) ∙ was,
    )

pub goes_on : (now : ℕ) (all : List BatchValue) (done new : List TaskValue)
    (slots rest : List (Option PolledValue)) (p : PolledValue) → slots ≡ Some p ∷ rest →
    ((ts : List TaskValue) → AllZip (IsPolled now) ts p.tasks →
    new ≡ done ++ map (polled_at now) ts) → Goes now all done slots → Goes now all new rest
goes_on now all done new slots rest p e told h =
    let P : List (Option PolledValue) → Type 0 = λ l. AllZip (HasPoll now) h.0 l in
    next_goes now all done new h.0 p rest (subst P e h.1) h.2 told

pub goes_all : (now : ℕ) (all : List BatchValue) (done : List TaskValue)
    (slots : List (Option PolledValue)) → length slots ≡ 0 → Goes now all done slots →
    done ≡ map (polled_at now) (tasks_of all)
goes_all now all done slots none h =
    let bs = h.0 in let no : bs ≡ [] =
    nil_from_length bs (sym (AllZip-long (HasPoll now) bs slots h.1) ∙ none) in
    sym (append-nil done) ∙ ap (λ l. done ++ map (polled_at now) (tasks_of l)) (sym no) ∙ h.2
