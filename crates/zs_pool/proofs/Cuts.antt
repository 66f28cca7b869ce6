-- How a list of tasks is cut.
use Rattle.std.proofs.Common.{◌≡◌, ◌+◌, ◌-◌, ◌*◌, ◌≤◌, ◌<◌, ◌⊎◌, ℕ, zero, suc, List, [], ◌∷◌, ◌++◌}
use Rattle.std.proofs.Common.{length, take, drop, Some, sym, ap, ◌∙◌, subst, ap₂, inl, inr, ⊎_elim}
use Rattle.std.proofs.Common.{length-append, length-take, length-drop, append_assoc, arith, All}
use Rattle.std.proofs.Common.{slice_get}
use Rattle.std.proofs.lemmas.List.{take-append-drop}
use Rattle.std.proofs.lemmas.List.Elements.{All-head, All-tail, All-nil, All-cons}
use Rattle.zs_drive.specs.Tasks.{TaskValue}
use Rattle.zs_pool.specs.Batches.{BatchValue, IsFull, AreCut, tasks_of}

abbrev Within : ℕ → BatchValue → Type 0
Within grain b = (1 ≤ length b.tasks) × (length b.tasks ≤ grain)

-- The batches from `number` on are cut off, and `left` are the other tasks. All batches but the
-- last are full.
pub record Cutting (grain number : ℕ) (all left : List TaskValue) (bs : List BatchValue) :
    Type 0 where
  pub whole : left ++ tasks_of bs ≡ all
  pub numbered : (k : ℕ) (b : BatchValue) → slice_get bs k ≡ Some b → b.number ≡ number + k
  pub cut : AreCut grain bs
  pub enough : length left ≤ number * grain
  pub short : number * grain < length left + grain
  pub full : (bs ≡ []) ⊎ (length left ≡ number * grain)

suc_less : {X : Type 0} (xs : List X) → suc (length xs) ≡ suc (suc (length xs)) - 1
suc_less xs = omega arith

cut_cons : (grain : ℕ) (b : BatchValue) (bs : List BatchValue) → Within grain b →
    (bs ≡ []) ⊎ IsFull grain b → AreCut grain bs → AreCut grain (b ∷ bs)
cut_cons grain b [] within full cut =
    (All-cons (Within grain) b [] within (All-nil (Within grain)), All-nil (IsFull grain))
cut_cons grain b (x ∷ xs) within full cut =
    let F : ℕ → Type 0 = λ n. All (IsFull grain) (take n (x ∷ xs)) in
    let rest : F (length xs) = subst F (omega arith) cut.1 in
    let G : ℕ → Type 0 = λ n. All (IsFull grain) (take n (b ∷ x ∷ xs)) in (
      All-cons (Within grain) b (x ∷ xs) within cut.0,
      subst G (suc_less xs) (All-cons (IsFull grain) b (take (length xs) (x ∷ xs))
          (⊎_elim (λ (e : x ∷ xs ≡ []). absurd (omega (arith, ap (λ l. length l) e)))
          (λ (h : IsFull grain b). h) full) rest),
    )

numbered_cons : (number : ℕ) (b : BatchValue) (bs : List BatchValue) → b.number ≡ number →
    ((k : ℕ) (x : BatchValue) → slice_get bs k ≡ Some x → x.number ≡ suc number + k) →
    (k : ℕ) (x : BatchValue) → slice_get (b ∷ bs) k ≡ Some x → x.number ≡ number + k
numbered_cons number b bs mine others zero x at = let same : b ≡ x = cc in
    omega (arith, ap (λ y. y.number) same, mine)
numbered_cons number b bs mine others (suc k) x at = omega (arith, others k x at)

-- one more batch is cut off
pub cut_more : (grain number : ℕ) (all left rest : List TaskValue) (bs : List BatchValue)
    (b : BatchValue) → rest ≡ take (number * grain) left → b.tasks ≡ drop (number * grain) left →
    b.number ≡ number → Cutting grain (suc number) all left bs →
    Cutting grain number all rest (b ∷ bs)
cut_more grain number all left rest bs b kept own mine was =
    let at = number * grain in
    let step : suc number * grain ≡ grain + at = omega arith in
    let within : at ≤ length left = omega (arith, was.short, step) in
    let rest_size : length rest ≡ at =
    omega (arith, ap (λ l. length l) kept, length-take at left, within) in
    let own_size : length b.tasks + at ≡ length left =
    omega (arith, ap (λ l. length l) own, length-drop at left, within) in
    let full : (bs ≡ []) ⊎ IsFull grain b =
    ⊎_elim (λ (e : bs ≡ []). inl e) (λ (e : length left ≡ suc number * grain). inr
    (omega (arith, e, own_size, step))) was.full in
    let both : rest ++ b.tasks ≡ left = ap₂ (λ x y. x ++ y) kept own ∙ take-append-drop at left in
    record {
      whole = sym (append_assoc rest b.tasks (tasks_of bs)) ∙ ap (λ l. l ++ tasks_of bs) both
          ∙ was.whole;
      numbered = numbered_cons number b bs mine was.numbered;
      cut = cut_cons grain b bs (
        omega (arith, own_size, was.short, step),
        omega (arith, own_size, was.enough, step),
      ) full was.cut;
      enough = omega (arith, rest_size);
      short = omega (arith, rest_size, was.enough, was.short, step);
      full = inr rest_size;
    }

-- the number of batches is at most that of tasks
pub few_batches : (grain : ℕ) (bs : List BatchValue) → All (Within grain) bs →
    length bs ≤ length (tasks_of bs)
few_batches grain [] all = omega arith
few_batches grain (b ∷ bs) all = omega (
  arith,
  (All-head (Within grain) b bs all).0,
  few_batches grain bs (All-tail (Within grain) b bs all),
  length-append b.tasks (tasks_of bs),
)
