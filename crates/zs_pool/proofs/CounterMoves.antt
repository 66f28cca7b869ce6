-- Each step preserves the rule of a counter.
use Rattle.std.proofs.Common.{◌≡◌, ℕ, ◌+◌, ◌-◌, ◌%◌, ◌^◌, ◌<◌, ◌≤◌, max, List, [], ◌∷◌, set, refl}
use Rattle.std.proofs.Common.{sym, ap, ◌∙◌, arith, slice_index, sum_by}
use Rattle.std.proofs.Math.Nat.{mod-le, mod-add-mod}
use mathlib.Core.Option.{none}
use Rattle.std.proofs.lemmas.List.Sums.{sum_by-cons}
use Rattle.atomic_table.specs.Table.{State, Me, step, Allows, Splits, Joins}
use Rattle.atomic_table.specs.Table.Act.{keeps}
use Rattle.zs_pool.specs.declared.board.counter_rule.Count.{Count}
use Rattle.zs_pool.specs.Runs.{Every}
use Rattle.zs_term.specs.Saturating.{max_moment}
use Rattle.zs_pool.specs.Counter.{counted, Sound, CountRun, KeepsCount, Added, Looked}
use Rattle.zs_pool.proofs.Views.{Moved, total_moved, total_two, total_none, every_moved, every_map}
use Rattle.zs_pool.proofs.Views.{every_idle, changes, forked, merged, one_word}

abbrev Rule : State (Unit {0}) Count → Type 0
Rule = KeepsCount tt

abbrev total : List Count → ℕ
total views = sum_by (λ u. u.count) views

-- the views still satisfy their part of the rule if the total doesn't fall
still : (views : List Count) (m n : ℕ) → m ≤ n → Every (Sound m) views → Every (Sound n) views
still views m n more each =
    every_map (Sound m) (Sound n) (λ u h. let a = h.0 in (omega arith, h.1)) views each

any_order : (words : List ℕ) (xs ys : List Count) → Moved xs ys → CountRun words xs →
    CountRun words ys
any_order words xs ys m b =
    let same = total_moved (λ u. u.count) xs ys m in
    record {
      word = b.word ∙ ap (λ t. (t % 2 ^ 64) ∷ []) (sym same);
      shares = total_moved (λ u. u.share) xs ys m ∙ b.shares;
      each = still ys (total xs) (total ys) (omega arith)
          (every_moved (Sound (total xs)) xs ys m b.each);
    }

-- a step at which one view and the word change together
moves : (slots id : ℕ) (me : Me (Unit {0}) Count) (k : ℕ) (f : ℕ → ℕ) (w : ℕ → Count)
    (then : ℕ → Me (Unit {0}) Count → Type 0)
    → ((n : ℕ) → f (n % 2 ^ 64) ≡ (n + k) % 2 ^ 64) → ((n : ℕ) → (w n).count ≡ me.0.count + k)
    → ((n : ℕ) → (w n).share ≡ me.0.share) → (me.0.share ≡ 0 → k ≡ 0)
    → ((n t : ℕ) → n ≤ t → me.0.seen ≤ t → (w n).seen ≤ t)
    → ((n : ℕ) → (me.0.share ≡ max_moment → me.0.seen ≤ me.0.count) → then n (w n, me.1))
    → Allows Rule slots id me 0 f then
moves slots id me k f w then wraps more same idle sees told s run homes at fits =
    let n = slice_index s.words 0 in let v = me.0 in let u : Count = w n in
    let r = changes CountRun any_order s.words (set s.words 0 (f n)) s.views id v
    (λ x. then n (x, me.1)) (λ rest b.
    let was = total (v ∷ rest) in let now = total (u ∷ rest) in
    let c = sum_by-cons (λ x. x.count) v rest in let d = sum_by-cons (λ x. x.count) u rest in
    let e = sum_by-cons (λ x. x.share) v rest in let g = sum_by-cons (λ x. x.share) u rest in
    let found : n ≡ was % 2 ^ 64 = ap (λ ws. slice_index ws 0) b.word in
    let low = mod-le was (2 ^ 64) in let count_is = more n in let share_is = same n in
    let mine = b.each.0.0 in
    let counted_in : now ≡ was + k = omega arith in (
      u,
      record {
        word = one_word s.words _ (f n) b.word
            ∙ ap (λ t. t ∷ []) (ap f found ∙ wraps was ∙ ap (λ t. t % 2 ^ 64) (sym counted_in));
        shares = omega (arith, b.shares);
        each = (
          (
            sees n now (omega arith) (omega arith),
            λ z. let none : v.share ≡ 0 =
                omega arith in omega (arith, b.each.0.1 none, idle none),
          ),
          still rest was now (omega arith) b.each.1,
        );
      },
      told n (λ whole. let none = total_none (λ x. x.count) rest (every_idle (Sound was)
          (λ x. x.count ≡ 0) (λ x. x.share) (λ x z h. h.1 z) rest (omega (arith, b.shares))
          b.each.1) in omega arith),
    )) run at in
    (r.0, keeps, tt, r.1, r.2)

pub adds : (slots id : ℕ) (me : Me (Unit {0}) Count) → 0 < me.0.share →
    Allows Rule slots id me 0 (λ n. (n + 1) % 2 ^ 64) (Added (step slots 0 1 0 none) me)
adds slots id me has_share =
    moves slots id me 1 (λ n. (n + 1) % 2 ^ 64) (λ n. counted me.0.share (me.0.count + 1) me.0.seen)
    (Added (step slots 0 1 0 none) me)
    (λ n. mod-add-mod n (2 ^ 64) 1) (λ n. refl) (λ n. refl) (λ z. absurd (omega arith))
    (λ n t l h. h) (λ n h. refl)

zero_more : (n : ℕ) → n % 2 ^ 64 ≡ (n + 0) % 2 ^ 64
zero_more n = ap (λ t. t % 2 ^ 64) (omega arith)

pub looks : (slots id : ℕ) (me : Me (Unit {0}) Count) →
    Allows Rule slots id me 0 (λ n. n) (Looked (step slots 0 0 0 none) me)
looks slots id me = moves slots id me 0 (λ n. n)
    (λ n. counted me.0.share me.0.count (max me.0.seen n)) (Looked (step slots 0 0 0 none) me)
    zero_more (λ n. omega arith) (λ n. refl) (λ z. refl) (λ n t l h. omega arith) (λ n h. (h, refl))

pub splits : (id : ℕ) (v : Count) → 2 ≤ v.share →
    Splits Rule id v (counted (v.share - 1) v.count v.seen) (counted 1 0 v.seen)
splits id v two s run at =
    let l : Count = counted (v.share - 1) v.count v.seen in let r : Count = counted 1 0 v.seen in
    forked CountRun any_order s.words s.views id v l r (λ rest b.
    let was = total (v ∷ rest) in let now = total (r ∷ l ∷ rest) in let mine = b.each.0.0 in
    let same : now ≡ was =
    omega (arith, total_two (λ x. x.count) r l rest, sum_by-cons (λ x. x.count) v rest) in
    record {
      word = b.word ∙ ap (λ t. (t % 2 ^ 64) ∷ []) (sym same);
      shares = omega (
        arith,
        b.shares,
        total_two (λ x. x.share) r l rest,
        sum_by-cons (λ x. x.share) v rest,
      );
      each = (
        (omega arith, λ z. refl),
        ((omega arith, λ z. absurd (omega arith)), still rest was now (omega arith) b.each.1),
      );
    }) run at

pub joins : (id : ℕ) (v : Count) (other : ℕ) (w : Count) → 0 < v.share →
    Joins Rule id v other w (counted (v.share + w.share) (v.count + w.count) (max v.seen w.seen))
    (counted 0 0 0)
joins id v other w has_share s run at apart at_other =
    let a : Count = counted (v.share + w.share) (v.count + w.count) (max v.seen w.seen) in
    let spent : Count = counted 0 0 0 in
    merged CountRun any_order s.words s.views id other v w a spent (λ rest b.
    let was = total (v ∷ w ∷ rest) in let now = total (a ∷ spent ∷ rest) in let mine = b.each.0.0 in
    let theirs = b.each.1.0.0 in
    let same : now ≡ was =
    omega (arith, total_two (λ x. x.count) a spent rest, total_two (λ x. x.count) v w rest) in
    record {
      word = b.word ∙ ap (λ t. (t % 2 ^ 64) ∷ []) (sym same);
      shares = omega (
        arith,
        b.shares,
        total_two (λ x. x.share) a spent rest,
        total_two (λ x. x.share) v w rest,
      );
      each = (
        (omega arith, λ z. absurd (omega arith)),
        ((omega arith, λ z. refl), still rest was now (omega arith) b.each.1.1),
      );
    }) run at apart at_other
