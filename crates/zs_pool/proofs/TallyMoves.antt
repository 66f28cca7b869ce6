-- Each step preserves the rule of a tally.
use Rattle.std.proofs.Common.{◌≡◌, Bool, true, false, ◌==◌, ℕ, ◌+◌, ◌-◌, ◌%◌, ◌^◌, ◌≤◌, max, List}
use Rattle.std.proofs.Common.{[], ◌∷◌, set, refl, sym, ap, ◌∙◌, arith, mod-eq_of_lt, eqb-true}
use Rattle.std.proofs.Common.{slice_index, sum_by}
use mathlib.Core.Option.{some, none, some-injective}
use lib.ListN.{get_elem?}
use prog.Atomic.{either}
use Rattle.std.proofs.lemmas.List.Sums.{sum_by-cons}
use Rattle.atomic_table.specs.Table.{State, Me, step, Allows, Splits, Joins, Final, Seen}
use Rattle.atomic_table.specs.Table.Act.{keeps}
use Rattle.zs_pool.specs.declared.tally.rule.Tallied.{Tallied}
use Rattle.zs_pool.specs.Runs.{Every}
use Rattle.zs_pool.specs.Tally.{tallied, TallyRun, KeepsTally, CountsOne, Noted, Fitting, Loaded}
use Rattle.zs_term.specs.Saturating.{max_moment}
use Rattle.zs_pool.proofs.Views.{Moved, total_moved, total_two, every_moved, every_map, knows}
use Rattle.zs_pool.proofs.Views.{changes, forked, merged, one_word}

abbrev Rule : State (Unit {0}) Tallied → Type 0
Rule = KeepsTally tt

abbrev total : List Tallied → ℕ
total views = sum_by (λ u. u.count) views

-- no view saw more than n, if none saw more than a number that n isn't below
still : (views : List Tallied) (m n : ℕ) → m ≤ n → Every (λ u. u.seen ≤ m) views →
    Every (λ u. u.seen ≤ n) views
still views m n more each =
    every_map (λ u. u.seen ≤ m) (λ u. u.seen ≤ n) (λ u h. omega arith) views each

any_order : (words : List ℕ) (xs ys : List Tallied) → Moved xs ys → TallyRun words xs →
    TallyRun words ys
any_order words xs ys m b =
    let same = total_moved (λ u. u.count) xs ys m in
    let left = total_moved (λ u. u.allowance) xs ys m in
    record {
      word = b.word ∙ ap (λ t. t ∷ []) (sym same);
      whole = omega (arith, b.whole);
      each = still ys (total xs) (total ys) (omega arith)
          (every_moved (λ u. u.seen ≤ total xs) xs ys m b.each);
    }

-- a step at which one view and the word change together
moves : (slots id : ℕ) (me : Me (Unit {0}) Tallied) (k : ℕ) (f : ℕ → ℕ) (w : ℕ → Tallied)
    (then : ℕ → Me (Unit {0}) Tallied → Type 0)
    → ((n : ℕ) → n + me.0.allowance ≤ max_moment → f n ≡ n + k)
    → ((n : ℕ) → (w n).count ≡ me.0.count + k)
    → ((n : ℕ) → (w n).allowance + k ≡ me.0.allowance)
    → ((n : ℕ) → me.0.seen ≤ n → (w n).seen ≤ n)
    → ((n : ℕ) → me.0.count ≤ n → me.0.seen ≤ n → n + me.0.allowance ≤ max_moment
    → then n (w n, me.1)) → Allows Rule slots id me 0 f then
moves slots id me k f w then wraps more less sees told s run homes at fits =
    let n = slice_index s.words 0 in let v = me.0 in let u : Tallied = w n in
    let r = changes TallyRun any_order s.words (set s.words 0 (f n)) s.views id v
    (λ x. then n (x, me.1)) (λ rest b.
    let was = total (v ∷ rest) in let now = total (u ∷ rest) in
    let c = sum_by-cons (λ x. x.count) v rest in let d = sum_by-cons (λ x. x.count) u rest in
    let e = sum_by-cons (λ x. x.allowance) v rest in
    let g = sum_by-cons (λ x. x.allowance) u rest in
    let found : n ≡ was = ap (λ ws. slice_index ws 0) b.word in
    let count_is = more n in let left_is = less n in let whole = b.whole in let saw = b.each.0 in
    let room : n + v.allowance ≤ max_moment = omega arith in let sum_is = wraps n room in
    let sees_now = sees n (omega arith) in (
      u,
      record {
        word = one_word s.words _ (f n) b.word ∙ ap (λ t. t ∷ []) (omega arith);
        whole = omega arith;
        each = (omega arith, still rest was now (omega arith) b.each.1);
      },
      told n (omega arith) (omega arith) room,
    )) run at in
    (r.0, keeps, tt, r.1, r.2)

pub counts : (slots id : ℕ) (me : Me (Unit {0}) Tallied) → 1 ≤ me.0.allowance →
    Allows Rule slots id me 0 (λ n. (n + 1) % 2 ^ 64) (CountsOne (step slots 0 1 0 none) me)
counts slots id me some_left = moves slots id me 1 (λ n. (n + 1) % 2 ^ 64) (λ n. tallied
    (me.0.count + 1) (me.0.allowance - 1) me.0.seen me.0.noted)
    (CountsOne (step slots 0 1 0 none) me)
    (λ n room. mod-eq_of_lt (omega arith)) (λ n. refl) (λ n. omega arith) (λ n h. h)
    (λ n own saw room. refl)

pub sees : (slots id : ℕ) (me : Me (Unit {0}) Tallied) →
    Allows Rule slots id me 0 (λ n. n) (Loaded (step slots 0 0 0 none) me)
sees slots id me = moves slots id me 0 (λ n. n)
    (λ n. tallied me.0.count me.0.allowance n me.0.noted) (Loaded (step slots 0 0 0 none) me)
    (λ n room. omega arith) (λ n. omega arith) (λ n. omega arith) (λ n h. omega arith)
    (λ n own saw room. (own, saw, room, refl))

same_if : (n k : ℕ) (b : Bool) → (n == k) ≡ b → either b k n ≡ n
same_if n k true e = sym (eqb-true n k e)
same_if n k false e = refl

pub notes : (slots id k : ℕ) (me : Me (Unit {0}) Tallied) →
    Allows Rule slots id me 0 (λ n. either (n == k) k n) (Noted (step slots 0 k k none) me)
notes slots id k me =
    moves slots id me 0 (λ n. either (n == k) k n)
    (λ n. tallied me.0.count me.0.allowance me.0.seen k) (Noted (step slots 0 k k none) me)
    (λ n room. same_if n k (n == k) refl ∙ omega arith) (λ n. omega arith) (λ n. omega arith)
    (λ n h. h) (λ n own saw room. refl)

pub fits : (slots id : ℕ) (me : Me (Unit {0}) Tallied) →
    Allows Rule slots id me 0 (λ n. n) (Fitting (step slots 0 0 0 none) me)
fits slots id me = moves slots id me 0 (λ n. n) (λ n. me.0) (Fitting (step slots 0 0 0 none) me)
    (λ n room. omega arith) (λ n. omega arith) (λ n. omega arith) (λ n h. h)
    (λ n own saw room. (omega arith, refl))

pub splits : (id : ℕ) (v : Tallied) → v.noted ≤ v.allowance →
    Splits Rule id v (tallied v.count (v.allowance - v.noted) v.seen 0) (tallied 0 v.noted v.seen 0)
splits id v within s run at =
    let l : Tallied = tallied v.count (v.allowance - v.noted) v.seen 0 in
    let r : Tallied = tallied 0 v.noted v.seen 0 in
    forked TallyRun any_order s.words s.views id v l r (λ rest b.
    let was = total (v ∷ rest) in let now = total (r ∷ l ∷ rest) in let saw = b.each.0 in
    let same : now ≡ was =
    omega (arith, total_two (λ x. x.count) r l rest, sum_by-cons (λ x. x.count) v rest) in
    record {
      word = b.word ∙ ap (λ t. t ∷ []) (sym same);
      whole = omega (
        arith,
        b.whole,
        total_two (λ x. x.allowance) r l rest,
        sum_by-cons (λ x. x.allowance) v rest,
      );
      each = (omega arith, (omega arith, still rest was now (omega arith) b.each.1));
    }) run at

pub joins : (id : ℕ) (v : Tallied) (other : ℕ) (w : Tallied) →
    Joins Rule id v other w (tallied (v.count + w.count) (v.allowance + w.allowance)
    (max v.seen w.seen) 0) (tallied 0 0 0 0)
joins id v other w s run at apart at_other =
    let a : Tallied = tallied (v.count + w.count) (v.allowance + w.allowance) (max v.seen w.seen)
    0 in let spent : Tallied = tallied 0 0 0 0 in
    merged TallyRun any_order s.words s.views id other v w a spent (λ rest b.
    let was = total (v ∷ w ∷ rest) in let now = total (a ∷ spent ∷ rest) in let mine = b.each.0 in
    let theirs = b.each.1.0 in
    let same : now ≡ was =
    omega (arith, total_two (λ x. x.count) a spent rest, total_two (λ x. x.count) v w rest) in
    record {
      word = b.word ∙ ap (λ t. t ∷ []) (sym same);
      whole = omega (
        arith,
        b.whole,
        total_two (λ x. x.allowance) a spent rest,
        total_two (λ x. x.allowance) v w rest,
      );
      each = (omega arith, (omega arith, still rest was now (omega arith) b.each.1.1));
    }) run at apart at_other

-- the word at the end
pub closes : (id : ℕ) (v : Tallied) (words : List ℕ) (slots : List (Unit {0})) (n : ℕ)
    → Final (Seen Rule id v) words slots → get_elem? words 0 ≡ some n
    → (v.seen ≤ n) × (v.count ≤ n) × (n + v.allowance ≤ max_moment)
    × (v.count + v.allowance ≡ max_moment → n ≡ v.count)
closes id v words slots n last at =
    let s = last.0 in
    knows TallyRun any_order s.words s.views id v _ (λ rest b.
    let was = total (v ∷ rest) in
    let is : n ≡ was = sym (some-injective was n (rw (sym last.2 ∙ b.word) at at)) in
    let c = sum_by-cons (λ x. x.count) v rest in let e = sum_by-cons (λ x. x.allowance) v rest in
    let saw = b.each.0 in
    (omega arith, omega arith, omega (arith, b.whole), λ whole. omega (arith, b.whole)))
    last.1.0 last.1.1
