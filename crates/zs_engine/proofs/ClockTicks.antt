-- The ticks of a clock as a list.
use Rattle.std.proofs.Common.{◌≡◌, ℕ, zero, suc, ◌+◌, ◌≤◌, ◌<◌, List, [], ◌∷◌, nat_le, cond, true}
use Rattle.std.proofs.Common.{false, Contains, if◌then◌else◌, refl, sym, ap, arith, nat_cmp}
use Rattle.std.specs.Prelude.{Some, None}
use Rattle.std.specs.List.Sorted.{IsStrictlySortedBy}
use Rattle.std.specs.declared.cmp.Ordering.TheVariants.{Less}
use Rattle.std.proofs.lemmas.Bool.Decides.{nat_tests}
use Rattle.std.proofs.lemmas.List.Elements.{Contains-append_right}
use Rattle.std.proofs.lemmas.Map.Keys.{sorted_from_strictly_increasing}
use Rattle.zs_drive.specs.Clocks.{first_tick_from, RisesFrom, AllBefore, max_tick}
use Rattle.zs_drive.specs.Clocks as drive
use Rattle.zs_drive.proofs.Ticks.{tick_cases, first_tick_from-past}
use Rattle.zs_drive.proofs.Moments.{AllBefore-later}
use Rattle.zs_agenda.specs.Ticks.{Ticks, every_ms, listed, first_tick, horizon, IsClock}
use Rattle.zs_agenda.proofs.TickLemmas.{last-tick}
use Rattle.zs_engine.specs.Times.{moments_from, ticks_of}

AllBefore-moments : (b n c : ℕ) → b + n ≤ c → AllBefore (moments_from b n) c
unfolding AllBefore moments_from
AllBefore-moments b zero c h = tt
AllBefore-moments b (suc n) c h = (omega arith, AllBefore-moments (b + 1) n c (omega arith))

RisesFrom-moments : (a b n : ℕ) → a ≤ b → RisesFrom a (moments_from b n)
unfolding RisesFrom moments_from
RisesFrom-moments a b zero h = tt
RisesFrom-moments a b (suc n) h = (h, RisesFrom-moments (b + 1) (b + 1) n (omega arith))

first_tick_from-moments : (b n x : ℕ) → b ≤ x → x < b + n →
    first_tick_from (moments_from b n) x ≡ Some x
unfolding first_tick_from moments_from
first_tick_from-moments b zero x h l = absurd (omega arith)
first_tick_from-moments b (suc n) x h l =
    tick_cases b x
    (λ t. (if t then Some b else first_tick_from (moments_from (b + 1) n) x) ≡ Some x)
    (λ k. first_tick_from-moments (b + 1) n x (omega arith) (omega arith)) (λ k. let same : b ≡ x =
    omega arith in ap (λ (m : ℕ). Some m) same)

-- the clock's first tick is the least one of its list
pub first_tick-is : (c : Ticks) (due : ℕ) → first_tick c due ≡ first_tick_from (ticks_of c) due
unfolding ticks_of first_tick_from
first_tick-is (every_ms last) due =
    elim (nat_le due last) as (λ b. nat_le due last ≡ b →
    cond b (Some due) None ≡ first_tick_from (moments_from 0 (last + 1)) due) [
      | true ↦ λ is. let within : due ≤ last = grind (arith, nat_tests) in
          sym (first_tick_from-moments 0 (last + 1) due (omega arith) (omega arith))
      | false ↦ λ is. let past : last + 1 ≤ due = grind (arith, nat_tests) in
          sym (first_tick_from-past (moments_from 0 (last + 1)) (last + 1) due
          (AllBefore-moments 0 (last + 1) (last + 1) (omega arith)) past)
    ] refl
first_tick-is (listed ts) due = refl

-- no tick is after the last one
listed-end : (ts : List ℕ) (h : ℕ) → ((t : ℕ) → Contains ts t → t ≤ h) → AllBefore ts (h + 1)
unfolding AllBefore
listed-end [] h all = tt
listed-end (t ∷ ts) h all =
    let first : t ≤ h = all t (0, (omega arith), refl) in
    (omega arith, listed-end ts h (λ s k. all s (Contains-append_right (t ∷ []) ts s k)))

rises-sorted : (b x : ℕ) (xs : List ℕ) → b ≤ x → IsStrictlySortedBy nat_cmp (x ∷ xs) →
    RisesFrom b (x ∷ xs)
unfolding RisesFrom IsStrictlySortedBy
rises-sorted b x [] h s = (h, tt)
rises-sorted b x (y ∷ xs) h s = (
  h,
  rises-sorted (x + 1) y xs (let less : nat_cmp x y ≡ Less =
      s.0.0 in grind (arith, nat_tests)) s.1,
)

pub RisesFrom-sorted : (xs : List ℕ) → IsStrictlySortedBy nat_cmp xs → RisesFrom 0 xs
unfolding RisesFrom
RisesFrom-sorted [] s = tt
RisesFrom-sorted (x ∷ xs) s = rises-sorted 0 x xs (omega arith) s

-- the list of a clock's ticks rises, up to the clock's horizon
pub ticks-rising : (c : Ticks) → IsClock c →
    drive.AreTicks (ticks_of c) × AllBefore (ticks_of c) (horizon c + 1)
unfolding ticks_of
ticks-rising (every_ms last) lawful = (
  record {
    rises = RisesFrom-moments 0 0 (last + 1) (omega arith);
    bounded = AllBefore-moments 0 (last + 1) (max_tick + 1) (omega (arith, lawful));
  },
  AllBefore-moments 0 (last + 1) (last + 1) (omega arith),
)
ticks-rising (listed ts) lawful =
    let end = listed-end ts (horizon (listed ts)) (last-tick ts lawful.rising) in
    let rises = RisesFrom-sorted ts (sorted_from_strictly_increasing ts lawful.rising) in (
      record {
        rises = rises;
        bounded = AllBefore-later ts (horizon (listed ts) + 1) (max_tick + 1) end
            (omega (arith, lawful.limit));
      },
      end,
    )
