-- The least tick of a clock, and of one with one more tick; attempts take time.
use Rattle.std.proofs.Common.{◌≡◌, ℕ, suc, ◌+◌, ◌-◌, ◌^◌, ◌≤◌, ◌<◌, min, List, [], ◌∷◌, ◌++◌}
use Rattle.std.proofs.Common.{length, nat_lt, nat_le, true, false, Bool, if◌then◌else◌, refl, arith}
use Rattle.std.specs.Prelude.{Some, None}
use Rattle.std.proofs.lemmas.Bool.{ltb-true}
use Rattle.std.proofs.lemmas.Bool.Decides.{nat_tests}
use borrow.Author.Tests.{ltb-false}
use Rattle.zs_term.specs.Saturating.{saturated}
use Rattle.zs_effect.specs.Scripts.{IsScript, entry_at, no_entry}
use Rattle.zs_effect.specs.declared.script.Beat.{Beat}
use Rattle.zs_drive.specs.Clocks.{first_tick_from, AllBefore}

-- by cases on a test
pub lt_cases : (t x : ℕ) (P : Bool → Type 0) → (t < x → P true) → (x ≤ t → P false) → P (nat_lt t x)
lt_cases t x P below above =
    elim (nat_lt t x) as (λ b. nat_lt t x ≡ b → P b) [
      | true ↦ λ e. below (ltb-true t x e)
      | false ↦
          λ e. above (ltb-false t x e)
    ] refl

-- by cases on whether a tick is late enough
pub tick_cases : (t x : ℕ) (P : Bool → Type 0) → (t < x → P false) → (x ≤ t → P true) →
    P (nat_le x t)
tick_cases t x P below above =
    elim (nat_le x t) as (λ b. nat_le x t ≡ b → P b) [
      | true ↦ λ e. above (let at : x ≤ t = grind (arith, nat_tests) in at)
      | false ↦ λ e. below (let late : t < x = grind (arith, nat_tests) in late)
    ] refl

-- the number of ticks at or after x
unfoldable pub left : List ℕ → ℕ → ℕ
left [] x = 0
left (t ∷ ticks) x = if nat_le x t then suc (left ticks x) else left ticks x

-- one more tick does not hide the least one
pub first_tick_from-some : (ticks : List ℕ) (c x s : ℕ) → first_tick_from ticks x ≡ Some s →
    first_tick_from (ticks ++ c ∷ []) x ≡ Some s
unfolding first_tick_from
first_tick_from-some [] c x s = λ e. cc
first_tick_from-some (t ∷ ticks) c x s =
    elim (nat_le x t) as (λ b. (if b then Some t else first_tick_from ticks x) ≡ Some s →
    (if b then Some t else first_tick_from (ticks ++ c ∷ []) x) ≡ Some s)
    [ true ↦ λ e. e | false ↦ first_tick_from-some ticks c x s ]

-- if there was none, the new tick is the candidate
pub first_tick_from-none : (ticks : List ℕ) (c x : ℕ) → first_tick_from ticks x ≡ None →
    first_tick_from (ticks ++ c ∷ []) x ≡ first_tick_from (c ∷ []) x
unfolding first_tick_from
first_tick_from-none [] c x = λ e. refl
first_tick_from-none (t ∷ ticks) c x =
    elim (nat_le x t) as (λ b. (if b then Some t else first_tick_from ticks x) ≡ None →
    (if b then Some t else first_tick_from (ticks ++ c ∷ []) x) ≡ first_tick_from (c ∷ []) x)
    [ true ↦ λ e. cc | false ↦ first_tick_from-none ticks c x ]

pub tick_one-late : (c x : ℕ) → c < x → first_tick_from (c ∷ []) x ≡ None
unfolding first_tick_from
tick_one-late c x h =
    tick_cases c x (λ b. (if b then Some c else None) ≡ None) (λ _. refl)
    (λ l. absurd (omega arith))

pub tick_one-at : (c x : ℕ) → x ≤ c → first_tick_from (c ∷ []) x ≡ Some c
unfolding first_tick_from
tick_one-at c x h = tick_cases c x (λ b. (if b then Some c else None) ≡ Some c)
    (λ l. absurd (omega arith)) (λ _. refl)

-- it is at or after the moment
pub first_tick_from-from : (ticks : List ℕ) (x s : ℕ) → first_tick_from ticks x ≡ Some s → x ≤ s
unfolding first_tick_from
first_tick_from-from [] x s = λ e. cc
first_tick_from-from (t ∷ ticks) x s =
    tick_cases t x (λ b. (if b then Some t else first_tick_from ticks x) ≡ Some s → x ≤ s)
    (λ _. first_tick_from-from ticks x s) (λ l e. let same : t ≡ s = cc in omega arith)

-- it is one of the ticks
pub first_tick_from-before : (ticks : List ℕ) (c x s : ℕ) → AllBefore ticks c →
    first_tick_from ticks x ≡ Some s → s < c
unfolding first_tick_from AllBefore
first_tick_from-before [] c x s all = λ e. cc
first_tick_from-before (t ∷ ticks) c x s all =
    elim (nat_le x t) as (λ b. (if b then Some t else first_tick_from ticks x) ≡ Some s → s < c) [
      | true ↦ λ e. let same : t ≡ s = cc in let first : t < c = all.0 in omega arith
      | false ↦
          first_tick_from-before ticks c x s all.1
    ]

-- there is none at or after a moment that is after all of them
pub first_tick_from-past : (ticks : List ℕ) (c x : ℕ) → AllBefore ticks c → c ≤ x →
    first_tick_from ticks x ≡ None
unfolding first_tick_from AllBefore
first_tick_from-past [] c x all h = refl
first_tick_from-past (t ∷ ticks) c x all h =
    let first : t < c = all.0 in
    tick_cases t x (λ b. (if b then Some t else first_tick_from ticks x) ≡ None)
    (λ _. first_tick_from-past ticks c x all.1 h) (λ l. absurd (omega arith))

-- if there is none, all are before the moment
pub AllBefore-none : (ticks : List ℕ) (x : ℕ) → first_tick_from ticks x ≡ None → AllBefore ticks x
unfolding first_tick_from AllBefore
AllBefore-none [] x = λ e. tt
AllBefore-none (t ∷ ticks) x =
    tick_cases t x (λ b. (if b then Some t else first_tick_from ticks x) ≡ None →
    (t < x) × AllBefore ticks x)
    (λ l e. (l, AllBefore-none ticks x e)) (λ _ e. cc)

-- the least tick at or after x is the least at or after itself
pub first_tick_from-again : (ticks : List ℕ) (x e : ℕ) → first_tick_from ticks x ≡ Some e →
    first_tick_from ticks e ≡ Some e
unfolding first_tick_from
first_tick_from-again [] x e = λ is. cc
first_tick_from-again (t ∷ ticks) x e =
    tick_cases t x (λ b. (if b then Some t else first_tick_from ticks x) ≡ Some e →
    first_tick_from (t ∷ ticks) e ≡ Some e)
    (λ l is.
    let from : x ≤ e = first_tick_from-from ticks x e is in
    tick_cases t e (λ b. (if b then Some t else first_tick_from ticks e) ≡ Some e)
    (λ _. first_tick_from-again ticks x e is) (λ k. absurd (omega arith)))
    (λ l is.
    let same : t ≡ e = cc in
    tick_cases t e (λ b. (if b then Some t else first_tick_from ticks e) ≡ Some e)
    (λ k. absurd (omega arith)) (λ _. is))

pub left-none : (ticks : List ℕ) (x : ℕ) → left ticks x ≤ 0 → first_tick_from ticks x ≡ None
unfolding first_tick_from left
left-none [] x = λ h. refl
left-none (t ∷ ticks) x =
    elim (nat_le x t) as (λ b. (if b then suc (left ticks x) else left ticks x) ≤ 0 →
    (if b then Some t else first_tick_from ticks x) ≡ None)
    [ true ↦ λ h. absurd (omega arith) | false ↦ left-none ticks x ]

pub left-length : (ticks : List ℕ) (x : ℕ) → left ticks x ≤ length ticks
unfolding left
left-length [] x = omega arith
left-length (t ∷ ticks) x =
    let rest : left ticks x ≤ length ticks = left-length ticks x in
    elim (nat_le x t) as (λ b. (if b then suc (left ticks x) else left ticks x)
    ≤ suc (length ticks)) [ true ↦ omega arith | false ↦ omega arith ]

pub left-later : (ticks : List ℕ) (x y : ℕ) → x ≤ y → left ticks y ≤ left ticks x
unfolding left
left-later [] x y h = omega arith
left-later (t ∷ ticks) x y h =
    let rest : left ticks y ≤ left ticks x = left-later ticks x y h in
    tick_cases t y (λ b. (if b then suc (left ticks y) else left ticks y) ≤ left (t ∷ ticks) x)
    (λ _. elim (nat_le x t) as
    (λ b. left ticks y ≤ (if b then suc (left ticks x) else left ticks x))
    [ true ↦ omega arith | false ↦ omega arith ])
    (λ l. tick_cases t x
    (λ b. suc (left ticks y) ≤ (if b then suc (left ticks x) else left ticks x))
    (λ k. absurd (omega arith)) (λ _. omega arith))

-- after the least tick fewer remain
pub left-after : (ticks : List ℕ) (x s y n : ℕ) → first_tick_from ticks x ≡ Some s → s < y →
    left ticks x ≤ suc n → left ticks y ≤ n
unfolding first_tick_from left
left-after [] x s y n = λ e h fits. omega arith
left-after (t ∷ ticks) x s y n =
    tick_cases t x (λ b. (if b then Some t else first_tick_from ticks x) ≡ Some s → s < y →
    (if b then suc (left ticks x) else left ticks x) ≤ suc n → left (t ∷ ticks) y ≤ n)
    (λ l e h fits.
    let from : x ≤ s = first_tick_from-from ticks x s e in
    let rest : left ticks y ≤ n = left-after ticks x s y n e h fits in
    tick_cases t y (λ b. (if b then suc (left ticks y) else left ticks y) ≤ n) (λ _. rest)
    (λ k. absurd (omega arith)))
    (λ l e h fits.
    let same : t ≡ s = cc in
    let fewer : left ticks y ≤ left ticks x = left-later ticks x y (omega arith) in
    tick_cases t y (λ b. (if b then suc (left ticks y) else left ticks y) ≤ n) (λ _. omega arith)
    (λ k. absurd (omega arith)))

-- an attempt takes at least 1 ms
pub beat-takes : (beats : List Beat) (k : ℕ) → IsScript beats → 1 ≤ (entry_at beats k).ms
beat-takes beats k script =
    let index : min k (length beats) - 1 < length beats = omega (arith, script.some) in
    script.timed (min k (length beats) - 1) no_entry index

-- so it ends after it began
pub saturated-after : (s c ms : ℕ) → s ≤ c → c < 2 ^ 64 - 1 → 1 ≤ ms → s < saturated (s + ms)
saturated-after s c ms h k l = omega arith
