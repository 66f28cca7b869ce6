-- What each form of a schedule makes of drawn waits.
use Rattle.std.proofs.Common.{◌≡◌, ℕ, ◌+◌, ◌-◌, ◌*◌, ◌/◌, ◌≤◌, min, max, ◌⊎◌, inl, inr, Bool, true}
use Rattle.std.proofs.Common.{false}
use Rattle.std.proofs.Common.{Option, Some, None, [], ◌∷◌, refl, sym, ap, ◌∙◌, subst, arith}
use Rattle.std.proofs.lemmas.Nat.{le-div}
use Rattle.std.proofs.Math.Nat.{div-mul-le_self}
use Rattle.zs_step.specs.declared.decision.Decision.{Decision}
use Rattle.zs_step.specs.declared.decision.Decision.TheVariants.{Stop, Next}
use Rattle.zs_step.specs.History.{History}
use Rattle.zs_step.specs.Answer.{Answer, later_of, earlier_of, only_if, done_from}
use Rattle.zs_step.specs.Answer.{sequel_of, reset_if}
use Rattle.zs_bounds.specs.declared.waits.Waits.{Waits}
use Rattle.zs_bounds.specs.Driven.{IsWait}
use Rattle.zs_bounds.specs.Drawn.{IsDrawn, InTurn}
use Rattle.zs_bounds.proofs.RealWaits.{parts-rise, long-rises}

-- a percentage of a longer wait is no less
percent-rises : (v : Waits) (x y : ℕ) → x ≤ y →
    x * v.least_percent / 100 ≤ y * v.least_percent / 100
percent-rises v x y le =
    let less = div-mul-le_self (x * v.least_percent) 100 in
    let rises = parts-rise x y v.least_percent le in
    le-div (x * v.least_percent / 100) (y * v.least_percent) 100 (omega arith)
    (omega (arith, less, rises))

in-order : (x y : ℕ) → (x ≤ y) ⊎ (y ≤ x)
in-order x y = grind arith

-- the longer of two drawn waits is one of the longer wait, the shorter one of the shorter wait
longer-wait : (v : Waits) (w z s t : ℕ) → w ≤ z → IsWait v w s → IsWait v z t → IsWait v z (max s t)
longer-wait v w z s t le first second = record {
  least = (let least = second.least in omega (arith, least));
  most = (
      let rises = long-rises v w z le in
      let one = first.most in
      let other = second.most in
      omega (arith, rises, one, other));
}

shorter-wait : (v : Waits) (w z s t : ℕ) → w ≤ z → IsWait v w s → IsWait v z t →
    IsWait v w (min s t)
shorter-wait v w z s t le first second = record {
  least = (
      let rises = percent-rises v w z le in
      let one = first.least in
      let other = second.least in
      omega (arith, rises, one, other));
  most = (let most = first.most in omega (arith, most));
}

later-at : (v : Waits) (m x y s t : ℕ) → IsWait v (x - m) s → IsWait v (y - m) t →
    IsDrawn v m (Next (max x y)) (Next (max (m + s) (m + t)))
later-at v m x y s t first second = elim (in-order x y) [
  | inl le ↦
      (let at : max x y - m ≡ y - m = omega (arith, le) in
      let end : max (m + s) (m + t) ≡ m + max s t = omega arith in (
        max s t,
        (
          subst (λ w. IsWait v w (max s t)) (sym at)
              (longer-wait v (x - m) (y - m) s t (omega (arith, le)) first second),
          ap (λ n. Next n) end,
        ),
      ))
  | inr le ↦
      (let at : max x y - m ≡ x - m = omega (arith, le) in
      let end : max (m + s) (m + t) ≡ m + max t s = omega arith in (
        max t s,
        (
          subst (λ w. IsWait v w (max t s)) (sym at)
              (longer-wait v (y - m) (x - m) t s (omega (arith, le)) second first),
          ap (λ n. Next n) end,
        ),
      ))
]

earlier-at : (v : Waits) (m x y s t : ℕ) → IsWait v (x - m) s → IsWait v (y - m) t →
    IsDrawn v m (Next (min x y)) (Next (min (m + s) (m + t)))
earlier-at v m x y s t first second = elim (in-order x y) [
  | inl le ↦
      (let at : min x y - m ≡ x - m = omega (arith, le) in
      let end : min (m + s) (m + t) ≡ m + min s t = omega arith in (
        min s t,
        (
          subst (λ w. IsWait v w (min s t)) (sym at)
              (shorter-wait v (x - m) (y - m) s t (omega (arith, le)) first second),
          ap (λ n. Next n) end,
        ),
      ))
  | inr le ↦
      (let at : min x y - m ≡ y - m = omega (arith, le) in
      let end : min (m + s) (m + t) ≡ m + min t s = omega arith in (
        min t s,
        (
          subst (λ w. IsWait v w (min t s)) (sym at)
              (shorter-wait v (y - m) (x - m) t s (omega (arith, le)) second first),
          ap (λ n. Next n) end,
        ),
      ))
]

pub later-drawn : (v : Waits) (m : ℕ) (d e x y : Decision) → IsDrawn v m d x → IsDrawn v m e y →
    IsDrawn v m (later_of d e) (later_of x y)
later-drawn v m (Next a) (Next b) x y first second =
    subst (λ z. IsDrawn v m (Next (max a b)) (later_of z y)) (sym first.1.1)
    (subst (λ z. IsDrawn v m (Next (max a b)) (later_of (Next (m + first.0)) z)) (sym second.1.1)
    (later-at v m a b first.0 second.0 first.1.0 second.1.0))
later-drawn v m (Next a) Stop x y first second =
    ap (λ z. later_of z y) first.1.1 ∙ ap (λ z. later_of (Next (m + first.0)) z) second
later-drawn v m Stop e x y first second = ap (λ z. later_of z y) first

pub earlier-drawn : (v : Waits) (m : ℕ) (d e x y : Decision) → IsDrawn v m d x → IsDrawn v m e y →
    IsDrawn v m (earlier_of d e) (earlier_of x y)
earlier-drawn v m (Next a) (Next b) x y first second =
    subst (λ z. IsDrawn v m (Next (min a b)) (earlier_of z y)) (sym first.1.1)
    (subst (λ z. IsDrawn v m (Next (min a b)) (earlier_of (Next (m + first.0)) z)) (sym second.1.1)
    (earlier-at v m a b first.0 second.0 first.1.0 second.1.0))
earlier-drawn v m (Next a) Stop x y first second = (
  first.0,
  (
    first.1.0,
    ap (λ z. earlier_of z y) first.1.1 ∙ ap (λ z. earlier_of (Next (m + first.0)) z) second,
  ),
)
earlier-drawn v m Stop e x y first second =
    subst (λ z. IsDrawn v m e (earlier_of z y)) (sym first) second

pub only_if-drawn : (v : Waits) (m : ℕ) (b : Bool) (d x : Decision) → IsDrawn v m d x →
    IsDrawn v m (only_if b d) (only_if b x)
only_if-drawn v m true d x drawn = drawn
only_if-drawn v m false d x drawn = refl

-- what a decision draws after each history with a step
abbrev pub Draws : Waits → (History → Decision → Type 0) → (History → Answer) → Type 0
Draws v drawn a =
    (p : ℕ × ℕ) (h : History) (e : Decision) → drawn (p ∷ h) e →
    IsDrawn v p.0 (a (p ∷ h)).decision e

pub turn-drawn : (v : Waits) (o : Option History) (p : ℕ × ℕ) (h : History) (n : Bool)
    (a b : History → Answer) (first second : History → Decision → Type 0) (e : Decision) →
    Draws v first a → Draws v second b →
    InTurn (done_from o p n) (first (p ∷ h) e) (λ g. second g e) →
    IsDrawn v p.0 (sequel_of (done_from o p n) (a (p ∷ h)) b).decision e
turn-drawn v (Some g) p h n a b first second e one other drawn = other p g e drawn
turn-drawn v None p h true a b first second e one other drawn = one p h e drawn
turn-drawn v None p h false a b first second e one other drawn = other p [] e drawn

pub reset-drawn : (v : Waits) (r : Bool) (p : ℕ × ℕ) (g : History) (a : History → Answer)
    (of : History → Decision → Type 0) (e : Decision) → Draws v of a → of (reset_if r p g) e →
    IsDrawn v p.0 (a (reset_if r p g)).decision e
reset-drawn v true p g a of e draws drawn = draws p [] e drawn
reset-drawn v false p g a of e draws drawn = draws p g e drawn
