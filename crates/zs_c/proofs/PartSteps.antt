-- Steps of two parts in the words of both.
use Rattle.std.proofs.Common.{◌≡◌, ℕ, suc, ◌+◌, ◌-◌, ◌<◌, ◌≤◌, true, false, List, [], ◌∷◌, ◌++◌}
use Rattle.std.proofs.Common.{length, take, drop, refl, sym, ap, ◌∙◌, arith}
use Rattle.std.proofs.lemmas.List.{length-append}
use Rattle.std.specs.Prelude.{slice_set}
use borrow.Rule.Slice.PartMut.{put_mid}
use Rattle.zs_term.specs.Schedule.{Schedule, weight, two, and_then}
use Rattle.zs_step.specs.declared.decision.Decision.{Decision}
use Rattle.zs_step.specs.declared.decision.Decision.TheVariants.{Stop, Next}
use Rattle.zs_step.specs.History.{History}
use Rattle.zs_step.specs.Answer.{answer_of, from_done, is_next}
use Rattle.zs_step.proofs.VisitBounds.{visits-le}
use Rattle.zs_c.specs.Code.{held_of, held_size}
use Rattle.zs_c.specs.Leaves.{word_at}
use Rattle.zs_c.specs.Steps.{StepsCode, StepsBoth, StepsThen}
use Rattle.zs_c.proofs.Codes.{held-length}
use Rattle.zs_c.proofs.Counts.{done-shorter}
use Rattle.zs_c.proofs.Pieces.{parts-second-all, parts-new, then-first-arg, then-first-new}
use Rattle.zs_c.proofs.Pieces.{then-second-arg, then-second-new}
use Rattle.zs_c.proofs.StepLemmas.{first-held, first-is-on, second-is-on, then-goes-on, then-turns}
use Rattle.zs_c.proofs.StepLemmas.{then-second}

-- the words of two parts are no fewer than those of the first
pub parts-fit : (a b : Schedule) (h : History) (ws : List ℕ) (n : ℕ) → n ≡ held_size a →
    ws ≡ held_of a h ++ held_of b h → length ws < n → ⊥
parts-fit a b h ws n sized held few =
    omega (
      arith,
      sized,
      few,
      ap length held,
      length-append (held_of a h) (held_of b h),
      held-length a h [],
    )

-- and those of `andThenEither` have one more
pub then-fit : (a b : Schedule) (h : History) (ws : List ℕ) (n : ℕ) → n ≡ held_size a →
    ws ≡ held_of (two and_then a b) h → length ws ≤ n → ⊥
then-fit a b h ws n sized held few =
    let size : length ws ≡ suc (length (held_of a [] ++ held_of b [])) =
    ap length held ∙ held-length (two and_then a b) h [] in
    omega (arith, sized, few, size, length-append (held_of a []) (held_of b []))

-- a step doesn't change the number of words of a part
pub stepped-size : (t : Schedule) (h : History) (new : List ℕ) (now input n : ℕ) (d : Decision)
    (before after : ℕ) → n ≡ held_size t →
    StepsCode t h new now input d before after → length new ≡ n
stepped-size t h new now input n d before after sized s =
    ap length s.held ∙ held-length t ((now, input) ∷ h) [] ∙ sym sized

-- both parts are stepped
pub parts-steps : (a b : Schedule) (h : History) (ws xn yn : List ℕ) (now input n : ℕ)
    (x y : Decision) (before between after most : ℕ) →
    n ≡ held_size a → ws ≡ held_of a h ++ held_of b h → before + weight a + weight b ≤ most →
    (take n ws ≡ held_of a h → before + weight a ≤ most →
    StepsCode a h xn now input x before between) →
    (take (length (xn ++ drop n ws) - n) (drop n (xn ++ drop n ws)) ≡ held_of b h →
    between + weight b ≤ most → StepsCode b h yn now input y between after) →
    StepsBoth a b h (put_mid n (length (xn ++ drop n ws) - n) (xn ++ drop n ws) yn) now input x y
    before after
parts-steps a b h ws xn yn now input n x y before between after most sized held room first second =
    let p = first (first-held a b h h ws n held sized) (omega (arith, room)) in
    let kept = stepped-size a h xn now input n x before between sized p in
    let q = second (parts-second-all ws (held_of a h) (held_of b h) xn n held
    (sized ∙ held-length a [] h) kept)
    (omega (arith, room, p.visited, visits-le a ((now, input) ∷ h))) in
    record {
      held = parts-new ws xn yn n kept ∙ ap (λ z. z ++ yn) p.held
          ∙ ap (λ z. held_of a ((now, input) ∷ h) ++ z) q.held;
      first = p.decides;
      second = q.decides;
      visited = omega (arith, p.visited, q.visited);
    }

-- a decision that isn't to continue
pub stops : (d : Decision) → ((n : ℕ) → d ≡ Next n → ⊥) → is_next d ≡ false
stops Stop never = refl
stops (Next n) never = absurd (never n refl)

-- the step of a part whose visits are counted from an equal number
from-same : (t : Schedule) (h : History) (words : List ℕ) (now input : ℕ) (d : Decision)
    (before other after : ℕ) → before ≡ other →
    StepsCode t h words now input d before after → StepsCode t h words now input d other after
from-same t h words now input d before other after same s =
    record { held = s.held; decides = s.decides; visited = omega (arith, s.visited, same) }

-- the first part is active, and continues
pub then-goes : (a b : Schedule) (h : History) (ws xn : List ℕ) (now input n : ℕ) (x : Decision)
    (before after most : ℕ) →
    n ≡ held_size a → ws ≡ held_of (two and_then a b) h → before + weight a + weight b ≤ most →
    word_at ws 0 ≡ 0 →
    (take (n + 1 - 1) (drop 1 ws) ≡ held_of a h → before + weight a ≤ most →
    StepsCode a h xn now input x before after) → is_next x ≡ true →
    StepsThen a b h (put_mid 1 (n + 1 - 1) ws xn) now input x before after
then-goes a b h ws xn now input n x before after most sized held room zeroed first next =
    let on = first-is-on (from_done (answer_of a) h) (held_of a) (held_of b) h ws held zeroed in
    let size : n ≡ length (held_of a h) = sized ∙ held-length a [] h in
    let p = first (then-first-arg ws (held_of a h) (held_of b []) 0 n on.1 size)
    (omega (arith, room)) in
    then-goes-on a b h xn (put_mid 1 (n + 1 - 1) ws xn) now input x before after on.0 p next
    (then-first-new ws (held_of a h) (held_of b []) xn 0 n on.1 size)

-- the first part is active, and done at this step
pub then-done : (a b : Schedule) (h : History) (ws xn cn words yn : List ℕ) (now input n : ℕ)
    (x d : Decision) (before between joined after most : ℕ) →
    n ≡ held_size a → ws ≡ held_of (two and_then a b) h → before + weight a + weight b ≤ most →
    word_at ws 0 ≡ 0 →
    (take (n + 1 - 1) (drop 1 ws) ≡ held_of a h → before + weight a ≤ most →
    StepsCode a h xn now input x before between) → is_next x ≡ false →
    (length (take (n + 1 - 1) (drop 1 (slice_set (put_mid 1 (n + 1 - 1) ws xn) 0 1)))
    ≡ held_size a → cn ≡ held_of a []) →
    words ≡ put_mid 1 (n + 1 - 1) (slice_set (put_mid 1 (n + 1 - 1) ws xn) 0 1) cn →
    joined ≡ between →
    ((g : History) → length g ≤ length h → take (length words - (n + 1)) (drop (n + 1) words)
    ≡ held_of b g → joined + weight b ≤ most → StepsCode b g yn now input d joined after) →
    StepsThen a b h (put_mid (n + 1) (length words - (n + 1)) words yn) now input d before after
then-done a b h ws xn cn words yn now input n x d before between joined after most sized held room
    zeroed first stop clears is same second =
    let on = first-is-on (from_done (answer_of a) h) (held_of a) (held_of b) h ws held zeroed in
    let size : n ≡ length (held_of a h) = sized ∙ held-length a [] h in
    let p = first (then-first-arg ws (held_of a h) (held_of b []) 0 n on.1 size)
    (omega (arith, room)) in
    let kept : n ≡ length xn = sym (stepped-size a h xn now input n x before between sized p) in
    let marked = slice_set (put_mid 1 (n + 1 - 1) ws xn) 0 1 in
    let mark : marked ≡ 1 ∷ (xn ++ held_of b []) =
    ap (λ v. slice_set v 0 1)
    (then-first-new ws (held_of a h) (held_of b []) xn 0 n on.1 size) in
    let cleared : cn ≡ held_of a [] =
    clears (ap length (then-first-arg marked xn (held_of b []) 1 n mark kept)
    ∙ sym kept ∙ sized) in
    let there : words ≡ 1 ∷ (cn ++ held_of b []) =
    is ∙ then-first-new marked xn (held_of b []) cn 1 n mark kept in
    let long : n ≡ length cn = sized ∙ sym (ap length cleared) in
    let left : joined + weight b ≤ most =
    omega (arith, room, same, p.visited, visits-le a ((now, input) ∷ h)) in
    let q = from-same b [] yn now input d joined between after same
    (second [] (omega arith) (then-second-arg words cn (held_of b []) 1 n there long) left) in
    then-turns a b h xn yn (put_mid (n + 1) (length words - (n + 1)) words yn) now input x d before
    between after on.0 p stop q
    (then-second-new words cn (held_of b []) yn 1 n there long
    ∙ ap (λ (z : List ℕ). 1 ∷ (z ++ yn)) cleared)

-- the second part is active
pub then-on : (a b : Schedule) (h : History) (ws words yn : List ℕ) (now input n : ℕ) (d : Decision)
    (before joined after most : ℕ) →
    n ≡ held_size a → ws ≡ held_of (two and_then a b) h → before + weight a + weight b ≤ most →
    (word_at ws 0 ≡ 0 → ⊥) → words ≡ ws → joined ≡ before →
    ((g : History) → length g ≤ length h → take (length words - (n + 1)) (drop (n + 1) words)
    ≡ held_of b g → joined + weight b ≤ most → StepsCode b g yn now input d joined after) →
    StepsThen a b h (put_mid (n + 1) (length words - (n + 1)) words yn) now input d before after
then-on a b h ws words yn now input n d before joined after most sized held room other is
    same second =
    let on = second-is-on (from_done (answer_of a) h) (held_of a) (held_of b) h ws held other in
    let g = on.0 in
    let there : words ≡ 1 ∷ (held_of a [] ++ held_of b g) = is ∙ on.2 in
    let left : joined + weight b ≤ most = omega (arith, room, same) in
    let q = from-same b g yn now input d joined before after same
    (second g (done-shorter (answer_of a) h g on.1)
    (then-second-arg words (held_of a []) (held_of b g) 1 n there sized) left) in
    then-second a b h g yn (put_mid (n + 1) (length words - (n + 1)) words yn) now input d before
    after on.1 q
    (then-second-new words (held_of a []) (held_of b g) yn 1 n there sized)
