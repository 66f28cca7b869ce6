-- What two parts in turn return together, and their states after a step.
use Rattle.std.proofs.Common.{◌≡◌, Bool, true, false, ◌||◌, refl, ap, ◌∙◌, if◌then◌else◌}
use Rattle.zs_term.specs.Schedule.{Schedule}
use Rattle.zs_bounds.specs.AnswerRange.{AnswerRange, no_result, result_hull, results_if, left_range}
use Rattle.zs_bounds.specs.AnswerRange.{right_range}
use Rattle.zs_bounds.specs.DecisionRange.{may_go_on}
use Rattle.zs_bounds.specs.StateRange.{StateRange, turns, turn_range, turn_state, with_first}
use Rattle.zs_bounds.specs.StateRange.{first_state, begun}
use Rattle.zs_bounds.specs.Node.{turns_joined}

-- ---- results

-- a fact that is looked at twice
right-once : (q : Bool) (b : AnswerRange) →
    results_if q (right_range (results_if q b)) ≡ results_if q (right_range b)
right-once true b = refl
right-once false b = refl

-- the results of both parts, by whether each may be on
joined : (p q : Bool) (a b f : AnswerRange) →
    turns_joined q (results_if p a) (results_if q b) (results_if (results_if p a).decision.stops f)
    ≡ turn_range p q a b f
joined true q a b f =
    let s = a.decision.stops in
    let left = left_range a in
    ap (λ x. result_hull (result_hull left x) (results_if s (right_range (results_if s f))))
    (right-once q b)
    ∙ ap (λ x. result_hull (result_hull left (results_if q (right_range b))) x) (right-once s f)
joined false q a b f =
    ap (λ x. result_hull (result_hull no_result x) no_result) (right-once q b)

-- the same for results that were made one after the other
pub turn_results : (p q : Bool) (a b f x y start : AnswerRange) →
    x ≡ results_if p a → y ≡ results_if q b → start ≡ results_if x.decision.stops f →
    turns_joined q x y start ≡ turn_range p q a b f
turn_results p q a b f x y start first second new =
    ap (λ z. turns_joined q x y z) new
    ∙ ap (λ z. turns_joined q z y (results_if z.decision.stops f)) first
    ∙ ap (λ z. turns_joined q (results_if p a) z (results_if (results_if p a).decision.stops f))
    second
    ∙ joined p q a b f

-- ---- states after a step

-- a part that was not on begins with its first step alone
begun-alone : (h : Bool) (v w f c : StateRange) → begun h false v f c ≡ begun h false w f c
begun-alone true v w f c = refl
begun-alone false v w f c = refl

-- the states of both parts, by whether each may be on
moved : (p q : Bool) (a : AnswerRange) (b : Schedule) (c n d m : StateRange) →
    turns (may_go_on (results_if p a).decision) (q || (results_if p a).decision.stops)
    (if p then n else c)
    (begun (results_if p a).decision.stops q (with_first b (if q then m else d)) (first_state b)
    (if q then m else d))
    ≡ turn_state p q a.decision c n d m (with_first b m) (first_state b)
moved true true a b c n d m = refl
moved true false a b c n d m =
    ap (λ x. turns (may_go_on a.decision) a.decision.stops n x)
    (begun-alone a.decision.stops (with_first b d) (with_first b m) (first_state b) d)
moved false q a b c n d m = refl

-- the same for parts that were stepped one after the other
pub turn_states : (p q on : Bool) (a x : AnswerRange) (b s : Schedule)
    (c n d m first old second : StateRange) →
    x ≡ results_if p a → on ≡ may_go_on x.decision → first ≡ (if p then n else c) →
    old ≡ (if q then m else d) → s ≡ b →
    second ≡ begun x.decision.stops q (with_first s old) (first_state s) old →
    turns on (q || x.decision.stops) first second
    ≡ turn_state p q a.decision c n d m (with_first b m) (first_state b)
turn_states p q on a x b s c n d m first old second x_is on_is first_is old_is s_is second_is =
    ap (λ z. turns z (q || x.decision.stops) first second) on_is
    ∙ ap (λ z. turns (may_go_on x.decision) (q || x.decision.stops) z second) first_is
    ∙ ap (λ z. turns (may_go_on x.decision) (q || x.decision.stops) (if p then n else c) z)
    (second_is ∙ ap (λ z. begun x.decision.stops q (with_first z old) (first_state z) old) s_is
    ∙ ap (λ z. begun x.decision.stops q (with_first b z) (first_state b) z) old_is)
    ∙ ap (λ z. turns (may_go_on z.decision) (q || z.decision.stops) (if p then n else c)
    (begun z.decision.stops q (with_first b (if q then m else d)) (first_state b)
    (if q then m else d))) x_is
    ∙ moved p q a b c n d m
