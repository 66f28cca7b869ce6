-- Decisions and how the operators join them.
use Rattle.std.proofs.Common.{◌≡◌, ℕ, min, max, Bool, true, false, is_some, Option, Some, None}
use Rattle.std.proofs.Common.{refl, arith}
use Rattle.zs_step.specs.declared.decision.Decision.{Decision}
use Rattle.zs_step.specs.declared.decision.Decision.TheVariants.{Stop, Next}
use Rattle.zs_step.specs.Answer.{later_of, earlier_of, only_if, is_next}
use Rattle.zs_bounds.specs.declared.span.Span.{Span}
use Rattle.zs_bounds.specs.declared.decisions.Decisions.{Decisions}
use Rattle.zs_bounds.specs.DecisionRange.{IsWaitIn, IsDecisionIn, may_go_on, wait_hull, later_waits}
use Rattle.zs_bounds.specs.DecisionRange.{earlier_waits, waits_if, decision_hull, both_decide}
use Rattle.zs_bounds.specs.DecisionRange.{either_decides, test_decides, going_on}
use Rattle.zs_bounds.proofs.Spans.{or-left, or-right, and-both}

-- ---- waits

wait_hull-left : (m : ℕ) (v w : Option Span) (x : ℕ) → IsWaitIn m v x → IsWaitIn m (wait_hull v w) x
wait_hull-left m None w x h = absurd h
wait_hull-left m (Some s) None x h = h
wait_hull-left m (Some s) (Some t) x h = record {
  low = omega (arith, h.low);
  high = omega (arith, h.high);
}

wait_hull-right : (m : ℕ) (v w : Option Span) (x : ℕ) → IsWaitIn m w x →
    IsWaitIn m (wait_hull v w) x
wait_hull-right m None w x h = h
wait_hull-right m (Some s) None x h = absurd h
wait_hull-right m (Some s) (Some t) x h = record {
  low = omega (arith, h.low);
  high = omega (arith, h.high);
}

later_waits-in : (m : ℕ) (v w : Option Span) (x y : ℕ) → IsWaitIn m v x → IsWaitIn m w y →
    IsWaitIn m (later_waits v w) (max x y)
later_waits-in m None w x y g h = absurd g
later_waits-in m (Some s) None x y g h = absurd h
later_waits-in m (Some s) (Some t) x y g h = record {
  low = omega (arith, g.low, h.low);
  high = omega (arith, g.high, h.high);
}

earlier_waits-in : (m : ℕ) (v w : Option Span) (x y : ℕ) → IsWaitIn m v x → IsWaitIn m w y →
    IsWaitIn m (earlier_waits v w) (min x y)
earlier_waits-in m None w x y g h = absurd g
earlier_waits-in m (Some s) None x y g h = absurd h
earlier_waits-in m (Some s) (Some t) x y g h = record {
  low = omega (arith, g.low, h.low);
  high = omega (arith, g.high, h.high);
}

waits_if-in : (m : ℕ) (b : Bool) (w : Option Span) (x : ℕ) → b ≡ true → IsWaitIn m w x →
    IsWaitIn m (waits_if b w) x
waits_if-in m true w x e h = h
waits_if-in m false w x e h = cc

-- ---- decisions

-- a wait says that a step may go on
some-wait : (m : ℕ) (w : Option Span) (x : ℕ) → IsWaitIn m w x → is_some w ≡ true
some-wait m None x h = absurd h
some-wait m (Some s) x h = refl

-- a decision to go on may be
pub next-may : (m : ℕ) (d : Decision) (a : Decisions) → IsDecisionIn m d a → is_next d ≡ true →
    may_go_on a ≡ true
next-may m Stop a h e = cc
next-may m (Next x) a h e = some-wait m a.waits x h

-- and so may one to stop
pub stop-may : (m : ℕ) (d : Decision) (a : Decisions) → IsDecisionIn m d a → is_next d ≡ false →
    a.stops ≡ true
stop-may m Stop a h e = h
stop-may m (Next x) a h e = cc

pub decision-left : (m : ℕ) (d : Decision) (a b : Decisions) → IsDecisionIn m d a →
    IsDecisionIn m d (decision_hull a b)
decision-left m Stop a b h = or-left a.stops b.stops h
decision-left m (Next x) a b h = wait_hull-left m a.waits b.waits x h

pub decision-right : (m : ℕ) (d : Decision) (a b : Decisions) → IsDecisionIn m d b →
    IsDecisionIn m d (decision_hull a b)
decision-right m Stop a b h = or-right a.stops b.stops h
decision-right m (Next x) a b h = wait_hull-right m a.waits b.waits x h

-- `&&`
pub both-in : (m : ℕ) (d e : Decision) (a b : Decisions) → IsDecisionIn m d a → IsDecisionIn m e b →
    IsDecisionIn m (later_of d e) (both_decide a b)
both-in m (Next x) (Next y) a b g h = later_waits-in m a.waits b.waits x y g h
both-in m (Next x) Stop a b g h = or-right a.stops b.stops h
both-in m Stop e a b g h = or-left a.stops b.stops g

-- `||`
pub either-in : (m : ℕ) (d e : Decision) (a b : Decisions) → IsDecisionIn m d a →
    IsDecisionIn m e b → IsDecisionIn m (earlier_of d e) (either_decides a b)
either-in m (Next x) (Next y) a b g h =
    wait_hull-left m (earlier_waits a.waits b.waits)
    (wait_hull (waits_if b.stops a.waits) (waits_if a.stops b.waits)) (min x y)
    (earlier_waits-in m a.waits b.waits x y g h)
either-in m (Next x) Stop a b g h =
    wait_hull-right m (earlier_waits a.waits b.waits)
    (wait_hull (waits_if b.stops a.waits) (waits_if a.stops b.waits)) x
    (wait_hull-left m (waits_if b.stops a.waits) (waits_if a.stops b.waits) x
    (waits_if-in m b.stops a.waits x h g))
either-in m Stop (Next y) a b g h =
    wait_hull-right m (earlier_waits a.waits b.waits)
    (wait_hull (waits_if b.stops a.waits) (waits_if a.stops b.waits)) y
    (wait_hull-right m (waits_if b.stops a.waits) (waits_if a.stops b.waits) y
    (waits_if-in m a.stops b.waits y g h))
either-in m Stop Stop a b g h = and-both a.stops b.stops g h

-- a test
pub test-in : (m : ℕ) (b passes fails : Bool) (d : Decision) (a : Decisions) →
    (b ≡ true → passes ≡ true) → (b ≡ false → fails ≡ true) →
    IsDecisionIn m d a → IsDecisionIn m (only_if b d) (test_decides passes fails a)
test-in m true passes fails Stop a pass fail h = or-left a.stops fails h
test-in m true passes fails (Next x) a pass fail h = waits_if-in m passes a.waits x (pass refl) h
test-in m false passes fails d a pass fail h = or-right a.stops fails (fail refl)

-- a first part that goes on
pub going_on-in : (m : ℕ) (d : Decision) (a : Decisions) → IsDecisionIn m d a → is_next d ≡ true →
    IsDecisionIn m d (going_on a)
going_on-in m Stop a h e = cc
going_on-in m (Next x) a h e = h
