-- What a step may decide, and how the operators join it.
use Rattle.std.specs.Prelude.{◌≡◌, ℕ, ◌+◌, ◌≤◌, min, max, Bool, true, false, ◌&&◌, ◌||◌, is_some}
use Rattle.std.specs.Prelude.{Option, Some, None}
use Rattle.zs_step.specs.declared.decision.Decision.{Decision}
use Rattle.zs_step.specs.declared.decision.Decision.TheVariants.{Stop, Next}
use Rattle.zs_bounds.specs.declared.span.Span.{Span}
use Rattle.zs_bounds.specs.declared.decisions.Decisions.{Decisions}
use Rattle.zs_bounds.specs.Span.{span, hull}

-- decisions of their two parts
abbrev pub decisions : Bool → Option Span → Decisions
decisions stops waits = record { stops = stops; waits = waits }

-- a moment is a wait of a span after another one
pub record IsAfter (m : ℕ) (s : Span) (x : ℕ) : Type 0 where
  pub low : m + s.low ≤ x
  pub high : x ≤ m + s.high

-- a moment may be gone on at
abbrev pub IsWaitIn : ℕ → Option Span → ℕ → Type 0
IsWaitIn m None x = ⊥
IsWaitIn m (Some s) x = IsAfter m s x

-- a decision at a moment is among some
abbrev pub IsDecisionIn : ℕ → Decision → Decisions → Type 0
IsDecisionIn m Stop d = d.stops ≡ true
IsDecisionIn m (Next x) d = IsWaitIn m d.waits x

-- whether a step may go on
abbrev pub may_go_on : Decisions → Bool
may_go_on d = is_some d.waits

-- the waits of one or the other
abbrev pub wait_hull : Option Span → Option Span → Option Span
wait_hull None w = w
wait_hull (Some s) None = Some s
wait_hull (Some s) (Some t) = Some (hull s t)

-- the later of two waits, if both go on
abbrev pub later_waits : Option Span → Option Span → Option Span
later_waits None w = None
later_waits (Some s) None = None
later_waits (Some s) (Some t) = Some (span (max s.low t.low) (max s.high t.high))

-- the earlier of two waits, if both go on
abbrev pub earlier_waits : Option Span → Option Span → Option Span
earlier_waits None w = None
earlier_waits (Some s) None = None
earlier_waits (Some s) (Some t) = Some (span (min s.low t.low) (min s.high t.high))

-- waits, if a fact holds
abbrev pub waits_if : Bool → Option Span → Option Span
waits_if true w = w
waits_if false w = None

-- the decisions of one or the other
abbrev pub decision_hull : Decisions → Decisions → Decisions
decision_hull d e = decisions (d.stops || e.stops) (wait_hull d.waits e.waits)

-- `&&` goes on if both do
abbrev pub both_decide : Decisions → Decisions → Decisions
both_decide d e = decisions (d.stops || e.stops) (later_waits d.waits e.waits)

-- `||` goes on if one does: with the wait of one alone if the other may be done
abbrev pub either_decides : Decisions → Decisions → Decisions
either_decides d e =
    decisions (d.stops && e.stops)
    (wait_hull (earlier_waits d.waits e.waits)
    (wait_hull (waits_if e.stops d.waits) (waits_if d.stops e.waits)))

-- a test lets a step go on if it may pass, and ends it if it may fail
abbrev pub test_decides : Bool → Bool → Decisions → Decisions
test_decides passes fails d = decisions (d.stops || fails) (waits_if passes d.waits)

-- no decision to stop
abbrev pub going_on : Decisions → Decisions
going_on d = decisions false d.waits

-- no decision at all
abbrev pub no_decision : Decisions
no_decision = decisions false None
