-- What `attempts_within` computes, step by step. `BeginsWithin` says what it means.
use Rattle.std.specs.Prelude.{ℕ, zero, suc, ◌+◌, ◌/◌, Bool, true, false, nat_lt, Option, Some, None}
use Rattle.zs_term.specs.Saturating.{saturated}
use Rattle.zs_term.specs.Schedule.{Schedule}
use Rattle.zs_bounds.specs.declared.driver.Driver.{Driver}
use Rattle.zs_bounds.specs.declared.span.Span.{Span}
use Rattle.zs_bounds.specs.declared.decisions.Decisions.{Decisions}
use Rattle.zs_bounds.specs.Driven.{shortest}
use Rattle.zs_bounds.specs.BoundsOf.{real_decisions, time_between}
use Rattle.zs_bounds.specs.StateRange.{StateRange, first_range, first_state, next_range, next_state}
use Rattle.zs_bounds.specs.Node.{node_schedule, node_state}
use Rattle.zs_bounds.specs.declared.node.Node.{Node}

-- the attempts for which there is time without waits
abbrev pub most_within : Driver → ℕ → ℕ
most_within a time = saturated (time / shortest a + 1)

-- n attempts, if the next one begins after the time; otherwise the later steps decide
abbrev pub unless_late : Bool → ℕ → (Unit {0} → ℕ) → ℕ
unless_late true n rest = n
unless_late false n rest = rest tt

-- after a step: no attempt more, if it can't go on; otherwise what follows, by the times up to the
-- next step, of which the least ones are added up
abbrev pub after_begin : Driver → Option Span → ℕ → ℕ → ℕ → (Span → ℕ → ℕ) → ℕ
after_begin a None time passed n rest = n
after_begin a (Some w) time passed n rest =
    let later = time_between a w in unless_late (nat_lt time (passed + later.low)) n
    (λ _. rest later (passed + later.low))

-- the attempts of at most `more` more steps, if n begin before the next step's wait
abbrev pub within_from : Schedule → Driver → ℕ → ℕ → StateRange → Decisions → ℕ → ℕ → ℕ
within_from s a time zero c d passed n = most_within a time
within_from s a time (suc more) c d passed n =
    after_begin a (real_decisions a d).waits time passed n
    (λ later at. within_from s a time more (next_state s c later) (next_range s c later).decision at
    (n + 1))

-- the attempts of at most `steps` steps
abbrev pub within_of : Schedule → Driver → ℕ → ℕ → ℕ
within_of s a time steps =
    within_from s a time steps (first_state s) (first_range s).decision 0 1

-- those of a node that has been stepped once, by what that step may decide
abbrev pub within_at : Node → Driver → ℕ → ℕ → Decisions → ℕ
within_at n a time steps first =
    within_from (node_schedule n) a time steps (node_state n) first 0 1
