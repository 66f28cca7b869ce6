use Rattle.std.proofs.Common.{ℕ, max, Option, Some, None, List, [], ◌∷◌, subst, arith}
use Rattle.zs_term.specs.Schedule.{Schedule}
use Rattle.zs_bounds.specs.declared.driver.Driver.{Driver}
use Rattle.zs_bounds.specs.declared.told.Bounds.{Bounds}
use Rattle.zs_bounds.specs.Bounds.{Promises}
use Rattle.zs_bounds.specs.Calls.{Layer, Between, IsCall, IsCut, IsOver, calls_of, cut_most}
use Rattle.zs_bounds.specs.Calls.{cut_driver, IsDriverOver}
use Rattle.zs_bounds.proofs.Calls.{AreAttempts, one-next, next-least, cut-most}
use Rattle.zs_bounds.proofs.LimitParts.{some-is}
use Rattle.zs_bounds.proofs.laws.calls_are_attempts.Goals as goal

-- calls are attempts of the driver of calls
calls-are : (s : Schedule) (attempt : Between) (d : Driver) (b : Bounds) → AreAttempts attempt d →
    Promises s d b → AreAttempts (IsCall s attempt d.waits) (calls_of d b)
calls-are s attempt d b are promises begun m call =
    let ends = one-next s attempt d are begun call.0 m call.1 in
    let long = next-least s d begun call.0 m ends in
    record {
      least = omega (arith, long);
      most = λ k e. promises.next k e begun call.0 m ends;
    }

-- attempts that a limit cuts are those of the driver that it cuts
cuts-are : (limit : Option ℕ) (attempt : Between) (d : Driver) → AreAttempts attempt d →
    AreAttempts (IsCut limit attempt) (cut_driver limit d)
cuts-are None attempt d are begun m cut = are begun m cut
cuts-are (Some limit) attempt d are begun m cut =
    let whole = are begun cut.0 cut.1.0 in
    let long = whole.least in
    let at = cut.1.1 in
    record {
      least = omega (arith, long, at);
      most = λ k e.
          let is = some-is (cut_most (max limit 1) d.most) k e in
          let last = cut-most (max limit 1) begun cut.0 k d.most whole.most is in
          omega (arith, last, at);
    }

-- attempts over layers are those of a driver by their bounds
over-are : (d : Driver) (layers : List Layer) (e : Driver) → IsDriverOver d layers e →
    AreAttempts (IsOver d layers) e
over-are d [] e allows begun m attempt = allows begun m attempt
over-are d (l ∷ below) e is begun m attempt =
    let calls =
    calls-are l.schedule (IsOver d below) is.0 is.1.0 (over-are d below is.0 is.1.1.0) is.1.1.2 in
    is.1.1.3 begun m
    (subst (λ v. AreAttempts (IsCut l.limit (IsCall l.schedule (IsOver d below) v))
    (cut_driver l.limit (calls_of is.0 is.1.0))) is.1.1.1
    (cuts-are l.limit (IsCall l.schedule (IsOver d below) is.0.waits) (calls_of is.0 is.1.0) calls)
    begun m attempt)

pub returns : goal.returns
returns c = record { value = over-are }
