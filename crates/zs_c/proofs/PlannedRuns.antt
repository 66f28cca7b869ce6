-- A loop that begins no attempt before its planned begin makes histories of its driver.
use Rattle.std.proofs.Common.{◌≡◌, ℕ, suc, ◌+◌, ◌-◌, ◌*◌, ◌/◌, min, max, ◌<◌, ◌≤◌, inl, inr, Bool}
use Rattle.std.proofs.Common.{true, false, nat_le, if◌then◌else◌, Option, Some, None, [], ◌∷◌}
use Rattle.std.proofs.Common.{length, refl, sym, ap, subst, arith}
use Rattle.std.specs.Int.{div_ceil}
use Rattle.std.proofs.lemmas.Grind.{div_ceil_times}
use Rattle.std.proofs.lemmas.Nat.{le-div}
use Rattle.std.proofs.Math.Nat.{div-mul-le_self, lt-div-mul-add, mul-le-mul_left, eq-or-lt_of_le}
use Rattle.zs_term.specs.Saturating.{saturated}
use Rattle.zs_term.specs.Schedule.{Schedule}
use Rattle.zs_step.specs.declared.decision.Decision.{Decision}
use Rattle.zs_step.specs.declared.decision.Decision.TheVariants.{Stop, Next}
use Rattle.zs_step.specs.History.{History, first_moment}
use Rattle.zs_step.specs.Answer.{answer_of}
use Rattle.zs_bounds.specs.declared.driver.Driver.{Driver}
use Rattle.zs_bounds.specs.declared.told.Bounds.{Bounds}
use Rattle.zs_bounds.specs.declared.waits.Waits.{Waits}
use Rattle.zs_bounds.specs.Driven.{IsStep, IsAttempt, IsWait, LetsEndAt, IsDriven}
use Rattle.zs_bounds.specs.Bounds.{Promises}
use Rattle.zs_c.specs.declared.turn.Turn.{Turn}
use Rattle.zs_c.specs.Bounded.{has_bound, run_told, bounds_told}
use Rattle.zs_c.specs.Plan.{nanos, end_of, moment_of, asked_of, begin_of, plan_of, plan_number}
use Rattle.zs_c.specs.Plan.{plan_begin, plan_after, step_of, IsFair}
use Rattle.zs_c.specs.Planned.{IsCounted, Allows, FollowsDriver, punctual, LetsBeginAt, IsPlanned}
use Rattle.zs_c.specs.Planned.{StaysWithin}
use Rattle.zs_c.specs.Shown.{IsCountable}
use Rattle.zs_c.proofs.Planning.{fair-begin}
use Rattle.zs_c.proofs.Running.{at-most}

-- nanoseconds as whole milliseconds
millis-low : (n : ℕ) → n / 1000000 * 1000000 ≤ n
millis-low n = div-mul-le_self n 1000000

millis-high : (n : ℕ) → n < n / 1000000 * 1000000 + 1000000
millis-high n = lt-div-mul-add {a = n} {b = 1000000} (omega arith)

millis-from : (m n : ℕ) → m * 1000000 ≤ n → m ≤ n / 1000000
millis-from m n le = le-div m n 1000000 (omega arith) le

-- ---- a fair begin is the end of a wait

-- it waits for no less than its percentage, and for no more than the schedule or a least wait
wait-least : (turn : Turn) (moment next begin l : ℕ) → IsFair turn moment next begin
    → l + min turn.percent 100 ≤ 100
    → (next - moment) * l / 100 ≤ begin / 1000000 - moment
wait-least turn moment next begin l fair allowed =
    let w = next - moment in
    let q = 100 - turn.percent in
    let a = w * l / 100 in
    let less : w * l ≤ w * q = mul-le-mul_left w (omega (arith, allowed)) in
    let back : a * 100 ≤ w * l = div-mul-le_self (w * l) 100 in
    let le : moment + a ≤ begin / 1000000 =
    millis-from (moment + a) begin (omega (arith, fair.least, less, back)) in
    omega (arith, le)

wait-most : (turn : Turn) (moment next begin m a : ℕ) → IsFair turn moment next begin
    → end_of turn / 1000000 ≤ moment
    → 100 ≤ m → asked_of turn ≤ a
    → begin / 1000000 - moment ≤ max (div_ceil ((next - moment) * m) 100) a
wait-most turn moment next begin m a fair ended allowed asked =
    let w = next - moment in
    let more : w * 100 ≤ w * m = mul-le-mul_left w allowed in
    let ceil = div_ceil_times (w * m) 100 (omega arith) in
    let end = millis-high (end_of turn) in
    let low = millis-low begin in
    omega (arith, more, ceil.0, end, low, fair.most, ended, asked)

fair-wait : (v : Waits) (turn : Turn) (moment next begin : ℕ) → IsFair turn moment next begin
    → end_of turn / 1000000 ≤ moment
    → begin ≤ 18446744073709551615 → v.least_percent + min turn.percent 100 ≤ 100
    → 100 ≤ v.most_percent
    → asked_of turn ≤ v.asked → IsWait (punctual v) (next - moment) (begin / 1000000 - moment)
fair-wait v turn moment next begin fair ended counted least most asked =
    let low = wait-least turn moment next begin v.least_percent fair least in
    let high = wait-most turn moment next begin v.most_percent v.asked fair ended most asked in
    let small = millis-low begin in
    record { least = low; most = omega (arith, high, small, counted) }

-- so a decision lets an attempt begin then
fair-lets : (v : Waits) (turn : Turn) (moment next begin : ℕ) → IsFair turn moment next begin
    → end_of turn / 1000000 ≤ moment
    → begin ≤ 18446744073709551615 → v.least_percent + min turn.percent 100 ≤ 100
    → 100 ≤ v.most_percent
    → asked_of turn ≤ v.asked → LetsBeginAt v moment (Next next) (begin / 1000000)
fair-lets v turn moment next begin fair ended counted least most asked = (
  millis-from moment begin fair.step,
  fair-wait v turn moment next begin fair ended counted least
      most asked,
)

-- ---- an attempt that is planned ends as its driver lets it

-- the moment of a turn whose planned begin is counted
moment-is : (planned : ℕ) (turn : Turn) → planned ≤ 18446744073709551615
    → moment_of (planned / 1000000) turn ≡ max (end_of turn / 1000000) (planned / 1000000 + 1)
moment-is planned turn counted = let low = millis-low planned in omega (arith, low, counted)

moment-within : (planned : ℕ) (turn : Turn) → planned ≤ 18446744073709551615 → IsCounted turn
    → moment_of (planned / 1000000) turn ≤ 999999999999999
moment-within planned turn counted fits =
    let low = millis-low planned in
    let end = millis-low (end_of turn) in
    omega (arith, low, end, counted, fits.began, fits.ended)

-- a wait that may also be late
later-wait : (v : Waits) (w u n : ℕ) → IsWait (punctual v) w u → u ≤ n → n ≤ u + v.late
    → n ≤ 18446744073709551615
    → IsWait v w n
later-wait v w u n wait low high small =
    let least : w * v.least_percent / 100 ≤ u = wait.least in
    let most : u ≤ saturated (max (div_ceil (w * v.most_percent) 100) v.asked + 0) = wait.most in
    record { least = omega (arith, least, low); most = omega (arith, most, high, small) }

-- an attempt that takes any time
lets-any : (d : Driver) (now x planned m : ℕ) → d.least ≤ 1 → d.most ≡ None
    → LetsBeginAt d.waits now (Next x) planned
    → planned < m → m ≤ 999999999999999 → LetsEndAt d now (Next x) m
lets-any d now x planned m short unlimited lets after small = (
  planned - now,
  (
    later-wait d.waits (x - now) (planned - now) (planned - now) lets.1 (omega arith) (omega arith)
        (omega (arith, after, small)),
    record { least = omega (arith, short, after, lets.0); most = λ k e. absurd cc },
  ),
)

-- an attempt that begins in time and takes at most k milliseconds
lets-timed : (d : Driver) (now x planned begun m k : ℕ) → d.least ≤ 1 → d.most ≡ Some k
    → LetsBeginAt d.waits now (Next x) planned
    → planned ≤ begun → begun ≤ planned + d.waits.late → begun < m → m ≤ begun + k
    → m ≤ 999999999999999
    → LetsEndAt d now (Next x) m
lets-timed d now x planned begun m k short limit lets low high after within small = (
  begun - now,
  (
    later-wait d.waits (x - now) (planned - now) (begun - now) lets.1 (omega (arith, low))
        (omega (arith, high)) (omega (arith, after, small)),
    record {
      least = omega (arith, short, after, low, lets.0);
      most = λ l e. let same : k ≡ l = cc
          in omega (arith, same, within, low, lets.0);
    },
  ),
)

-- the same, of a turn
lets-turn : (o : Option ℕ) (d : Driver) (p : ℕ × ℕ) (h : History) (x planned : ℕ) (turn : Turn)
    → d.most ≡ o → d.least ≤ 1
    → planned ≤ 18446744073709551615 → IsCounted turn → FollowsDriver d (p ∷ h) planned turn
    → LetsBeginAt d.waits p.0 (Next x) (planned / 1000000)
    → LetsEndAt d p.0 (Next x) (moment_of (planned / 1000000) turn)
lets-turn None d p h x planned turn is short counted fits keeps lets =
    let now = moment-is planned turn counted in
    lets-any d p.0 x (planned / 1000000) (moment_of (planned / 1000000) turn) short is lets
    (omega (arith, now)) (moment-within planned turn counted fits)
lets-turn (Some k) d p h x planned turn is short counted fits keeps lets =
    let on = keeps k is in
    let m = moment_of (planned / 1000000) turn in
    let now : m ≡ max (end_of turn / 1000000) (planned / 1000000 + 1) =
    moment-is planned turn counted in
    let begun : planned ≤ turn.began = on.begins.0 in
    let in_time : turn.began ≤ planned + d.waits.late * 1000000 = on.begins.1 in
    let low =
    millis-from (planned / 1000000) turn.began
    (let back = millis-low planned in omega (arith, back, begun)) in
    let high = millis-high planned in
    let back = millis-low turn.began in
    let after = millis-high turn.began in
    let end = millis-low (end_of turn) in
    lets-timed d p.0 x (planned / 1000000) (min (turn.began / 1000000) (m - 1)) m k short is lets
    (omega (arith, low, now))
    (omega (arith, in_time, high, back))
    (omega (arith, now))
    (omega (arith, now, low, after, end, on.falls_not, on.ends, on.some))
    (moment-within planned turn counted fits)

-- the same, of any decision
lets-decided : (d : Driver) (p : ℕ × ℕ) (h : History) (e : Decision) (planned : ℕ) (turn : Turn)
    → d.least ≤ 1
    → planned ≤ 18446744073709551615 → IsCounted turn → FollowsDriver d (p ∷ h) planned turn
    → LetsBeginAt d.waits p.0 e (planned / 1000000)
    → LetsEndAt d p.0 e (moment_of (planned / 1000000) turn)
lets-decided d p h Stop planned turn short counted fits keeps lets = absurd lets
lets-decided d p h (Next x) planned turn short counted fits keeps lets =
    lets-turn d.most d p h x planned turn refl short counted fits keeps lets

-- ---- the history after a turn

-- the step of a turn
turn-step : (planned : ℕ) (turn : Turn) → planned ≤ 18446744073709551615 → IsCounted turn
    → IsStep (step_of (planned / 1000000) turn)
turn-step planned turn counted fits =
    record { tick = moment-within planned turn counted fits; input = omega (arith, fits.input) }

-- the driver can make the history after a turn
pub turn-driven : (t : Schedule) (d : Driver) (h : History) (planned : ℕ) (turn : Turn)
    → d.least ≤ 1 → IsCounted turn
    → IsPlanned t d h planned → FollowsDriver d h planned turn
    → IsDriven t d (step_of (planned / 1000000) turn ∷ h)
turn-driven t d [] planned turn short fits was keeps = turn-step planned turn was.counted fits
turn-driven t d (p ∷ h) planned turn short fits was keeps = (
  turn-step planned turn was.counted fits,
  lets-decided d p h (answer_of t (p ∷ h)).decision planned turn short was.counted fits keeps
      was.so_far.2,
  was.so_far.0,
)

-- the first attempt is one of the driver
first-timed : (o : Option ℕ) (d : Driver) (turn : Turn) → d.most ≡ o → d.least ≤ 1 → IsCounted turn
    → FollowsDriver d [] 0 turn
    → IsAttempt d 0 (moment_of (0 / 1000000) turn)
first-timed None d turn is short fits keeps =
    record { least = omega (arith, short); most = λ k e. absurd cc }
first-timed (Some k) d turn is short fits keeps =
    let on = keeps k is in
    let begun : turn.began ≡ 0 = on.begins in
    let end = millis-low (end_of turn) in
    record {
      least = omega (arith, short);
      most = λ l e. let same : k ≡ l = cc in omega
          (arith, same, begun, end, on.falls_not, on.ends, on.some);
    }

-- and its first attempt is one of the driver, from 0 on
pub turn-first : (t : Schedule) (d : Driver) (h : History) (planned : ℕ) (turn : Turn) → d.least ≤ 1
    → IsCounted turn
    → IsPlanned t d h planned → FollowsDriver d h planned turn
    → IsAttempt d 0 (first_moment (step_of (planned / 1000000) turn ∷ h))
turn-first t d [] planned turn short fits was keeps =
    let none : planned ≡ 0 = was.so_far in
    subst (λ n. IsAttempt d 0 (moment_of (n / 1000000) turn)) (sym none)
    (first-timed d.most d turn refl short fits (subst (λ n. FollowsDriver d [] n turn) none keeps))
turn-first t d (p ∷ h) planned turn short fits was keeps = was.so_far.1

-- an end in milliseconds within a run is before that run as C reads it
before-run : (o : Option ℕ) (end : ℕ) → end ≤ 18446744073709551615
    → ((r : ℕ) → o ≡ Some r → end / 1000000 ≤ r) → has_bound o ≡ 1 → end < nanos (run_told o)
before-run None end counted within some = absurd (omega (arith, some))
before-run (Some r) end counted within some =
    omega (arith, within r refl, millis-high end, counted)

-- an attempt that follows its driver ends before the longest run of its bounds
pub turn-ends : (t : Schedule) (d : Driver) (h : History) (planned : ℕ) (turn : Turn) (b : Bounds)
    → d.least ≤ 1 → IsCounted turn
    → IsPlanned t d h planned → FollowsDriver d h planned turn → Promises t d b
    → (bounds_told b).has_longest_run ≡ 1
    → end_of turn < nanos (bounds_told b).longest_run
turn-ends t d h planned turn b short fits was keeps holds some =
    let driven = turn-driven t d h planned turn short fits was keeps in
    let first = turn-first t d h planned turn short fits was keeps in
    before-run b.longest_run (end_of turn) (omega (arith, fits.began, fits.ended))
    (λ r is. let within = holds.run r is (step_of (planned / 1000000) turn ∷ h) driven 0 first in
    omega (arith, within)) some

-- ---- what a turn promises

-- a begin is planned if it is counted
chosen : (b : Bool) (n m begin : ℕ) → nat_le n m ≡ b → (if b then Some n else None) ≡ Some begin
    → (n ≡ begin) × (begin ≤ m)
chosen true n m begin is plans =
    let same : n ≡ begin = cc in
    let le : n ≤ m = at-most n m is in
    (same, omega (arith, same, le))
chosen false n m begin is plans = absurd cc

-- the begin of a plan
plan-some : (turn : Turn) (moment next begin : ℕ) → plan_of turn moment (Next next) ≡ Some begin
    → (begin_of turn moment next ≡ begin) × (begin ≤ 18446744073709551615)
plan-some turn moment next begin plans =
    chosen (nat_le (begin_of turn moment next) 18446744073709551615) (begin_of turn moment next)
    18446744073709551615 begin refl plans

-- a plan isn't both none and some
none-some : (n : ℕ) (o : Option ℕ) → o ≡ None → o ≡ Some n → ⊥
none-some n o none some = cc

-- the next attempt of a plan
planned-next : (t : Schedule) (d : Driver) (h : History) (planned : ℕ) (turn : Turn) (begin : ℕ)
    (e : Decision) → Allows d turn
    → IsCounted turn → IsPlanned t d h planned → FollowsDriver d h planned turn
    → (answer_of t (step_of (planned / 1000000) turn ∷ h)).decision ≡ e
    → plan_of turn (moment_of (planned / 1000000) turn) e ≡ Some begin
    → IsPlanned t d (step_of (planned / 1000000) turn ∷ h) begin
planned-next t d h planned turn begin Stop allows fits was keeps is plans = absurd cc
planned-next t d h planned turn begin (Next x) allows fits was keeps is plans =
    let m = moment_of (planned / 1000000) turn in
    let some = plan-some turn m x begin plans in
    let fair : IsFair turn m x begin =
    subst (IsFair turn m x) some.0 (fair-begin turn m x fits.draw) in
    record {
      counted = some.1;
      so_far = (
        turn-driven t d h planned turn allows.shortest fits was keeps,
        turn-first t d h planned turn allows.shortest fits was keeps,
        subst (λ k. LetsBeginAt d.waits m k (begin / 1000000)) (sym is)
            (fair-lets d.waits turn m x begin fair (omega arith) some.1 allows.least allows.most
            allows.asked),
      );
    }

-- one more attempt is made only after a step that goes on
one-more : (t : Schedule) (d : Driver) (h : History) (planned : ℕ) (turn : Turn) (o : Option ℕ)
    (b : Bounds) (k : ℕ)
    → Promises t d b → b.most ≡ Some k → IsDriven t d (step_of (planned / 1000000) turn ∷ h)
    → plan_after t h (planned / 1000000) turn ≡ o
    → suc (length h) + (1 - plan_number o) ≤ k
one-more t d h planned turn None b k holds is driven plans =
    let le = holds.most k is (step_of (planned / 1000000) turn ∷ h) driven in omega (arith, le)
one-more t d h planned turn (Some begin) b k holds is driven plans =
    let g = step_of (planned / 1000000) turn ∷ h in
    let le = holds.most k is g driven in
    elim (eq-or-lt_of_le le) [
      | inl all ↦
          let stops = holds.done k is g driven all in
          absurd (none-some begin (plan_after t h (planned / 1000000) turn)
          (ap (plan_of turn (moment_of (planned / 1000000) turn)) stops) plans)
      | inr less ↦ omega (arith, less)
    ]

-- the next attempt, if there is one
planned-on : (t : Schedule) (d : Driver) (h : History) (planned : ℕ) (turn : Turn)
    (number begin : ℕ) (o : Option ℕ) → Allows d turn
    → IsCounted turn → IsPlanned t d h planned → FollowsDriver d h planned turn
    → plan_after t h (planned / 1000000) turn ≡ o → number ≡ plan_number o → begin ≡ plan_begin o
    → number ≡ 0
    → IsPlanned t d (step_of (planned / 1000000) turn ∷ h) begin
planned-on t d h planned turn number begin None allows fits was keeps plans numbered begins none =
    absurd (omega (arith, numbered, none))
planned-on t d h planned turn number begin (Some n) allows fits was keeps plans numbered begins none
    =
    subst (λ k. IsPlanned t d (step_of (planned / 1000000) turn ∷ h) k) (sym begins)
    (planned-next t d h planned turn n (answer_of t (step_of (planned / 1000000) turn ∷ h)).decision
    allows fits was keeps refl plans)

-- the headline
-- a decision lets an attempt end only later
ends-later : (d : Driver) (now m : ℕ) (x : Decision) → LetsEndAt d now x m → now < m
ends-later d now m Stop lets = absurd lets
ends-later d now m (Next x) lets = omega (arith, lets.1.1.least)

-- so a driver makes no more steps than its clock counts
driven-few : (t : Schedule) (d : Driver) (p : ℕ × ℕ) (h : History) → IsDriven t d (p ∷ h)
    → length h ≤ p.0
driven-few t d p [] driven = omega arith
driven-few t d p (q ∷ h) driven =
    omega (arith, driven-few t d q h driven.2, ends-later d q.0 p.0 _ driven.1)

driven-tick : (t : Schedule) (d : Driver) (p : ℕ × ℕ) (h : History) → IsDriven t d (p ∷ h)
    → p.0 ≤ 999999999999999
driven-tick t d p [] driven = driven.tick
driven-tick t d p (q ∷ h) driven = driven.0.tick

-- the sizes of lists after the steps of a loop fit 64 bits
pub planned-countable : (t : Schedule) (d : Driver) (h : History) (planned : ℕ)
    → IsPlanned t d h planned → IsCountable t h
planned-countable t d [] planned was kept = omega arith
planned-countable t d (p ∷ h) planned was kept =
    omega (arith, driven-few t d p h was.so_far.0, driven-tick t d p h was.so_far.0)

pub stays-within : (t : Schedule) (d : Driver) (h : History) (planned : ℕ) (turn : Turn)
    (number begin : ℕ) (o : Option ℕ) → Allows d turn
    → IsCounted turn → IsPlanned t d h planned → FollowsDriver d h planned turn
    → plan_after t h (planned / 1000000) turn ≡ o → number ≡ plan_number o → begin ≡ plan_begin o
    → StaysWithin t d (step_of (planned / 1000000) turn ∷ h) turn number begin
stays-within t d h planned turn number begin o allows fits was keeps plans numbered begins =
    let driven = turn-driven t d h planned turn allows.shortest fits was keeps in
    record {
      driven = driven;
      planned = λ zero_is. planned-on t d h planned turn number begin o allows fits was keeps plans
          numbered begins zero_is;
      most = λ b k holds is. let more = one-more t d h planned turn o b k holds is driven plans in
          omega (arith, more, numbered);
      run = λ b holds some. turn-ends t d h planned turn b allows.shortest fits was keeps holds
          some;
    }
