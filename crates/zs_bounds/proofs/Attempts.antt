-- No more attempts begin within a time than `within_of` has.
use Rattle.std.proofs.Common.{◌≡◌, ℕ, zero, suc, ◌+◌, ◌*◌, ◌<◌, ◌≤◌, ◌⊎◌, inl, inr, Bool, true}
use Rattle.std.proofs.Common.{false, nat_lt, Option, Some, None, [], ◌∷◌, length, refl, subst}
use Rattle.std.proofs.Common.{arith}
use Rattle.std.proofs.Common.{Result, Ok, Err, IfOk}
use Rattle.std.proofs.lemmas.Nat.{le-div}
use Rattle.zs_term.specs.Schedule.{Schedule, has_factors}
use Rattle.zs_step.specs.declared.decision.Decision.{Decision}
use Rattle.zs_step.specs.declared.decision.Decision.TheVariants.{Stop, Next}
use Rattle.zs_step.specs.History.{History, first_moment, last_moment}
use Rattle.zs_step.specs.Answer.{answer_of, is_next}
use Rattle.zs_bounds.specs.declared.driver.Driver.{Driver}
use Rattle.zs_bounds.specs.declared.span.Span.{Span}
use Rattle.zs_bounds.specs.declared.decisions.Decisions.{Decisions}
use Rattle.zs_bounds.specs.Driven.{shortest, IsAttempt, WaitsFor, IsDriven}
use Rattle.zs_bounds.specs.Bounds.{BeginsWithin}
use Rattle.zs_bounds.specs.DecisionRange.{IsAfter, IsWaitIn, IsDecisionIn}
use Rattle.zs_bounds.specs.BoundsOf.{real_waits, time_between}
use Rattle.zs_bounds.specs.WithinOf.{most_within, unless_late, after_begin, within_from, within_of}
use Rattle.zs_bounds.specs.StateRange.{StateRange, first_range, first_state, next_range, next_state}
use Rattle.zs_bounds.proofs.DrivenHistories.{driven-attempts, driven-length, lets-goes, lets-waits}
use Rattle.zs_bounds.proofs.DrivenHistories.{driven-step}
use Rattle.zs_bounds.proofs.DriverWaits.{real-in, real-none}
use Rattle.zs_bounds.proofs.FormLimits.{swapped}
use Rattle.zs_bounds.proofs.Reached.{Reaches, stop-only, step-reaches, first-reaches, past-lt}

-- the attempt after a history begins after a time
abbrev BeginsAfter : Schedule → Driver → ℕ → History → Type 0
BeginsAfter s a time h =
    (begun u : ℕ) → IsAttempt a begun (first_moment h) → is_next (answer_of s h).decision ≡ true
    → WaitsFor a.waits (last_moment h) (answer_of s h).decision u
    → begun + time < last_moment h + u

length-or : (n m : ℕ) → (n < m) ⊎ (m ≤ n)
length-or n m = grind arith

-- if the attempts after all histories of some steps begin after a time, so do all later ones
later-after : (s : Schedule) (a : Driver) (time n : ℕ) →
    ((h : History) → IsDriven s a h → length h ≡ suc n → BeginsAfter s a time h) →
    (h : History) → IsDriven s a h → suc n ≤ length h → BeginsAfter s a time h
later-after s a time n at [] driven long = absurd driven
later-after s a time n at (p ∷ []) driven long =
    at (p ∷ []) driven (omega (arith, long))
later-after s a time n at (p ∷ (q ∷ h)) driven long =
    elim (length-or (length (q ∷ h)) (suc n)) [
      | inl lt ↦ at (p ∷ (q ∷ h)) driven (omega (arith, long, lt))
      | inr le ↦ (λ begun u begins goes waits.
          let before = lets-waits a q.0 p.0 (answer_of s (q ∷ h)).decision driven.1 in
          let went = lets-goes a q.0 p.0 (answer_of s (q ∷ h)).decision driven.1 in
          let after =
          later-after s a time n at (q ∷ h) driven.2 le begun before.0 begins went before.1.0 in
          let least = before.1.1.least in
          omega (arith, after, least))
    ]

-- then there are no more attempts within the time than these steps have before them
within-by : (s : Schedule) (a : Driver) (time n : ℕ) →
    ((h : History) → IsDriven s a h → length h ≡ suc n → BeginsAfter s a time h) →
    BeginsWithin s a time (suc n)
within-by s a time n at = record {
  first = omega arith;
  later = λ begun u h driven begins goes waits within.
      elim (length-or (length h) (suc n)) [
        | inl lt ↦ omega (arith, lt)
        | inr le ↦
            (let after =
            later-after s a time n at h driven le begun u begins goes waits in
            absurd (omega (arith, after, within)))
      ];
}

times-one : (x n : ℕ) → x * (n + 1) ≡ x * n + x
times-one x n = grind arith

most-by : (s : Schedule) (a : Driver) (time begun u : ℕ) (h : History) → IsDriven s a h →
    IsAttempt a begun (first_moment h) → last_moment h + u ≤ begun + time →
    length h + 1 ≤ most_within a time
most-by s a time begun u [] driven begins within = absurd driven
most-by s a time begun u (p ∷ h) driven begins within =
    let before = driven-attempts s a p h driven in
    let least = begins.least in
    let more = times-one (shortest a) (length h) in
    let fits =
    le-div (length h + 1) time (shortest a) (omega arith)
    (swapped (shortest a) (length h + 1) time (omega (arith, before, least, more, within))) in
    let small = driven-length s a (p ∷ h) driven in
    let step = driven-step s a p h driven in
    omega (arith, fits, small, step.tick)

-- the number for which there is time
most-hold : (s : Schedule) (a : Driver) (time : ℕ) → BeginsWithin s a time (most_within a time)
most-hold s a time = record {
  first = omega arith;
  later = λ begun u h driven begins goes waits within.
      most-by s a time begun u h driven begins within;
}

stops-not : (d : Decision) → d ≡ Stop → is_next d ≡ true → ⊥
stops-not Stop e goes = cc
stops-not (Next x) e goes = cc

-- no attempt begins after a step that may not go on
none-after : (s : Schedule) (a : Driver) (time n : ℕ) (c : StateRange) (d : Decisions) (passed : ℕ)
    → Reaches s a (suc n) c d passed → real_waits a.waits d.waits ≡ None →
    (h : History) → IsDriven s a h → length h ≡ suc n → BeginsAfter s a time h
none-after s a time n c d passed reaches e h driven long begun u begins goes waits =
    let stop =
    stop-only (last_moment h) (answer_of s h).decision d (reaches h driven long).decides
    (real-none a.waits d.waits e) in
    absurd (stops-not (answer_of s h).decision stop goes)

-- the end of a driver's wait after a step
wait-after : (a : Driver) (m u : ℕ) (d : Decision) (r : Decisions) (w : Span) → IsDecisionIn m d r →
    real_waits a.waits r.waits ≡ Some w → is_next d ≡ true → WaitsFor a.waits m d u → w.low ≤ u
wait-after a m u Stop r w is e goes waits = absurd cc
wait-after a m u (Next x) r w is e goes waits =
    let wait : IsAfter m w (m + u) =
    subst (λ v. IsWaitIn m v (m + u)) e (real-in a.waits m x u r.waits is waits) in
    let low = wait.low in
    omega (arith, low)

-- nor one within the time if the least times are longer
late-after : (s : Schedule) (a : Driver) (time n : ℕ) (c : StateRange) (d : Decisions) (passed : ℕ)
    (w : Span) → Reaches s a (suc n) c d passed → real_waits a.waits d.waits ≡ Some w →
    time < passed + (time_between a w).low →
    (h : History) → IsDriven s a h → length h ≡ suc n → BeginsAfter s a time h
late-after s a time n c d passed w reaches e late h driven long begun u begins goes waits =
    let at = reaches h driven long in
    let wait = wait-after a (last_moment h) u (answer_of s h).decision d w at.decides e
    goes waits in
    let before = at.late in
    let least = begins.least in
    omega (arith, wait, before, least, late)

-- the attempts after a step that may go on
unless-holds : (s : Schedule) (a : Driver) (time n : ℕ) (c : StateRange) (d : Decisions)
    (passed : ℕ)
    (w : Span) (late : Bool) (rest : Unit {0} → ℕ) → Reaches s a (suc n) c d passed →
    real_waits a.waits d.waits ≡ Some w → nat_lt time (passed + (time_between a w).low) ≡ late →
    BeginsWithin s a time (rest tt) →
    BeginsWithin s a time (unless_late late (suc n) rest)
unless-holds s a time n c d passed w true rest reaches e is holds =
    within-by s a time n (late-after s a time n c d passed w reaches e
    (past-lt time (passed + (time_between a w).low) is))
unless-holds s a time n c d passed w false rest reaches e is holds = holds

-- the attempts after a step
after-holds : (s : Schedule) (a : Driver) (time n : ℕ) (c : StateRange) (d : Decisions) (passed : ℕ)
    (waits : Option Span) (rest : Span → ℕ → ℕ) → Reaches s a (suc n) c d passed →
    real_waits a.waits d.waits ≡ waits →
    ((w : Span) → real_waits a.waits d.waits ≡ Some w →
    BeginsWithin s a time (rest (time_between a w) (passed + (time_between a w).low))) →
    BeginsWithin s a time (after_begin a waits time passed (suc n) rest)
after-holds s a time n c d passed None rest reaches is holds =
    within-by s a time n (none-after s a time n c d passed reaches is)
after-holds s a time n c d passed (Some w) rest reaches is holds =
    unless-holds s a time n c d passed w (nat_lt time (passed + (time_between a w).low))
    (λ _. rest (time_between a w) (passed + (time_between a w).low)) reaches is refl (holds w is)

more-by-one : (n : ℕ) → suc (suc n) ≡ suc n + 1
more-by-one n = omega arith

-- those of at most `more` more steps
within_from-holds : (s : Schedule) (a : Driver) (time more n : ℕ) (c : StateRange) (d : Decisions)
    (passed : ℕ) → has_factors s ≡ true → Reaches s a (suc n) c d passed →
    BeginsWithin s a time (within_from s a time more c d passed (suc n))
within_from-holds s a time zero n c d passed factors reaches = most-hold s a time
within_from-holds s a time (suc more) n c d passed factors reaches =
    after-holds s a time n c d passed (real_waits a.waits d.waits)
    (λ later at. within_from s a time more (next_state s c later) (next_range s c later).decision at
    (suc n + 1)) reaches refl
    (λ w is. subst
    (λ m. BeginsWithin s a time
    (within_from s a time more (next_state s c (time_between a w))
    (next_range s c (time_between a w)).decision (passed + (time_between a w).low) m))
    (more-by-one n)
    (within_from-holds s a time more (suc n) (next_state s c (time_between a w))
    (next_range s c (time_between a w)).decision (passed + (time_between a w).low) factors
    (step-reaches s a n c d passed w factors reaches is)))

-- the attempts of at most `steps` steps
pub within_of-holds : (s : Schedule) (a : Driver) (time steps : ℕ) → has_factors s ≡ true →
    BeginsWithin s a time (within_of s a time steps)
within_of-holds s a time steps factors =
    within_from-holds s a time steps 0 (first_state s) (first_range s).decision 0 factors
    (first-reaches s a factors)

-- a number that is that of a schedule, whatever state it was computed from
pub result-within : {E : Type 0} (s t : Schedule) (a : Driver) (time steps : ℕ) (c : StateRange)
    (d : Decisions) (r : Result ℕ E) → t ≡ s → c ≡ first_state s →
    d ≡ (first_range s).decision → has_factors s ≡ true →
    IfOk r (λ n. n ≡ within_from t a time steps c d 0 1) → IfOk r (BeginsWithin s a time)
result-within s t a time steps c d (Ok n) same state decides factors is =
    let e : within_of s a time steps ≡ n = cc in
    subst (BeginsWithin s a time) e (within_of-holds s a time steps factors)
result-within s t a time steps c d (Err e) same state decides factors is = tt
